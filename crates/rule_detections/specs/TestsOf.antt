-- Which tests a chain of modifiers makes of a value (Sigma specification 2.0, modifiers).
use Rattle.std.specs.Prelude.{ℕ, ℤ, ◌≡◌, Bool, true, false, List, [], ◌∷◌, map as list_map, codes, if◌then◌else◌, Option}
use Rattle.std.specs.Fmt.{signed_decimal}
use Rattle.std.specs.List.{list_any}
use Rattle.modifier_words.specs.Chains.{form_of}
use Rattle.modifier_words.specs.Kinds.{is_cased}
use Rattle.modifier_words.specs.Written.{Written}
use Rattle.modifier_words.specs.declared.form.ChainForm.{ChainForm}
use Rattle.modifier_words.specs.declared.form.ChainForm.TheVariants.{Bare, Presence, Networks, Orders, Reference, Expressions, Texts}
use Rattle.sig_base.specs.declared.refusal.Place.{Place}
use Rattle.sig_base.specs.declared.refusal.Refusal.{Refusal}
use Rattle.sig_encode.specs.Networks.{Net, IsNetwork}
use Rattle.sig_strings.specs.declared.part.Part.{Part}
use Rattle.modifier_values.specs.Uses.{Use, unused, absent, existing, pattern, network, number, ordered, reference, expression, use_refusal, ArePatterns}
use Rattle.yaml_tree.specs.Nodes.{place_of}
use Rattle.yaml_tree.specs.Tree.{Scalar, null, truth, whole, text, Tree, scalar, list, map}
use Rattle.rule_detections.specs.declared.test.Test.{Test}
use Rattle.rule_detections.specs.declared.test.Test.TheVariants as tests

-- how a truth value is written
abbrev pub truth_text : Bool → List ℕ
truth_text true = codes "true"
truth_text false = codes "false"

-- what a value that is no list and no map is taken for
abbrev pub scalar_use : ChainForm → Scalar → Use
scalar_use Bare null = absent
scalar_use Bare (truth b) = pattern (truth_text b)
scalar_use Bare (whole n) = number n
scalar_use Bare (text t) = pattern t
scalar_use Presence null = unused
scalar_use Presence (truth b) = existing b
scalar_use Presence (whole n) = unused
scalar_use Presence (text t) = unused
scalar_use Networks null = unused
scalar_use Networks (truth b) = unused
scalar_use Networks (whole n) = unused
scalar_use Networks (text t) = network t
scalar_use (Orders op) null = unused
scalar_use (Orders op) (truth b) = unused
scalar_use (Orders op) (whole n) = ordered op n
scalar_use (Orders op) (text t) = unused
scalar_use Reference null = unused
scalar_use Reference (truth b) = unused
scalar_use Reference (whole n) = unused
scalar_use Reference (text t) = reference t
scalar_use (Expressions flags) null = unused
scalar_use (Expressions flags) (truth b) = unused
scalar_use (Expressions flags) (whole n) = unused
scalar_use (Expressions flags) (text t) = expression flags t
scalar_use (Texts nulls) null = if nulls then absent else unused
scalar_use (Texts nulls) (truth b) = pattern (truth_text b)
scalar_use (Texts nulls) (whole n) = pattern (signed_decimal n)
scalar_use (Texts nulls) (text t) = pattern t

-- lists and maps are never taken
abbrev pub form_use : ChainForm → Tree → Use
form_use form (scalar at s) = scalar_use form s
form_use form (list at parts) = unused
form_use form (map at parts) = unused

abbrev pub use_of : Written → Tree → Use
use_of chain value = form_use (form_of chain) value

-- why a value gives no tests, where a regular expression isn't built at each of these places
abbrev pub value_refusal : List Place → ℕ → ℕ → Written → Tree → Option Refusal
value_refusal unbuilt most dashes chain value = use_refusal unbuilt most dashes chain (place_of value) (use_of chain value)

-- the test that a text fits this pattern
abbrev pub fits_of : Written → List Part → Test
fits_of chain parts = tests.Fits parts (list_any is_cased chain.modifiers)

-- a test for each of the patterns that a text stands for under the chain
pub record AreFits (chain : Written) (t : List ℕ) (ts : List Test) : Type 0 where
  pub patterns : List (List Part)
  pub are_patterns : ArePatterns chain t patterns
  pub tests_are : ts ≡ list_map (fits_of chain) patterns

-- the test that a value is an address of the network that a text is
abbrev pub AreInside : List ℕ → List Test → Type 0
AreInside t ts = (n : Net) × IsNetwork t n × (ts ≡ tests.Inside n ∷ [])

abbrev pub UseTests : Written → Use → List Test → Type 0
UseTests chain unused ts = ⊥
UseTests chain absent ts = ts ≡ tests.Absent ∷ []
UseTests chain (existing b) ts = ts ≡ tests.Exists b ∷ []
UseTests chain (pattern t) ts = AreFits chain t ts
UseTests chain (network t) ts = AreInside t ts
UseTests chain (number n) ts = ts ≡ tests.Equals n ∷ []
UseTests chain (ordered op n) ts = ts ≡ tests.Compare op n ∷ []
UseTests chain (reference t) ts = ts ≡ tests.SameAs t ∷ []
UseTests chain (expression flags t) ts = ts ≡ tests.Finds t flags ∷ []

-- these are the tests that the chain makes of the value
abbrev pub TestsOf : Written → Tree → List Test → Type 0
TestsOf chain value ts = UseTests chain (use_of chain value) ts
