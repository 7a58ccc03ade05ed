-- Chains of another kind have no regular expressions.
use Rattle.std.proofs.Common.{ℕ, ◌≡◌, ◌∙◌, Bool, true, false, List, [], ◌∷◌, ◌++◌, refl, ap}
use Rattle.std.specs.Prelude.{Option, None, if◌then◌else◌, length, nat_le}
use Rattle.std.specs.List.{flat_map}
use Rattle.modifier_words.specs.declared.form.ChainForm.{ChainForm}
use Rattle.modifier_words.specs.declared.form.ChainForm.TheVariants.{Bare, Presence, Networks, Orders, Reference, Expressions, Texts}
use Rattle.modifier_words.specs.declared.form.Flags.{Flags}
use Rattle.rule_detections.specs.Expressions.{expression_at, use_expressions}
use Rattle.rule_detections.specs.declared.expression.Expression.{Expression}
use Rattle.sig_base.specs.declared.refusal.Place.{Place}
use Rattle.rule_detections.specs.TestsOf.{scalar_use, form_use}
use Rattle.modifier_values.specs.Uses.{Use, text_of, expression_in}
use Rattle.yaml_tree.specs.Nodes.{place_of}
use Rattle.yaml_tree.specs.Tree.{Scalar, null, truth, whole, text, Tree, scalar, list, map}

both_none : (b : Bool) (found : List Expression) → found ≡ [] → (if b then found else []) ≡ []
both_none true found none = none
both_none false found none = refl

-- what asks for none has none
asks_none : (most : ℕ) (place : Place) (u : Use) → expression_in u ≡ None → use_expressions most place u ≡ []
asks_none most place u none = both_none (nat_le (length (text_of u)) most) (expression_at place (expression_in u)) (ap (expression_at place) none)

nulls_none : (nulls : Bool) → expression_in (scalar_use (Texts nulls) null) ≡ None
nulls_none true = refl
nulls_none false = refl

-- a chain of another kind takes no scalar for one
scalar_none : (form : ChainForm) (s : Scalar) → ((flags : Flags) → form ≡ Expressions flags → ⊥) → expression_in (scalar_use form s) ≡ None
scalar_none Bare null other = refl
scalar_none Bare (truth b) other = refl
scalar_none Bare (whole n) other = refl
scalar_none Bare (text t) other = refl
scalar_none Presence null other = refl
scalar_none Presence (truth b) other = refl
scalar_none Presence (whole n) other = refl
scalar_none Presence (text t) other = refl
scalar_none Networks null other = refl
scalar_none Networks (truth b) other = refl
scalar_none Networks (whole n) other = refl
scalar_none Networks (text t) other = refl
scalar_none (Orders op) null other = refl
scalar_none (Orders op) (truth b) other = refl
scalar_none (Orders op) (whole n) other = refl
scalar_none (Orders op) (text t) other = refl
scalar_none Reference null other = refl
scalar_none Reference (truth b) other = refl
scalar_none Reference (whole n) other = refl
scalar_none Reference (text t) other = refl
scalar_none (Expressions flags) s other = absurd (other flags refl)
scalar_none (Texts nulls) null other = nulls_none nulls
scalar_none (Texts nulls) (truth b) other = refl
scalar_none (Texts nulls) (whole n) other = refl
scalar_none (Texts nulls) (text t) other = refl

form_none : (form : ChainForm) (t : Tree) → ((flags : Flags) → form ≡ Expressions flags → ⊥) → expression_in (form_use form t) ≡ None
form_none form (scalar a s) other = scalar_none form s other
form_none form (list a es) other = refl
form_none form (map a ms) other = refl

pub none_found : (most : ℕ) (form : ChainForm) (ts : List Tree) → ((flags : Flags) → form ≡ Expressions flags → ⊥)
    → flat_map (λ t. use_expressions most (place_of t) (form_use form t)) ts ≡ []
none_found most form [] other = refl
none_found most form (t ∷ ts) other =
    ap (λ (found : List Expression). found ++ flat_map (λ t. use_expressions most (place_of t) (form_use form t)) ts)
    (asks_none most (place_of t) (form_use form t) (form_none form t other))
    ∙ none_found most form ts other
