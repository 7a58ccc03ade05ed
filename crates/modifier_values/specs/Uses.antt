-- What a chain takes a value for, and why that is refused (Sigma specification 2.0, modifiers).
use Rattle.std.specs.Prelude.{ℕ, ◌≡◌, Bool, true, false, ◌||◌, not, nat_le, ℤ, List, [], ◌∷◌, length, map, Option, Some, None, is_none, is_some}
use Rattle.std.specs.List.{list_any}
use Rattle.sig_base.specs.declared.refusal.Place.{Place}
use Rattle.sig_base.specs.declared.refusal.Refusal.{Refusal}
use Rattle.sig_base.specs.Judged.{must, first}
use Rattle.modifier_windash.specs.Choices.{dash_count}
use Rattle.event_schema.specs.Names.{is_legal}
use Rattle.modifier_words.specs.Kinds.{is_expand}
use Rattle.modifier_words.specs.Written.{Written}
use Rattle.modifier_words.specs.declared.modifier.Encoding.{Encoding}
use Rattle.modifier_words.specs.declared.form.Flags.{Flags}
use Rattle.modifier_words.specs.declared.modifier.Op.{Op}
use Rattle.sig_encode.specs.Written.{net_in}
use Rattle.sig_strings.specs.Edits.{has_wildcard, plain_text}
use Rattle.sig_strings.specs.Spells.{Spells}
use Rattle.sig_strings.specs.declared.part.Part.{Part}
use Rattle.modifier_values.specs.Edited.{pattern_of}
use Rattle.modifier_values.specs.Encoded.{encoding_of, units_of, bytes_in, least_bytes, as_pattern, AreTexts, AreAlternatives}
use Rattle.modifier_values.specs.Expressions.{expression_text, is_readable, is_built_at}
use Rattle.modifier_values.specs.Numbers.{is_whole}
use Rattle.modifier_values.specs.Parts.{parts_of, has_nul}

-- what a chain takes a value for
pub data Use : Type 0 where
  -- not taken
  unused : Use
  -- that there is no value
  absent : Use
  -- that there is a value, or none
  existing : Bool → Use
  -- the patterns that this text stands for
  pattern : List ℕ → Use
  -- the network that this text is
  network : List ℕ → Use
  -- this number
  number : ℤ → Use
  -- the numbers that stand so to this one
  ordered : Op → ℤ → Use
  -- the field of this name
  reference : List ℕ → Use
  -- the regular expression of this text, read with these flags
  expression : Flags → List ℕ → Use

abbrev pub is_used : Use → Bool
is_used unused = false
is_used absent = true
is_used (existing b) = true
is_used (pattern t) = true
is_used (network t) = true
is_used (number n) = true
is_used (ordered op n) = true
is_used (reference t) = true
is_used (expression flags t) = true

-- the text that is read, if one is
abbrev pub text_of : Use → List ℕ
text_of unused = []
text_of absent = []
text_of (existing b) = []
text_of (pattern t) = t
text_of (network t) = t
text_of (number n) = []
text_of (ordered op n) = []
text_of (reference t) = t
text_of (expression flags t) = t

-- what the text is encoded as, if it's one of a pattern and its chain encodes it
abbrev pub encoding_in : Written → Use → Option Encoding
encoding_in chain unused = None
encoding_in chain absent = None
encoding_in chain (existing b) = None
encoding_in chain (pattern t) = encoding_of chain.modifiers
encoding_in chain (network t) = None
encoding_in chain (number n) = None
encoding_in chain (ordered op n) = None
encoding_in chain (reference t) = None
encoding_in chain (expression flags t) = None

-- the pattern that a text spells under a chain, which takes `%name%` for a placeholder or doesn't
abbrev pub parts_in : Written → List ℕ → List Part
parts_in chain t = parts_of (list_any is_expand chain.modifiers) t

-- what is encoded has no wildcard
abbrev pub no_wildcard : Option Encoding → Written → List ℕ → Bool
no_wildcard encoding chain t = is_none encoding || not (has_wildcard (parts_in chain t))

-- what is encoded has as many bytes as its encoding takes
abbrev pub enough_bytes : Option Encoding → Written → List ℕ → Bool
enough_bytes None chain t = true
enough_bytes (Some encoding) chain t =
    nat_le (least_bytes encoding) (length (bytes_in (units_of chain.modifiers) (plain_text (parts_in chain t))))

-- a field's name is legal
abbrev pub is_name_text : Use → Bool
is_name_text unused = true
is_name_text absent = true
is_name_text (existing b) = true
is_name_text (pattern t) = true
is_name_text (network t) = true
is_name_text (number n) = true
is_name_text (ordered op n) = true
is_name_text (reference t) = is_legal t
is_name_text (expression flags t) = true

-- a network's text is one
abbrev pub is_network_text : Use → Bool
is_network_text unused = true
is_network_text absent = true
is_network_text (existing b) = true
is_network_text (pattern t) = true
is_network_text (network t) = is_some (net_in t)
is_network_text (number n) = true
is_network_text (ordered op n) = true
is_network_text (reference t) = true
is_network_text (expression flags t) = true

-- a number that others stand to is one that fields have
abbrev pub is_in_range : Use → Bool
is_in_range unused = true
is_in_range absent = true
is_in_range (existing b) = true
is_in_range (pattern t) = true
is_in_range (network t) = true
is_in_range (number n) = true
is_in_range (ordered op n) = is_whole n
is_in_range (reference t) = true
is_in_range (expression flags t) = true

-- the regular expression that is asked for, if one is
abbrev pub expression_in : Use → Option (List ℕ)
expression_in unused = None
expression_in absent = None
expression_in (existing b) = None
expression_in (pattern t) = None
expression_in (network t) = None
expression_in (number n) = None
expression_in (ordered op n) = None
expression_in (reference t) = None
expression_in (expression flags t) = Some (expression_text flags t)

-- the dash places of the pattern that is made of a text; what is encoded has none, since no chain has `windash` beside an
-- encoding
abbrev pub dash_places_of : Option Encoding → Written → List ℕ → ℕ
dash_places_of None chain t = dash_count (pattern_of chain (parts_in chain t))
dash_places_of (Some encoding) chain t = 0

abbrev pub dash_places : Written → Use → ℕ
dash_places chain unused = 0
dash_places chain absent = 0
dash_places chain (existing b) = 0
dash_places chain (pattern t) = dash_places_of (encoding_of chain.modifiers) chain t
dash_places chain (network t) = 0
dash_places chain (number n) = 0
dash_places chain (ordered op n) = 0
dash_places chain (reference t) = 0
dash_places chain (expression flags t) = 0

-- what has to hold of a use, in the order in which it's judged: the value is taken; its text has at most so many
-- characters, and no U+0000; what is encoded has no wildcard, and bytes enough; a field's name is legal, and a network is
-- one; a number that others stand to is one that fields have; there are at most so many dash places; and a regular expression
-- is one that the grammar reads, and its place isn't one of those at which one isn't built
abbrev pub use_checks : List Place → ℕ → ℕ → Written → Place → Use → List (Option Refusal)
use_checks unbuilt most dashes chain place u =
    must 42 place (is_used u)
    ∷ must 49 place (nat_le (length (text_of u)) most)
    ∷ must 50 place (not (has_nul (text_of u)))
    ∷ must 43 place (no_wildcard (encoding_in chain u) chain (text_of u))
    ∷ must 42 place (enough_bytes (encoding_in chain u) chain (text_of u))
    ∷ must 42 place (is_name_text u)
    ∷ must 44 place (is_network_text u)
    ∷ must 45 place (is_in_range u)
    ∷ must 46 place (nat_le (dash_places chain u) dashes)
    ∷ must 47 place (is_readable (expression_in u))
    ∷ must 48 place (is_built_at unbuilt place (expression_in u))
    ∷ []

-- why a use is refused
abbrev pub use_refusal : List Place → ℕ → ℕ → Written → Place → Use → Option Refusal
use_refusal unbuilt most dashes chain place u = first (use_checks unbuilt most dashes chain place u)

-- the patterns that a text stands for: its alternatives, each edited as the chain says
pub record ArePatterns (chain : Written) (t : List ℕ) (patterns : List (List Part)) : Type 0 where
  pub parts : List Part
  pub spelled : Spells (list_any is_expand chain.modifiers) t parts
  pub alternatives : List (List Part)
  pub are_alternatives : AreAlternatives (encoding_of chain.modifiers) (units_of chain.modifiers) parts alternatives
  pub patterns_are : patterns ≡ map (pattern_of chain) alternatives

-- ---- parts of the table

-- what has to hold of any text that is read
abbrev pub text_checks : ℕ → Place → List ℕ → List (Option Refusal)
text_checks most place t = must 49 place (nat_le (length t) most) ∷ must 50 place (not (has_nul t)) ∷ []

-- what has to hold of a pattern that is encoded
abbrev pub encoding_checks : Encoding → Written → Place → List Part → List (Option Refusal)
encoding_checks encoding chain place parts =
    must 43 place (not (has_wildcard parts))
    ∷ must 42 place (nat_le (least_bytes encoding) (length (bytes_in (units_of chain.modifiers) (plain_text parts))))
    ∷ []

-- what the chain makes of the texts that a pattern's characters are encoded as
abbrev pub AreEditedTexts : Written → Encoding → List Part → List (List Part) → Type 0
AreEditedTexts chain encoding parts patterns =
    (texts : List (List ℕ)) × AreTexts encoding (bytes_in (units_of chain.modifiers) (plain_text parts)) texts
    × (patterns ≡ map (λ text. pattern_of chain (as_pattern text)) texts)
