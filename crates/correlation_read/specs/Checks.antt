-- Why a document is no correlation (Sigma correlations specification 2.0): the first key or value that isn't allowed, in the
-- order of the document. A key that is missing is refused at its map, whose place is its first key's, or that of `{}` where it
-- has none. A type that isn't known is refused at the value of `type`, and then no condition is: no type tells whether one is
-- allowed, and what it needs.
use Rattle.std.specs.Prelude.{ℕ, Bool, true, false, not, ◌&&◌, ◌||◌, nat_le, if◌then◌else◌, ℤ, pos, negsuc, List, [], ◌∷◌, ◌++◌, length, map as list_map, codes, Option, Some, None, is_some}
use Rattle.std.specs.List.{list_any}
use Rattle.std.specs.Str.{bytes_eq}
use Rattle.sig_base.specs.declared.refusal.Place.{Place}
use Rattle.sig_base.specs.declared.refusal.Refusal.{Refusal}
use Rattle.sig_base.specs.Judged.{refusal, must, first}
use Rattle.yaml_tree.specs.Tree.{Scalar, null, truth, whole, text, Tree, scalar, list, map, Member}
use Rattle.yaml_tree.specs.Nodes.{place_of, key_place, is_map, is_text, is_truth, text_in, entries_in, parts_in, value_in, has_key, required, refused_at}
use Rattle.rule_head.specs.Heads.{head_checks}
use Rattle.correlation_windows.specs.declared.bound.CorrelationKind.{CorrelationKind}
use Rattle.correlation_read.specs.Timespans.{span_of}
use Rattle.correlation_read.specs.Words.{kind_of, op_of, counts, counts_values}

-- ---- scalars

-- the number that a node is, if it's one from 0 on
abbrev pub natural : ℤ → Option ℕ
natural (pos n) = Some n
natural (negsuc n) = None

abbrev pub scalar_number : Scalar → Option ℕ
scalar_number null = None
scalar_number (truth b) = None
scalar_number (whole z) = natural z
scalar_number (text t) = None

abbrev pub number_in : Tree → Option ℕ
number_in (scalar at s) = scalar_number s
number_in (list at es) = None
number_in (map at ms) = None

abbrev pub text_refusal : Tree → Option Refusal
text_refusal t = must 140 (place_of t) (is_text t)

-- ---- `rules`: a text, or a list of texts; that they are 1 to 64, and without repeats, is this profile's choice

abbrev pub has_text : List ℕ → Tree → Bool
has_text word t = is_text t && bytes_eq (text_in t) word

-- a text that none of those before it is
abbrev pub is_fresh : List Tree → Tree → Bool
is_fresh before t = is_text t && not (list_any (has_text (text_in t)) before)

abbrev pub fresh_refusal : List Tree → Tree → Option Refusal
fresh_refusal before t = must 140 (place_of t) (is_fresh before t)

abbrev pub repeat_refusal : List Tree → List Tree → Option Refusal
repeat_refusal before [] = None
repeat_refusal before (t ∷ ts) = first (fresh_refusal before t ∷ repeat_refusal (before ++ t ∷ []) ts ∷ [])

abbrev pub rules_refusal : Tree → Option Refusal
rules_refusal t = first (must 140 (place_of t) (nat_le 1 (length (parts_in t)) && nat_le (length (parts_in t)) 64) ∷ repeat_refusal [] (parts_in t) ∷ [])

-- ---- `group-by`: a text, or a list of texts

abbrev pub group_refusal : Tree → Option Refusal
group_refusal t = first (list_map text_refusal (parts_in t))

-- ---- `condition`: one or more comparisons with numbers from 0, and where values are counted the field that has them

abbrev pub compares : Member → Bool
compares e = is_some (op_of e.key)

-- why what stands in a condition at a key, which has this place, isn't allowed
abbrev pub tested_refusal : CorrelationKind → List ℕ → Place → Tree → Option Refusal
tested_refusal kind key place t =
    if is_some (op_of key) then must 140 (place_of t) (is_some (number_in t))
    else if counts_values kind && bytes_eq key (codes "field") then text_refusal t
    else Some (refusal 140 place)

abbrev pub test_refusal : CorrelationKind → Member → Option Refusal
test_refusal kind e = tested_refusal kind e.key (key_place e) e.value

abbrev pub condition_refusal : CorrelationKind → Tree → Option Refusal
condition_refusal kind t = first (
    must 140 (place_of t) (is_map t)
    ∷ must 140 (place_of t) (list_any compares (entries_in t))
    ∷ must 140 (place_of t) (not (counts_values kind) || has_key (codes "field") t)
    ∷ first (list_map (test_refusal kind) (entries_in t))
    ∷ [])

-- under a type that isn't known no condition is judged, and one isn't allowed where nothing is counted
abbrev pub conditioned_refusal : Option CorrelationKind → Place → Tree → Option Refusal
conditioned_refusal None place t = None
conditioned_refusal (Some kind) place t = if counts kind then condition_refusal kind t else Some (refusal 140 place)

-- ---- `aliases`: a map from a name to a map from rules to fields

abbrev pub field_refusal : Member → Option Refusal
field_refusal e = text_refusal e.value

abbrev pub fields_refusal : Tree → Option Refusal
fields_refusal t = first (must 140 (place_of t) (is_map t) ∷ list_map field_refusal (entries_in t))

abbrev pub alias_refusal : Member → Option Refusal
alias_refusal e = fields_refusal e.value

abbrev pub aliases_refusal : Tree → Option Refusal
aliases_refusal t = first (must 140 (place_of t) (is_map t) ∷ list_map alias_refusal (entries_in t))

-- ---- the correlation

-- the type that a value of `type` is; what is no text is none
abbrev pub kind_in : Option Tree → Option CorrelationKind
kind_in None = None
kind_in (Some t) = kind_of (text_in t)

-- the type of a correlation
abbrev pub kind_at : Tree → Option CorrelationKind
kind_at t = kind_in (value_in (codes "type") (entries_in t))

abbrev pub span_in : Option Tree → Option ℤ
span_in None = None
span_in (Some t) = span_of (text_in t)

-- the timespan of a correlation
abbrev pub span_at : Tree → Option ℤ
span_at t = span_in (value_in (codes "timespan") (entries_in t))

-- why what stands at a key, which has this place, isn't allowed in a correlation of this type
abbrev pub keyed_refusal : Option CorrelationKind → List ℕ → Place → Tree → Option Refusal
keyed_refusal kind key place t =
    if bytes_eq key (codes "type") then must 140 (place_of t) (is_some (kind_of (text_in t)))
    else if bytes_eq key (codes "rules") then rules_refusal t
    else if bytes_eq key (codes "group-by") then group_refusal t
    else if bytes_eq key (codes "timespan") then must 142 (place_of t) (is_some (span_of (text_in t)))
    else if bytes_eq key (codes "condition") then conditioned_refusal kind place t
    else if bytes_eq key (codes "aliases") then aliases_refusal t
    else if bytes_eq key (codes "generate") then must 140 (place_of t) (is_truth t)
    else Some (refusal 140 place)

abbrev pub entry_refusal : Option CorrelationKind → Member → Option Refusal
entry_refusal kind e = keyed_refusal kind e.key (key_place e) e.value

abbrev pub wants_condition : Option CorrelationKind → Bool
wants_condition None = false
wants_condition (Some kind) = counts kind

-- the keys that are required under this type, and then the entries in their order
abbrev pub all_refusal : Option CorrelationKind → Tree → Option Refusal
all_refusal kind t = first (
    must 140 (place_of t) (is_map t)
    ∷ required (codes "type") 140 t
    ∷ required (codes "rules") 140 t
    ∷ required (codes "timespan") 140 t
    ∷ must 140 (place_of t) (not (wants_condition kind) || has_key (codes "condition") t)
    ∷ first (list_map (entry_refusal kind) (entries_in t))
    ∷ [])

abbrev pub body_refusal : Tree → Option Refusal
body_refusal t = all_refusal (kind_at t) t

-- the head, and then the value of `correlation`
abbrev pub correlation_refusal : Tree → Option Refusal
correlation_refusal t = first (
    first (head_checks t)
    ∷ required (codes "correlation") 140 t
    ∷ refused_at (codes "correlation") body_refusal t
    ∷ [])
