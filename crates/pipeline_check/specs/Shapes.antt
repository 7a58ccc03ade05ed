-- Which values stand in pipelines, and why others don't (pySigma, processing pipelines): texts and lists of them, mappings,
-- variables and conditions.
use Rattle.std.specs.Prelude.{ℕ, Bool, true, false, not, ◌&&◌, ◌||◌, ◌==◌, if◌then◌else◌, List, [], ◌∷◌, map as list_map, codes, Option, Some, None, is_some}
use Rattle.std.specs.List.{list_any}
use Rattle.std.specs.Str.{bytes_eq}
use Rattle.sig_base.specs.declared.refusal.Place.{Place}
use Rattle.sig_base.specs.declared.refusal.Refusal.{Refusal}
use Rattle.sig_base.specs.Judged.{refusal, must}
use Rattle.yaml_tree.specs.Tree.{Scalar, null, truth, whole, text, Tree, scalar, list, map, Member}
use Rattle.yaml_tree.specs.Nodes.{place_of, key_place, is_empty, is_map, is_text, is_truth, text_in, entries_in, parts_in, value_in, has_key}
use Rattle.pipeline_check.specs.declared.words.Listing.{Listing}
use Rattle.pipeline_check.specs.Words.{listing_of, is_source_key}
use Rattle.pipeline_check.specs.Causes.{least}

-- ---- single values

abbrev pub is_list : Tree → Bool
is_list (scalar at s) = false
is_list (list at es) = true
is_list (map at ms) = false

abbrev pub is_whole_scalar : Scalar → Bool
is_whole_scalar null = false
is_whole_scalar (truth b) = false
is_whole_scalar (whole n) = true
is_whole_scalar (text t) = false

abbrev pub is_whole : Tree → Bool
is_whole (scalar at s) = is_whole_scalar s
is_whole (list at es) = false
is_whole (map at ms) = false

-- some character is U+0000
abbrev pub has_nul : List ℕ → Bool
has_nul t = list_any (λ c. c == 0) t

-- what a placeholder may stand for: a text, a number or a truth value
abbrev pub is_value_scalar : Scalar → Bool
is_value_scalar null = false
is_value_scalar (truth b) = true
is_value_scalar (whole n) = true
is_value_scalar (text t) = not (has_nul t)

abbrev pub is_value : Tree → Bool
is_value (scalar at s) = is_value_scalar s
is_value (list at es) = false
is_value (map at ms) = false

abbrev pub text_refusal : Tree → Option Refusal
text_refusal t = must 90 (place_of t) (is_text t)

abbrev pub truth_refusal : Tree → Option Refusal
truth_refusal t = must 90 (place_of t) (is_truth t)

abbrev pub whole_refusal : Tree → Option Refusal
whole_refusal t = must 90 (place_of t) (is_whole t)

abbrev pub list_refusal : Tree → Option Refusal
list_refusal t = must 90 (place_of t) (is_list t)

abbrev pub map_refusal : Tree → Option Refusal
map_refusal t = must 90 (place_of t) (is_map t)

-- a value, or a list of them that isn't empty
abbrev pub some_refusal : Tree → Option Refusal
some_refusal t = must 90 (place_of t) (not (is_empty (parts_in t)))

-- how several conditions are joined
abbrev pub is_op : Tree → Bool
is_op t = is_text t && (bytes_eq (text_in t) (codes "and") || bytes_eq (text_in t) (codes "or"))

abbrev pub op_refusal : Tree → Option Refusal
op_refusal t = must 90 (place_of t) (is_op t)

-- a list of texts
abbrev pub names_refusal : Tree → Option Refusal
names_refusal t = least (list_refusal t ∷ least (list_map text_refusal (parts_in t)) ∷ [])

-- ---- mappings: from texts to a text, or to a list of them that isn't empty

-- a target that is read as a pattern has no U+0000
abbrev pub is_target : Bool → Tree → Bool
is_target patterns t = is_text t && (not patterns || not (has_nul (text_in t)))

abbrev pub target_refusal : Bool → Tree → Option Refusal
target_refusal patterns t = must 90 (place_of t) (is_target patterns t)

abbrev pub targets_refusal : Bool → Tree → Option Refusal
targets_refusal patterns t = least (some_refusal t ∷ least (list_map (target_refusal patterns) (parts_in t)) ∷ [])

abbrev pub mapped_refusal : Bool → Member → Option Refusal
mapped_refusal patterns e = targets_refusal patterns e.value

abbrev pub mapping_refusal : Bool → Tree → Option Refusal
mapping_refusal patterns t = least (map_refusal t ∷ least (list_map (mapped_refusal patterns) (entries_in t)) ∷ [])

-- ---- `vars`: a map from names to a value, or to a list of them that isn't empty

abbrev pub value_refusal : Tree → Option Refusal
value_refusal t = must 90 (place_of t) (is_value t)

abbrev pub values_refusal : Tree → Option Refusal
values_refusal t = least (some_refusal t ∷ least (list_map value_refusal (parts_in t)) ∷ [])

abbrev pub var_refusal : Member → Option Refusal
var_refusal e = values_refusal e.value

abbrev pub vars_refusal : Tree → Option Refusal
vars_refusal t = least (map_refusal t ∷ least (list_map var_refusal (entries_in t)) ∷ [])

-- ---- conditions: a list of maps with a type

abbrev pub type_in : Tree → Option Tree
type_in t = value_in (codes "type") (entries_in t)

-- the type of a condition is a text, and one that is known
abbrev pub type_refusal : Bool → Tree → Option Refusal
type_refusal known t = if is_text t then must 92 (place_of t) known else Some (refusal 90 (place_of t))

abbrev pub typed_in : Bool → Place → Option Tree → Option Refusal
typed_in known place None = Some (refusal 90 place)
typed_in known place (Some t) = type_refusal known t

-- and it's there
abbrev pub typed_refusal : Bool → Tree → Option Refusal
typed_refusal known t = typed_in known (place_of t) (type_in t)

-- a condition on the log source
abbrev pub is_logsource : Tree → Bool
is_logsource t = is_text t && bytes_eq (text_in t) (codes "logsource")

abbrev pub is_logsource_in : Option Tree → Bool
is_logsource_in None = false
is_logsource_in (Some t) = is_logsource t

abbrev pub names_logsource : Tree → Bool
names_logsource t = is_logsource_in (type_in t)

-- what stands at a key, which has this place; under a type that isn't known there is no other key
abbrev pub source_keyed : Bool → List ℕ → Place → Tree → Option Refusal
source_keyed known key place t =
    if bytes_eq key (codes "type") then None
    else if known && is_source_key key then text_refusal t
    else Some (refusal 92 place)

abbrev pub source_entry : Bool → Member → Option Refusal
source_entry known e = source_keyed known e.key (key_place e) e.value

abbrev pub source_known : Bool → Tree → Option Refusal
source_known known t = least (map_refusal t ∷ typed_refusal known t ∷ least (list_map (source_entry known) (entries_in t)) ∷ [])

abbrev pub source_refusal : Tree → Option Refusal
source_refusal t = source_known (names_logsource t) t

abbrev pub sources_refusal : Tree → Option Refusal
sources_refusal t = least (list_refusal t ∷ least (list_map source_refusal (parts_in t)) ∷ [])

-- a condition on a field's name
abbrev pub listing_in : Tree → Option Listing
listing_in t = if is_text t then listing_of (text_in t) else None

abbrev pub listing_if : Option Tree → Option Listing
listing_if None = None
listing_if (Some t) = listing_in t

abbrev pub listing_at : Tree → Option Listing
listing_at t = listing_if (type_in t)

abbrev pub field_keyed : Bool → List ℕ → Place → Tree → Option Refusal
field_keyed known key place t =
    if bytes_eq key (codes "type") then None
    else if known && bytes_eq key (codes "fields") then names_refusal t
    else Some (refusal 92 place)

abbrev pub field_entry : Bool → Member → Option Refusal
field_entry known e = field_keyed known e.key (key_place e) e.value

-- under a type that is known the names are there
abbrev pub field_keys_refusal : Bool → Tree → Option Refusal
field_keys_refusal known t = must 90 (place_of t) (is_map t && (not known || has_key (codes "fields") t))

abbrev pub field_known : Bool → Tree → Option Refusal
field_known known t = least (field_keys_refusal known t ∷ typed_refusal known t ∷ least (list_map (field_entry known) (entries_in t)) ∷ [])

abbrev pub field_refusal : Tree → Option Refusal
field_refusal t = field_known (is_some (listing_at t)) t

abbrev pub fields_refusal : Tree → Option Refusal
fields_refusal t = least (list_refusal t ∷ least (list_map field_refusal (parts_in t)) ∷ [])
