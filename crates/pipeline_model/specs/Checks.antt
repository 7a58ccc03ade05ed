-- Why a document is no pipeline (pySigma, processing pipelines): of all keys and values that aren't allowed the first by place, and
-- at one place the one of the smallest code. A key that is missing is refused at its map, whose place is its first key's.
use Rattle.std.specs.Prelude.{ℕ, Bool, true, false, not, ◌&&◌, if◌then◌else◌, List, [], ◌∷◌, ◌++◌, map as list_map, codes, Option, Some, None, is_some}
use Rattle.std.specs.List.{list_any}
use Rattle.std.specs.Str.{bytes_eq}
use Rattle.sig_base.specs.declared.limits.Limits.{Limits}
use Rattle.sig_base.specs.declared.refusal.Place.{Place}
use Rattle.sig_base.specs.declared.refusal.Refusal.{Refusal}
use Rattle.sig_base.specs.Judged.{refusal, must}
use Rattle.yaml_tree.specs.Tree.{Tree, Member}
use Rattle.yaml_tree.specs.Nodes.{place_of, key_place, is_empty, is_text, text_in, entries_in, entries_at, parts_in, value_in, has_key, refused_by}
use Rattle.rule_detections.specs.Items.{item_refusal}
use Rattle.pipeline_check.specs.declared.words.Listing.{Listing}
use Rattle.pipeline_check.specs.declared.words.StepKind.{StepKind}
use Rattle.pipeline_check.specs.declared.words.StepKind.TheVariants as kinds
use Rattle.pipeline_check.specs.Words.{kind_of, chooser_of, is_same, is_source_key, is_left_out}
use Rattle.pipeline_check.specs.Causes.{sooner, least, worded}
use Rattle.pipeline_check.specs.Shapes.{type_in, list_refusal, map_refusal, text_refusal, truth_refusal, whole_refusal, op_refusal, names_refusal, mapping_refusal, vars_refusal, sources_refusal, fields_refusal}

-- ---- the type of a step

abbrev pub kind_in : Tree → Option StepKind
kind_in t = if is_text t then kind_of (text_in t) else None

abbrev pub kind_if : Option Tree → Option StepKind
kind_if None = None
kind_if (Some t) = kind_in t

abbrev pub kind_at : Tree → Option StepKind
kind_at t = kind_if (type_in t)

-- a text, and one of the types
abbrev pub kind_refusal : Tree → Option Refusal
kind_refusal t =
    if not (is_text t) then Some (refusal 90 (place_of t))
    else if is_some (kind_of (text_in t)) then None
    else Some (worded 91 (place_of t) (text_in t))

abbrev pub kind_refusal_if : Place → Option Tree → Option Refusal
kind_refusal_if place None = Some (refusal 90 place)
kind_refusal_if place (Some t) = kind_refusal t

-- a step has a type
abbrev pub typed_refusal : Tree → Option Refusal
typed_refusal t = kind_refusal_if (place_of t) (type_in t)

-- ---- the keys of a type's own

-- the one key that a step of this type has, with its value
abbrev pub lone_refusal : (Tree → Option Refusal) → List ℕ → List ℕ → Place → Tree → Option Refusal
lone_refusal value_refusal own key place t = if bytes_eq key own then value_refusal t else Some (refusal 90 place)

-- the items that are added are judged by themselves: here that they are entries of a map that isn't empty
abbrev pub items_shape : Tree → Option Refusal
items_shape t = least (map_refusal t ∷ must 90 (place_of t) (not (is_empty (entries_in t))) ∷ [])

abbrev pub added_refusal : List ℕ → Place → Tree → Option Refusal
added_refusal key place t =
    if bytes_eq key (codes "conditions") then items_shape t
    else if bytes_eq key (codes "negated") then truth_refusal t
    else Some (refusal 90 place)

abbrev pub changed_refusal : List ℕ → Place → Tree → Option Refusal
changed_refusal key place t = if is_source_key key then text_refusal t else Some (refusal 90 place)

-- the first of `include` and `exclude` that a map has
abbrev pub chosen_else : Option Listing → Option Listing → Option Listing
chosen_else (Some listing) later = Some listing
chosen_else None later = later

abbrev pub chooser_in : Member → Option Listing
chooser_in e = chooser_of e.key

abbrev pub chosen_in : List Member → Option Listing
chosen_in [] = None
chosen_in (e ∷ es) = chosen_else (chooser_in e) (chosen_in es)

abbrev pub is_chosen : Listing → Option Listing → Bool
is_chosen own None = false
is_chosen own (Some listing) = is_same own listing

-- names of placeholders, at the one of both keys that comes first
abbrev pub chooser_refusal : Option Listing → Option Listing → Place → Tree → Option Refusal
chooser_refusal chosen None place t = Some (refusal 90 place)
chooser_refusal chosen (Some own) place t = least (must 90 place (is_chosen own chosen) ∷ names_refusal t ∷ [])

abbrev pub choice_refusal : Option Listing → List ℕ → Place → Tree → Option Refusal
choice_refusal chosen key place t = chooser_refusal chosen (chooser_of key) place t

-- why what stands at a key that not every step has, with this place, isn't allowed under this type
abbrev pub own_refusal : Option Listing → StepKind → List ℕ → Place → Tree → Option Refusal
own_refusal chosen kinds.MapNames key place t = lone_refusal (mapping_refusal false) (codes "mapping") key place t
own_refusal chosen kinds.Prefix key place t = lone_refusal text_refusal (codes "prefix") key place t
own_refusal chosen kinds.Suffix key place t = lone_refusal text_refusal (codes "suffix") key place t
own_refusal chosen kinds.MapPrefixes key place t = lone_refusal (mapping_refusal false) (codes "mapping") key place t
own_refusal chosen kinds.Drop key place t = Some (refusal 90 place)
own_refusal chosen kinds.Add key place t = added_refusal key place t
own_refusal chosen kinds.Source key place t = changed_refusal key place t
own_refusal chosen kinds.MapTexts key place t = lone_refusal (mapping_refusal true) (codes "mapping") key place t
own_refusal chosen kinds.FillHoles key place t = choice_refusal chosen key place t
own_refusal chosen kinds.WildHoles key place t = choice_refusal chosen key place t
own_refusal chosen kinds.FailRule key place t = lone_refusal text_refusal (codes "message") key place t
own_refusal chosen kinds.FailItem key place t = lone_refusal text_refusal (codes "message") key place t

-- under a type that isn't known they aren't judged
abbrev pub own_refusal_if : Option Listing → Option StepKind → List ℕ → Place → Tree → Option Refusal
own_refusal_if chosen None key place t = None
own_refusal_if chosen (Some kind) key place t = own_refusal chosen kind key place t

-- a step of this type has the key that it needs
abbrev pub has_needed : StepKind → Tree → Bool
has_needed kinds.MapNames t = has_key (codes "mapping") t
has_needed kinds.Prefix t = has_key (codes "prefix") t
has_needed kinds.Suffix t = has_key (codes "suffix") t
has_needed kinds.MapPrefixes t = has_key (codes "mapping") t
has_needed kinds.Drop t = true
has_needed kinds.Add t = has_key (codes "conditions") t
has_needed kinds.Source t = true
has_needed kinds.MapTexts t = has_key (codes "mapping") t
has_needed kinds.FillHoles t = true
has_needed kinds.WildHoles t = true
has_needed kinds.FailRule t = has_key (codes "message") t
has_needed kinds.FailItem t = has_key (codes "message") t

abbrev pub has_needed_if : Option StepKind → Tree → Bool
has_needed_if None t = true
has_needed_if (Some kind) t = has_needed kind t

-- ---- a step

-- why what stands at a key of a step, which has this place, isn't allowed; the type is judged by itself
abbrev pub keyed_refusal : Option Listing → Option StepKind → List ℕ → Place → Tree → Option Refusal
keyed_refusal chosen kind key place t =
    if bytes_eq key (codes "type") then None
    else if bytes_eq key (codes "id") then text_refusal t
    else if bytes_eq key (codes "rule_conditions") then sources_refusal t
    else if bytes_eq key (codes "field_name_conditions") then fields_refusal t
    else if bytes_eq key (codes "rule_cond_op") then op_refusal t
    else if bytes_eq key (codes "field_name_cond_op") then op_refusal t
    else own_refusal_if chosen kind key place t

abbrev pub entry_refusal : Option Listing → Option StepKind → Member → Option Refusal
entry_refusal chosen kind e = keyed_refusal chosen kind e.key (key_place e) e.value

abbrev pub entries_refusal : Option StepKind → Tree → Option Refusal
entries_refusal kind t = least (list_map (entry_refusal (chosen_in (entries_in t)) kind) (entries_in t))

abbrev pub needed_refusal : Option StepKind → Tree → Option Refusal
needed_refusal kind t = must 90 (place_of t) (has_needed_if kind t)

abbrev pub step_of_kind : Option StepKind → Tree → Option Refusal
step_of_kind kind t = least (map_refusal t ∷ typed_refusal t ∷ needed_refusal kind t ∷ entries_refusal kind t ∷ [])

abbrev pub step_refusal : Tree → Option Refusal
step_refusal t = step_of_kind (kind_at t) t

-- ---- identifiers: no two steps have the same one, and the later one is refused

abbrev pub is_text_of : List ℕ → Tree → Bool
is_text_of word t = is_text t && bytes_eq (text_in t) word

abbrev pub is_text_if : List ℕ → Option Tree → Bool
is_text_if word None = false
is_text_if word (Some t) = is_text_of word t

abbrev pub has_id : List ℕ → Tree → Bool
has_id word t = is_text_if word (value_in (codes "id") (entries_in t))

-- none of the steps before has this identifier
abbrev pub is_fresh : List Tree → Tree → Bool
is_fresh before t = not (is_text t && list_any (has_id (text_in t)) before)

abbrev pub fresh_refusal : List Tree → Tree → Option Refusal
fresh_refusal before t = must 93 (place_of t) (is_fresh before t)

abbrev pub id_refusal : List Tree → Tree → Option Refusal
id_refusal before t = refused_by (fresh_refusal before) (value_in (codes "id") (entries_in t))

-- each step with those before it
abbrev pub id_checks : List Tree → List Tree → List (Option Refusal)
id_checks before [] = []
id_checks before (t ∷ ts) = id_refusal before t ∷ id_checks (before ++ t ∷ []) ts

abbrev pub ids_refusal : List Tree → Option Refusal
ids_refusal steps = least (id_checks [] steps)

-- ---- the pipeline

abbrev pub steps_refusal : Tree → Option Refusal
steps_refusal t = least (list_refusal t ∷ least (list_map step_refusal (parts_in t)) ∷ ids_refusal (parts_in t) ∷ [])

-- Why what stands at a key of a pipeline, which has this place, isn't allowed. Keys that aren't known are passed over, and the steps
-- are judged by themselves.
abbrev pub top_refusal : List ℕ → Place → Tree → Option Refusal
top_refusal key place t =
    if bytes_eq key (codes "name") then text_refusal t
    else if bytes_eq key (codes "priority") then whole_refusal t
    else if bytes_eq key (codes "vars") then vars_refusal t
    else if is_left_out key then Some (worded 91 place key)
    else None

abbrev pub top_entry : Member → Option Refusal
top_entry e = top_refusal e.key (key_place e) e.value

abbrev pub steps_refusal_at : Tree → Option Refusal
steps_refusal_at t = refused_by steps_refusal (value_in (codes "transformations") (entries_in t))

abbrev pub shape_refusal : Tree → Option Refusal
shape_refusal t = least (map_refusal t ∷ least (list_map top_entry (entries_in t)) ∷ steps_refusal_at t ∷ [])

-- ---- the items that steps add, with the codes of items

abbrev pub adds : Option StepKind → Bool
adds None = false
adds (Some kinds.MapNames) = false
adds (Some kinds.Prefix) = false
adds (Some kinds.Suffix) = false
adds (Some kinds.MapPrefixes) = false
adds (Some kinds.Drop) = false
adds (Some kinds.Add) = true
adds (Some kinds.Source) = false
adds (Some kinds.MapTexts) = false
adds (Some kinds.FillHoles) = false
adds (Some kinds.WildHoles) = false
adds (Some kinds.FailRule) = false
adds (Some kinds.FailItem) = false

-- the entries of the items that a step of this type adds
abbrev pub added_by : Option StepKind → Tree → List Member
added_by kind t = if adds kind then entries_at (codes "conditions") t else []

abbrev pub added_in : Tree → List Member
added_in t = added_by (kind_at t) t

abbrev pub items_refusal : List Place → Limits → Tree → Option Refusal
items_refusal unbuilt limits t = least (list_map (item_refusal unbuilt limits) (added_in t))

abbrev pub parts_if : Option Tree → List Tree
parts_if None = []
parts_if (Some t) = parts_in t

-- the parts of the value at a key
abbrev pub parts_at : List ℕ → Tree → List Tree
parts_at key t = parts_if (value_in key (entries_in t))

abbrev pub steps_in : Tree → List Tree
steps_in t = parts_at (codes "transformations") t

abbrev pub all_items_refusal : List Place → Limits → Tree → Option Refusal
all_items_refusal unbuilt limits t = least (list_map (items_refusal unbuilt limits) (steps_in t))

abbrev pub pipeline_refusal : List Place → Limits → Tree → Option Refusal
pipeline_refusal unbuilt limits t = sooner (shape_refusal t) (all_items_refusal unbuilt limits t)
