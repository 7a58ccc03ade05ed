-- The detections of a rule (Sigma specification 2.0, detection and search identifiers).
use Rattle.std.specs.Prelude.{ℕ, ◌≡◌, Bool, false, not, ◌&&◌, ◌||◌, nat_le, List, [], ◌∷◌, length, filter, map as list_map, codes}
use Rattle.std.specs.List.{AllZip, list_any}
use Rattle.std.specs.Str.{bytes_eq}
use Rattle.std.specs.declared.option.Option.{Option}
use Rattle.sig_base.specs.declared.limits.Limits.{Limits}
use Rattle.sig_base.specs.declared.refusal.Place.{Place}
use Rattle.sig_base.specs.declared.refusal.Refusal.{Refusal}
use Rattle.sig_conditions.specs.Words.{is_identifier}
use Rattle.sig_base.specs.Judged.{must, first}
use Rattle.yaml_tree.specs.Nodes.{place_of}
use Rattle.yaml_tree.specs.Tree.{Tree, scalar, list, map, Member}
use Rattle.rule_detections.specs.Items.{item_refusal, IsItem, keyword_refusal, IsKeyword}
use Rattle.yaml_tree.specs.Nodes.{is_empty}
use Rattle.yaml_tree.specs.Nodes.{is_map, is_null, entries_in, entered, parts_in, key_place}
use Rattle.rule_detections.specs.declared.detection.Detection.{Detection}
use Rattle.rule_detections.specs.declared.item.Item.{Item}

-- ---- one alternative: the items of a map, all of which have to hold, or a keyword

-- why these entries of a map at this place are no items: there are none, and then the entries in their order
abbrev pub items_refusal : List Place → Limits → Place → List Member → Option Refusal
items_refusal unbuilt limits place es = first (must 77 place (not (is_empty es)) ∷ list_map (item_refusal unbuilt limits) es)

-- why a node is no alternative: the entries of a map, a keyword's value, or a list in a list
abbrev pub alternative_refusal : List Place → Limits → Tree → Option Refusal
alternative_refusal unbuilt limits (scalar a s) = keyword_refusal unbuilt limits (scalar a s)
alternative_refusal unbuilt limits (list a es) = must 71 (place_of (list a es)) false
alternative_refusal unbuilt limits (map a ms) = items_refusal unbuilt limits (place_of (map a ms)) (entered ms)

-- one item, which is the keyword
abbrev pub IsKeywordAlone : Tree → List Item → Type 0
IsKeywordAlone t items = (i : Item) × (items ≡ i ∷ []) × IsKeyword t i

-- the items of an alternative
abbrev pub IsAlternative : Tree → List Item → Type 0
IsAlternative (scalar a s) items = IsKeywordAlone (scalar a s) items
IsAlternative (list a es) items = ⊥
IsAlternative (map a ms) items = AllZip IsItem (entered ms) items

-- ---- one detection: an alternative, or a list of them

abbrev pub is_key : List ℕ → Member → Bool
is_key key e = bytes_eq e.key key

-- Why a node makes no alternatives for a detection whose key stands at this place: there is nothing, no alternative, too
-- many of them, and then the alternatives in their order.
abbrev pub content_refusal : List Place → Limits → Place → Tree → Option Refusal
content_refusal unbuilt limits place t = first (
    must 77 (place_of t) (not (is_null t))
    ∷ must 78 (place_of t) (not (is_empty (parts_in t)))
    ∷ must 79 place (nat_le (length (parts_in t)) limits.list_values)
    ∷ first (list_map (alternative_refusal unbuilt limits) (parts_in t))
    ∷ [])

-- a detection's name; `timeframe`, which old rules have, is none
abbrev pub is_detection_key : Member → Bool
is_detection_key e = is_identifier e.key && not (is_key (codes "timeframe") e)

-- why an entry is no detection: its name, and then its alternatives
abbrev pub detection_refusal : List Place → Limits → Member → Option Refusal
detection_refusal unbuilt limits e = first (
    must 71 (key_place e) (is_detection_key e)
    ∷ content_refusal unbuilt limits (key_place e) e.value
    ∷ [])

pub record IsDetection (e : Member) (d : Detection) : Type 0 where
  pub name : d.name ≡ e.key
  pub alternatives : AllZip IsAlternative (parts_in e.value) d.alternatives
  pub place : d.place ≡ key_place e

-- ---- all detections: the entries but `condition`

abbrev pub is_no_condition : Member → Bool
is_no_condition e = not (is_key (codes "condition") e)

abbrev pub detection_entries : Tree → List Member
detection_entries t = filter is_no_condition (entries_in t)

abbrev pub is_identified : Member → Bool
is_identified e = not (is_key (codes "condition") e || is_key (codes "timeframe") e)

abbrev pub begins_with_timeframe : List Member → Bool
begins_with_timeframe [] = false
begins_with_timeframe (e ∷ es) = is_key (codes "timeframe") e

-- A map without a name of a detection is refused at its place, which is its first key's. Where this key is `timeframe`, it is
-- refused itself.
abbrev pub detections_refusal : List Place → Limits → Tree → Option Refusal
detections_refusal unbuilt limits t = first (
    must 71 (place_of t) (is_map t)
    ∷ must 77 (place_of t) (list_any is_identified (entries_in t) || begins_with_timeframe (entries_in t))
    ∷ first (list_map (detection_refusal unbuilt limits) (detection_entries t))
    ∷ [])

abbrev pub AreDetections : Tree → List Detection → Type 0
AreDetections t ds = AllZip IsDetection (detection_entries t) ds
