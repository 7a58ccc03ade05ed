-- The items of detections (Sigma specification 2.0, detection: maps, lists and keywords).
use Rattle.std.specs.Prelude.{ℕ, ◌≡◌, true, not, nat_le, if◌then◌else◌, List, [], ◌∷◌, length, map as list_map}
use Rattle.std.specs.List.{AllZip}
use Rattle.std.specs.declared.option.Option.{Option}
use Rattle.sig_base.specs.declared.limits.Limits.{Limits}
use Rattle.sig_base.specs.declared.refusal.Place.{Place}
use Rattle.sig_base.specs.declared.refusal.Refusal.{Refusal}
use Rattle.modifier_words.specs.Chains.{chain_of, chain_refusal, joined_of}
use Rattle.sig_base.specs.Judged.{must, first}
use Rattle.rule_detections.specs.TestsOf.{TestsOf, value_refusal}
use Rattle.yaml_tree.specs.Nodes.{place_of}
use Rattle.modifier_words.specs.Written.{Written}
use Rattle.yaml_tree.specs.Tree.{Tree, Member}
use Rattle.rule_detections.specs.Keys.{name_in, words_in, is_keyword_key, is_item_key}
use Rattle.yaml_tree.specs.Nodes.{is_empty}
use Rattle.yaml_tree.specs.Nodes.{is_scalar, parts_in, key_place}
use Rattle.rule_detections.specs.declared.item.Fields.{Fields}
use Rattle.rule_detections.specs.declared.item.Fields.TheVariants.{Keyword, Names}
use Rattle.rule_detections.specs.declared.item.Item.{Item}

-- ---- an entry of a map: a field with its modifiers, and one value or a list of them

abbrev pub key_chain : Member → Written
key_chain e = chain_of (words_in e.key) (is_keyword_key e.key) (key_place e)

abbrev pub fields_of : List ℕ → Fields
fields_of key = if is_keyword_key key then Keyword else Names (name_in key ∷ [])

-- a value is a scalar
abbrev pub shape_refusal : Tree → Option Refusal
shape_refusal t = must 71 (place_of t) (is_scalar t)

-- Why a node gives no values to a chain whose item stands at this place: an element that is no scalar, no values, too many
-- of them, and then the values in their order.
abbrev pub values_refusal : List Place → Limits → Written → Place → Tree → Option Refusal
values_refusal unbuilt limits chain place t = first (
    first (list_map shape_refusal (parts_in t))
    ∷ must 78 (place_of t) (not (is_empty (parts_in t)))
    ∷ must 79 place (nat_le (length (parts_in t)) limits.list_values)
    ∷ first (list_map (value_refusal unbuilt limits.value_chars limits.dashes chain) (parts_in t))
    ∷ [])

-- why an entry is no item: its name, its modifiers, and then its values
abbrev pub item_refusal : List Place → Limits → Member → Option Refusal
item_refusal unbuilt limits e = first (
    must 71 (key_place e) (is_item_key e.key)
    ∷ chain_refusal (is_keyword_key e.key) (key_place e) (words_in e.key)
    ∷ values_refusal unbuilt limits (key_chain e) (key_place e) e.value
    ∷ [])

-- the item that an entry is
pub record IsItem (e : Member) (i : Item) : Type 0 where
  pub fields : i.fields ≡ fields_of e.key
  pub tests : AllZip (TestsOf (key_chain e)) (parts_in e.value) i.tests
  pub joined : i.joined ≡ joined_of (key_chain e)
  pub place : i.place ≡ key_place e

-- ---- a scalar by itself: a keyword without modifiers

abbrev pub bare_chain : Tree → Written
bare_chain t = chain_of [] true (place_of t)

abbrev pub keyword_refusal : List Place → Limits → Tree → Option Refusal
keyword_refusal unbuilt limits t = value_refusal unbuilt limits.value_chars limits.dashes (bare_chain t) t

pub record IsKeyword (t : Tree) (i : Item) : Type 0 where
  pub fields : i.fields ≡ Keyword
  pub tests : AllZip (TestsOf (bare_chain t)) (t ∷ []) i.tests
  pub joined : i.joined ≡ joined_of (bare_chain t)
  pub place : i.place ≡ place_of t
