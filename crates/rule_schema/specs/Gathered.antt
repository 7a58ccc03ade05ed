-- The names of a rule's fields, gathered one behind the other.
use Rattle.std.specs.Prelude.{ℕ, suc, ◌≡◌, Bool, true, false, not, ◌||◌, if◌then◌else◌, List, [], ◌∷◌, Option, Some, None, Result, Ok, Err, encode_utf8_all, String, map}
use Rattle.std.specs.BTreeMap.{BTreeMap, get_by_text}
use Rattle.std.specs.List.{flat_map}
use Rattle.std.specs.Str.{all_scalars, bytes_eq}
use Rattle.event_schema.specs.declared.schema.Field.{Field}
use Rattle.sig_base.specs.Folding.{folded}
use Rattle.sig_base.specs.declared.refusal.Fault.{Fault}
use Rattle.sig_base.specs.declared.refusal.Fault.TheVariants.{Memory, Refused}
use Rattle.sig_base.specs.declared.refusal.Place.{Place}
use Rattle.sig_base.specs.declared.refusal.Refusal.{Refusal}
use Rattle.sig_base.specs.Judged.{refusal}
use Rattle.rule_detections.specs.declared.test.Test.{Test}
use Rattle.rule_detections.specs.declared.detection.Detection.{Detection}
use Rattle.rule_detections.specs.declared.item.Item.{Item}
use Rattle.rule_schema.specs.Asked.{asks_view}
use Rattle.rule_schema.specs.Compared.{test_names}
use Rattle.rule_schema.specs.Inferred.{Use, item_uses, distinct, made_field}
use Rattle.rule_schema.specs.Kinds.{Asks, nothing_asked, opposed, kind_for}
use Rattle.rule_schema.specs.declared.names.Named.{Named}

-- a name at this place, of whose field that is asked
abbrev pub use_of : Place → Asks → List ℕ → Use
use_of place asks name = record { name = name; place = place; asks = asks }

abbrev pub texts_of : List Named → List (List ℕ)
texts_of names = map (λ n. n.name) names

-- the name is that text where letters of either case are taken for equal
abbrev pub folds_to : List ℕ → List ℕ → Bool
folds_to text name = bytes_eq (folded name) text

abbrev pub next_place : Option ℕ → Option ℕ
next_place None = None
next_place (Some k) = Some (suc k)

-- where the first name of this folded text stands
abbrev pub place_of : List ℕ → List (List ℕ) → Option ℕ
place_of text [] = None
place_of text (name ∷ names) = if folds_to text name then Some 0 else next_place (place_of text names)

-- where the names are indexed, each is looked up by the bytes of its folded text
abbrev pub AreFound : {Y : Type 0} → List (List ℕ) → BTreeMap (String Y) ℕ → Bool → Type 0
AreFound names index indexed = indexed ≡ true → (text : List ℕ) → all_scalars text ≡ true → get_by_text index (encode_utf8_all text) ≡ place_of text names

-- no field is both what is asked of the name and what is asked of the use, or the two differ
abbrev pub differs : Named → Use → Bool
differs n u = not (bytes_eq n.name u.name) || opposed (asks_view n.asked) u.asks

-- the use clashes with the first name that is alike
abbrev pub clash_with : List Named → Use → Bool
clash_with [] u = false
clash_with (n ∷ ns) u = if folds_to (folded u.name) n.name then differs n u else clash_with ns u

abbrev pub joined : Named → Asks → Named
joined n asks = record { name = n.name; asked = record { whole = n.asked.whole || asks.whole; address = n.asked.address || asks.address } }

abbrev pub named : Use → Named
named u = record { name = u.name; asked = record { whole = u.asks.whole; address = u.asks.address } }

-- what the use asks is asked of the first name that is alike, or its name stands behind the others
abbrev pub with_use : List Named → Use → List Named
with_use [] u = named u ∷ []
with_use (n ∷ ns) u = if folds_to (folded u.name) n.name then joined n u.asks ∷ ns else n ∷ with_use ns u

-- the names behind others, or the first that clashes with one before it
abbrev pub gathered : List Named → List Use → Result (List Named) Refusal
gathered names [] = Ok names
gathered names (u ∷ us) = if opposed u.asks u.asks || clash_with names u then Err (refusal 80 u.place) else gathered (with_use names u) us

-- the state after a call is what the uses make of the one before it, or the fault is their clash; want of memory is free
abbrev pub Gathers : Result (Unit {0}) Fault → (old new : List Named) → List Use → Type 0
Gathers (Ok u) old new us = gathered old us ≡ Ok new
Gathers (Err Memory) old new us = Unit {0}
Gathers (Err (Refused r)) old new us = gathered old us ≡ Err r

-- the names that tests compare with
abbrev pub test_uses : Place → Test → List Use
test_uses place test = map (use_of place nothing_asked) (test_names test)

abbrev pub value_uses : Place → List Test → List Use
value_uses place value = flat_map (test_uses place) value

abbrev pub alternative_uses : List Item → List Use
alternative_uses items = flat_map item_uses items

abbrev pub detection_uses : Detection → List Use
detection_uses d = flat_map alternative_uses d.alternatives

-- the field that is made of a name
abbrev pub field_of : Named → Field
field_of n = record { name = n.name; kind = kind_for (asks_view n.asked); at = n.name ∷ []; search = false; cased = false; many = false }

-- the fields of these names are those that are made of uses
abbrev pub AreMade : List Use → List Named → Type 0
AreMade uses names = map field_of names ≡ map (made_field uses) (distinct (map (λ u. u.name) uses))
