-- What the builders of a renamed rule answer, part by part.
use Rattle.std.specs.Prelude.{ℕ, ◌≡◌, ◌<◌, ◌⊎◌, ⊤, min, Bool, true, false, List, [], ◌∷◌, map, length, Option, Some, None}
use Rattle.std.specs.Borrow.{Bor}
use Rattle.std.specs.List.{list_all}
use Rattle.event_schema.specs.Names.{is_legal}
use Rattle.sig_base.specs.declared.refusal.Fault.{Fault}
use Rattle.sig_base.specs.declared.refusal.Fault.TheVariants.{Memory, Refused}
use Rattle.sig_base.specs.declared.refusal.Place.{Place}
use Rattle.sig_base.specs.Judged.{refusal}
use Rattle.rule_detections.specs.declared.test.Test.{Test}
use Rattle.pipeline_model.specs.declared.step.Action.{Action}
use Rattle.pipeline_model.specs.declared.step.Action.TheVariants.{MapNames, Prefix, Suffix, MapPrefixes, Drop, Add, Source, MapTexts, FillHoles, WildHoles, FailRule, FailItem}
use Rattle.pipeline_model.specs.declared.step.Pair.{Pair}
use Rattle.pipeline_rename.specs.declared.made.Made.{Made}
use Rattle.pipeline_rename.specs.declared.made.Made.TheVariants.{One, Each}
use Rattle.pipeline_rename.specs.Names.{each_before, with_names}
use Rattle.pipeline_limits.specs.Sizes.{compares_legally, values_count}

-- the texts that are to be made
abbrev pub texts_made : Made → List (List ℕ)
texts_made (One text) = text ∷ []
texts_made (Each prefixes back) = each_before prefixes.now back

-- the entries of a mapping
abbrev pub pairs_in : Action → List Pair
pairs_in (MapNames pairs) = pairs
pairs_in (Prefix front) = []
pairs_in (Suffix back) = []
pairs_in (MapPrefixes pairs) = pairs
pairs_in Drop = []
pairs_in (Add items negated) = []
pairs_in (Source source) = []
pairs_in (MapTexts pairs) = []
pairs_in (FillHoles choice) = []
pairs_in (WildHoles choice) = []
pairs_in (FailRule message) = []
pairs_in (FailItem message) = []

abbrev pub keys_of : List Pair → List (List ℕ)
keys_of pairs = map (λ pair. pair.from) pairs

-- the texts of an index; where there's none, those that the entries are for
abbrev pub texts_in : Option (List (List ℕ)) → List Pair → List (List ℕ)
texts_in None pairs = keys_of pairs
texts_in (Some texts) pairs = texts

-- an entry with each of its targets once
abbrev pub once_in : Pair → Pair
once_in pair = record { from = pair.from; to = with_names [] pair.to }

abbrev pub once_of : List Pair → List Pair
once_of pairs = map once_in pairs

-- where the mapping is used; else none
abbrev pub once_if : Bool → List Pair → List Pair
once_if true pairs = once_of pairs
once_if false pairs = []

-- these texts add the same names to a list as those
abbrev pub AddsAs : List (List ℕ) → List (List ℕ) → Type 0
AddsAs texts others = (names : List (List ℕ)) → with_names names texts ≡ with_names names others

-- the targets that were found, or the name itself
abbrev pub targets_or : List ℕ → Option (Bor (List (List ℕ))) → List (List ℕ)
targets_or name None = name ∷ []
targets_or name (Some to) = to.now

-- the smaller of two numbers that may be missing
abbrev pub sooner : Option ℕ → Option ℕ → Option ℕ
sooner None other = other
sooner (Some n) None = Some n
sooner (Some n) (Some m) = Some (min n m)

-- where it's refused with code 99, more is wanted than there is room for; want of memory says nothing
abbrev pub IsFull : Place → (room size : ℕ) → Fault → Type 0
IsFull place room size Memory = ⊤
IsFull place room size (Refused r) = (r ≡ refusal 99 place) × (room < size)

-- where it's refused with code 99, a name that is made isn't legal
abbrev pub IsIllegal : Place → (legal : Bool) → Fault → Type 0
IsIllegal place legal Memory = ⊤
IsIllegal place legal (Refused r) = (r ≡ refusal 99 place) × (legal ≡ false)

-- where it's refused with code 99, more is wanted than there is room for, or a name that is made isn't legal
abbrev pub IsUnfit : Place → (room size : ℕ) → (legal : Bool) → Fault → Type 0
IsUnfit place room size legal Memory = ⊤
IsUnfit place room size legal (Refused r) = (r ≡ refusal 99 place) × ((room < size) ⊎ (legal ≡ false))

-- the same of a list of names
abbrev pub AreUnfit : Place → (room : ℕ) → List (List ℕ) → Fault → Type 0
AreUnfit place room names e = IsUnfit place room (length names) (list_all is_legal names) e

-- of a list of tests
abbrev pub AreUnfitTests : Place → (room : ℕ) → List Test → Fault → Type 0
AreUnfitTests place room tests e = IsUnfit place room (length tests) (list_all compares_legally tests) e

-- of values
abbrev pub AreUnfitValues : Place → (room : ℕ) → List (List Test) → Fault → Type 0
AreUnfitValues place room values e = IsUnfit place room (values_count values) (list_all (list_all compares_legally) values) e

-- of names and tests
abbrev pub IsOneUnfit : Place → (names name_size tests test_size : ℕ) → (legal : Bool) → Fault → Type 0
IsOneUnfit place names name_size tests test_size legal Memory = ⊤
IsOneUnfit place names name_size tests test_size legal (Refused r) = (r ≡ refusal 99 place) × ((names < name_size) ⊎ ((tests < test_size) ⊎ (legal ≡ false)))
