-- How large a rule may grow, and what its names and patterns have to be.
use Rattle.std.specs.Prelude.{ℕ, ◌+◌, Bool, true, ◌&&◌, nat_le, List, [], ◌∷◌, length, Option, Some, None}
use Rattle.std.specs.List.{list_all}
use Rattle.event_schema.specs.Names.{is_legal}
use Rattle.sig_base.specs.declared.limits.Limits.{Limits}
use Rattle.sig_base.specs.declared.refusal.Place.{Place}
use Rattle.sig_base.specs.declared.refusal.Refusal.{Refusal}
use Rattle.sig_base.specs.Judged.{must}
use Rattle.rule_detections.specs.References.{reference_of}
use Rattle.rule_detections.specs.declared.test.Test.{Test}
use Rattle.rule_detections.specs.declared.test.Test.TheVariants as tests
use Rattle.rule_detections.specs.declared.detection.Detection.{Detection}
use Rattle.rule_detections.specs.declared.item.Fields.{Fields}
use Rattle.rule_detections.specs.declared.item.Fields.TheVariants.{Keyword, Names}
use Rattle.rule_detections.specs.declared.item.Item.{Item}

-- the sum over a list
abbrev pub total : {A : Type 0} → (A → ℕ) → List A → ℕ
total size [] = 0
total size (x ∷ xs) = size x + total size xs

abbrev pub names_in : Fields → List (List ℕ)
names_in Keyword = []
names_in (Names names) = names

abbrev pub name_count : Item → ℕ
name_count i = length (names_in i.fields)

abbrev pub values_count : List (List Test) → ℕ
values_count values = total length values

abbrev pub test_count : Item → ℕ
test_count i = values_count i.tests

-- the sum over all items
abbrev pub in_detection : (Item → ℕ) → Detection → ℕ
in_detection size d = total (total size) d.alternatives

abbrev pub of_items : (Item → ℕ) → List Detection → ℕ
of_items size ds = total (in_detection size) ds

-- ---- names

abbrev pub is_legal_if_any : Option (List ℕ) → Bool
is_legal_if_any None = true
is_legal_if_any (Some name) = is_legal name

-- the name that a test compares with is legal
abbrev pub compares_legally : Test → Bool
compares_legally test = is_legal_if_any (reference_of test)

-- the item's names, and those that its tests compare with, are legal
abbrev pub has_legal_names : Item → Bool
has_legal_names i = list_all is_legal (names_in i.fields) && list_all (list_all compares_legally) i.tests

-- something is so of all items
abbrev pub in_every : (Item → Bool) → Detection → Bool
in_every p d = list_all (list_all p) d.alternatives

abbrev pub every_item : (Item → Bool) → List Detection → Bool
every_item p ds = list_all (in_every p) ds

-- ---- patterns

-- how many parts the pattern of a test has; other tests have none
abbrev pub part_count : Test → ℕ
part_count tests.Absent = 0
part_count (tests.Exists there) = 0
part_count (tests.Fits pattern cased) = length pattern
part_count (tests.Equals n) = 0
part_count (tests.Inside n) = 0
part_count (tests.Compare op n) = 0
part_count (tests.SameAs name) = 0
part_count (tests.Finds text flags) = 0

abbrev pub has_few_parts : ℕ → Test → Bool
has_few_parts most test = nat_le (part_count test) most

-- no pattern of the item's tests has more parts than a value may have characters
abbrev pub has_short_patterns : Limits → Item → Bool
has_short_patterns limits i = list_all (list_all (has_few_parts limits.value_chars)) i.tests

-- ---- the refusal

-- at most so many names of all items together, at most so many tests, each name is legal, and each pattern is short
abbrev pub has_room : Limits → List Detection → Bool
has_room limits ds =
    nat_le (of_items name_count ds) limits.grown && nat_le (of_items test_count ds) limits.grown && every_item has_legal_names ds
    && every_item (has_short_patterns limits) ds

-- code 99
abbrev pub grown_refusal : Limits → Place → List Detection → Option Refusal
grown_refusal limits place ds = must 99 place (has_room limits ds)
