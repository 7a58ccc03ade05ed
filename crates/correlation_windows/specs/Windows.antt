-- Windows of matches, and in which windows a correlation fires (Sigma specification 2.0, correlation rules).
use Rattle.std.specs.Prelude.{ℕ, ◌+◌, ◌==◌, ℤ, ◌-ℤ◌, int_lt, nat_lt, nat_le, Bool, true, false, not, ◌&&◌, ◌||◌, if◌then◌else◌, List, [], ◌∷◌, ◌++◌, length, reverse}
use Rattle.std.specs.List.{filter, list_all, list_any, filter_map, range_with_len}
use Rattle.std.specs.Str.{bytes_eq}
use Rattle.correlation_windows.specs.Groups.{same_group}
use Rattle.correlation_windows.specs.History.{Grouped}
use Rattle.correlation_windows.specs.declared.matches.Match.{Match}
use Rattle.correlation_windows.specs.declared.bound.CorrelationKind.{CorrelationKind}
use Rattle.correlation_windows.specs.declared.bound.CorrelationKind.TheVariants as kinds
use Rattle.correlation_windows.specs.declared.bound.Op.{Op}
use Rattle.correlation_windows.specs.declared.bound.Op.TheVariants as ops

-- the matches of a group
abbrev pub of_group : List (List ℕ) → List Grouped → List Match
of_group group [] = []
of_group group (m ∷ ms) = if same_group group m.0 then m.1 ∷ of_group group ms else of_group group ms

-- later than `span` before t, and not later than t
abbrev pub is_within : ℤ → ℤ → Match → Bool
is_within span t m = int_lt (t -ℤ span) m.moment && not (int_lt t m.moment)

-- the window of a match that comes behind these: the matches of its group, up to and including itself, within its timespan
abbrev pub window : ℤ → List Grouped → Grouped → List Match
window span before m = filter (is_within span m.1.moment) (of_group m.0 (before ++ m ∷ []))

-- a condition's tests on a number: gt, gte, lt, lte, eq
abbrev pub compares : Op → ℕ → ℕ → Bool
compares ops.Gt number bound = nat_lt bound number
compares ops.Gte number bound = nat_le bound number
compares ops.Lt number bound = nat_lt number bound
compares ops.Lte number bound = nat_le number bound
compares ops.Eq number bound = number == bound

-- a condition, whose tests must all hold
abbrev pub meets : List (Op × ℕ) → ℕ → Bool
meets tests number = list_all (λ test. compares test.0 number test.1) tests

-- how many different texts there are
abbrev pub distinct : List (List ℕ) → ℕ
distinct [] = 0
distinct (text ∷ texts) = (if list_any (bytes_eq text) texts then 0 else 1) + distinct texts

-- the places of the listed rules
abbrev pub places_of : List ℕ → List ℕ
places_of rules = range_with_len 0 (length rules)

-- whether the rule at this place is met in a window
abbrev pub is_met : List Match → ℕ → Bool
is_met w place = list_any (λ m. m.place == place) w

-- whether some of these matches, in their order, are matches with the rules at these places
abbrev pub has_subsequence : List ℕ → List Match → Bool
has_subsequence [] ms = true
has_subsequence (place ∷ places) [] = false
has_subsequence (place ∷ places) (m ∷ ms) = ((m.place == place) && has_subsequence places ms) || has_subsequence (place ∷ places) ms

-- the same, where the first of these matches is among them
abbrev pub has_subsequence_at_first : List ℕ → List Match → Bool
has_subsequence_at_first [] ms = true
has_subsequence_at_first (place ∷ places) [] = false
has_subsequence_at_first (place ∷ places) (m ∷ ms) = (m.place == place) && has_subsequence places ms

-- whether some of the matches, in their order, meet the listed rules in their order, the last match the last rule: read backwards
abbrev pub meets_in_order : List ℕ → List Match → Bool
meets_in_order rules w = has_subsequence_at_first (reverse (places_of rules)) (reverse w)

-- what is counted in a window: the different texts of the counted field, events without a value not counted, or the matches
abbrev pub number_of : CorrelationKind → List Match → ℕ
number_of kinds.EventCount w = length w
number_of kinds.ValueCount w = distinct (filter_map (λ m. m.counted) w)
number_of kinds.Temporal w = length w
number_of kinds.TemporalOrdered w = length w

-- whether a correlation of these listed rules fires in a window
abbrev pub fires : CorrelationKind → List ℕ → List (Op × ℕ) → List Match → Bool
fires kinds.EventCount rules condition w = meets condition (number_of kinds.EventCount w)
fires kinds.ValueCount rules condition w = meets condition (number_of kinds.ValueCount w)
fires kinds.Temporal rules condition w = list_all (is_met w) (places_of rules)
fires kinds.TemporalOrdered rules condition w = meets_in_order rules w
