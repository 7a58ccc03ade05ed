-- Events that were taken, and the matches that they make (Sigma specification 2.0, correlation rules).
use Rattle.std.specs.Prelude.{ℕ, ◌+◌, ℤ, Bool, false, if◌then◌else◌, List, [], ◌∷◌, ◌++◌, map, Option, Some, None, slice_index_or}
use Rattle.std.specs.List.{flat_map, zip}
use Rattle.std.specs.Option.{option_map}
use Rattle.event_schema.specs.Rows.{field_values, first_value, value_text}
use Rattle.event_schema.specs.declared.value.Value.{Value}
use Rattle.correlation_windows.specs.declared.matches.Match.{Match}
use Rattle.correlation_windows.specs.declared.bound.Bound.{Bound}

-- an event that was taken: its line, its moment in nanoseconds, whether it matches each rule, and the values of its fields
pub record Taken : Type 0 where
  pub line : ℕ
  pub moment : ℤ
  pub hits : List Bool
  pub values : List (List Value)

-- the text of a field's first value, if the event has a value there
abbrev pub text_at : List (List Value) → ℕ → Option (List ℕ)
text_at values field = option_map value_text (first_value (field_values values field))

-- all texts, if none is missing
abbrev pub all_there : List (Option (List ℕ)) → Option (List (List ℕ))
all_there [] = Some []
all_there (None ∷ rest) = None
all_there (Some text ∷ rest) = option_map (λ texts. text ∷ texts) (all_there rest)

-- the group of an event by these fields: their texts, if the event has a value in each; without fields all are of one group
abbrev pub group_by : List (List Value) → List ℕ → Option (List (List ℕ))
group_by values fields = all_there (map (text_at values) fields)

-- the text that `value_count` counts
abbrev pub counted_text : List (List Value) → Option ℕ → Option (List ℕ)
counted_text values None = None
counted_text values (Some field) = text_at values field

-- a match with its group
abbrev pub Grouped : Type 0
Grouped = List (List ℕ) × Match

-- a match without a group is passed over
abbrev pub in_group : Option (List (List ℕ)) → Match → List Grouped
in_group None m = []
in_group (Some group) m = (group, m) ∷ []

-- an event's match with a listed rule, which has this place in the list and these fields of its group
abbrev pub match_with : Option ℕ → Taken → ℕ → ℕ × List ℕ → List Grouped
match_with counted e place listed =
    if slice_index_or e.hits listed.0 false
    then in_group (group_by e.values listed.1) (record { line = e.line; moment = e.moment; place = place; counted = counted_text e.values counted })
    else []

-- its matches with the listed rules from this place on, in the order of the list
abbrev pub matches_from : Option ℕ → Taken → ℕ → List (ℕ × List ℕ) → List Grouped
matches_from counted e place [] = []
matches_from counted e place (listed ∷ rest) = match_with counted e place listed ++ matches_from counted e (place + 1) rest

-- an event's matches: each listed rule that it matches is one, also where two texts of the list stand for the same rule
abbrev pub event_matches : Bound → Taken → List Grouped
event_matches b e = matches_from b.counted e 0 (zip b.rules b.groups)

-- the matches of a history, in the order of its events and, within one event, of the listed rules
abbrev pub matches_of : Bound → List Taken → List Grouped
matches_of b history = flat_map (event_matches b) history

-- the moment of the last event
abbrev pub last_moment : List Taken → Option ℤ
last_moment [] = None
last_moment (e ∷ []) = Some e.moment
last_moment (e ∷ next ∷ es) = last_moment (next ∷ es)
