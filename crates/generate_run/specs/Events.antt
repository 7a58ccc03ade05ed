-- The schema of the events, and the events that are drawn.
use Rattle.std.specs.Prelude.{ℕ, zero, suc, pos, ◌%◌, nat_lt, false, if◌then◌else◌, List, [], ◌∷◌, codes, None}
use Rattle.event_schema.specs.Occurrence.{Occurrence}
use Rattle.event_schema.specs.declared.schema.Field.{Field}
use Rattle.event_schema.specs.declared.schema.FieldKind.{FieldKind}
use Rattle.event_schema.specs.declared.schema.FieldKind.TheVariants.{Text, Whole}
use Rattle.event_schema.specs.declared.schema.Schema.{Schema}
use Rattle.event_schema.specs.declared.value.Value.{Value}
use Rattle.event_schema.specs.declared.value.Value.TheVariants as values
use Rattle.generate_run.specs.Draws.{first_draw, second_draw, third_draw, after_three}
use Rattle.generate_run.specs.Words.{word}

-- a field of one value, found under its own name, which keywords don't search
abbrev pub field : List ℕ → FieldKind → Field
field name kind = record { name = name; kind = kind; at = name ∷ []; search = false; cased = false; many = false }

abbrev pub schema : Schema
schema = record {
  table = codes "events";
  fields = field (codes "Image") Text ∷ field (codes "User") Text ∷ field (codes "Code") Whole ∷ [];
  time = None;
}

-- of a number below 10: 0 to 7 name a text, at 8 there's no key, and at 9 null, so no value
abbrev pub text_values : ℕ → List Value
text_values k = if nat_lt k 8 then values.Text (word k) ∷ [] else []

-- of a number below 120: 0 to 99 are whole numbers, and from 100 on there's no key
abbrev pub number_values : ℕ → List Value
number_values n = if nat_lt n 100 then values.Whole (pos n) ∷ [] else []

-- the event that three draws from a state make: `Image`, `User` and `Code`
abbrev pub event_from : ℕ → Occurrence
event_from x = record {
  values = text_values (first_draw x % 10) ∷ text_values (second_draw x % 10) ∷ number_values (third_draw x % 120) ∷ [];
  moment = None;
}

-- so many events, each from the state that the one before it left
abbrev pub events_from : ℕ → ℕ → List Occurrence
events_from x zero = []
events_from x (suc count) = event_from x ∷ events_from (after_three x) count

-- so many events of a seed, from the state that its rule left
abbrev pub events_of : (seed count : ℕ) → List Occurrence
events_of seed count = events_from (after_three seed) count
