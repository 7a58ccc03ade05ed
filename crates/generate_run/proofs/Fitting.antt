-- What is drawn is of the fields' kinds.
use Rattle.std.proofs.Common.{arith, ◌≡◌, ◌≤◌, ◌<◌, ◌^◌, ◌-◌, ◌%◌, ℕ, zero, suc, Bool, true, false, nat_lt, List, [], ◌∷◌, length, refl}
use Rattle.std.specs.Prelude.{if◌then◌else◌, codes, pos, negsuc, ◌≤ℤ◌}
use Rattle.std.proofs.lemmas.Bool.{ltb-true}
use Rattle.std.proofs.lemmas.Int.{ints}
use Rattle.event_schema.specs.Events.{IsPlainText, IsWholeNumber, IsOfKind, AreValuesOf, IsEvent}
use Rattle.event_schema.specs.Lists.{EachOf}
use Rattle.event_schema.specs.declared.schema.FieldKind.TheVariants.{Text, Whole}
use Rattle.event_schema.specs.declared.value.Value.{Value}
use Rattle.event_schema.specs.declared.value.Value.TheVariants as values
use Rattle.generate_run.specs.Draws.{first_draw, second_draw, third_draw, after_three}
use Rattle.generate_run.specs.Events.{field, schema, text_values, number_values, event_from, events_from}
use Rattle.generate_run.specs.Words.{words, text_at, word}

-- what holds of each of the texts and of the empty one holds of a number's text
pub of_each : (P : List ℕ → Type 0) (texts : List (List ℕ)) → EachOf P texts → P [] → (k : ℕ) → P (text_at texts k)
of_each P [] each none k = none
of_each P (text ∷ texts) each none zero = each.0
of_each P (text ∷ texts) each none (suc k) = of_each P texts each.1 none k

plain_word : (k : ℕ) → IsPlainText (word k)
plain_word k =
    let each : EachOf IsPlainText words =
    ((refl, refl), ((refl, refl), ((refl, refl), ((refl, refl), ((refl, refl), ((refl, refl), ((refl, refl), ((refl, refl), tt)))))))) in
    of_each IsPlainText words each (refl, refl) k

texts_fit : (name : List ℕ) (k : ℕ) → AreValuesOf (field name Text) (text_values k)
texts_fit name k = by (nat_lt k 8)
  where
    by : (b : Bool) → AreValuesOf (field name Text) (if b then values.Text (word k) ∷ [] else [])
    by true = record { kinds = (plain_word k, tt); few = λ _. omega arith }
    by false = record { kinds = tt; few = λ _. omega arith }

pub small_number : (n : ℕ) → n < 100 → IsWholeNumber (pos n)
small_number n below = (omega (arith, ints), omega (arith, ints, below))

numbers_fit : (name : List ℕ) (n : ℕ) → AreValuesOf (field name Whole) (number_values n)
numbers_fit name n = by (nat_lt n 100) refl
  where
    by : (b : Bool) → nat_lt n 100 ≡ b → AreValuesOf (field name Whole) (if b then values.Whole (pos n) ∷ [] else [])
    by true is = record { kinds = (small_number n (ltb-true n 100 is), tt); few = λ _. omega arith }
    by false is = record { kinds = tt; few = λ _. omega arith }

event_fits : (x : ℕ) → IsEvent schema.fields (event_from x).values
event_fits x =
    (texts_fit (codes "Image") (first_draw x % 10), (texts_fit (codes "User") (second_draw x % 10), (numbers_fit (codes "Code") (third_draw x % 120), tt)))

pub events_fit : (x count : ℕ) → EachOf (λ event. IsEvent schema.fields event.values) (events_from x count)
events_fit x zero = tt
events_fit x (suc count) = (event_fits x, events_fit (after_three x) count)
