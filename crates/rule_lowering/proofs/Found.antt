-- The names and fields that a rule asks about, where it fits the schema.
use Rattle.std.proofs.Common.{ℕ, ◌≡◌, Bool, true, false, List, [], ◌∷◌, map, filter, refl, ◌||◌}
use Rattle.std.specs.Prelude.{Option, Some, None}
use Rattle.std.specs.List.{list_any, list_all}
use Rattle.std.proofs.lemmas.Bool.{and_parts}
use Rattle.event_schema.specs.declared.schema.Field.{Field}
use Rattle.event_schema.specs.Lists.{EachOf, HasElement}
use Rattle.sig_base.specs.declared.refusal.Place.{Place}
use Rattle.sig_base.specs.declared.refusal.Refusal.{Refusal}
use Rattle.sig_base.specs.Judged.{must, first}
use Rattle.schema_index.specs.Numbers.{number_of, searched}

some_step : {A B : Type 0} (p : A → Bool) (g : A → B) (x : A) (xs : List A) → (list_any p xs ≡ true → HasElement (map g (filter p xs))) → (b : Bool) → p x ≡ b
    → (b || list_any p xs) ≡ true → HasElement (map g (filter p (x ∷ xs)))
some_step p g x xs rest true e h = rw e tt
some_step p g x xs rest false e h = rw e (rest h)

some_kept : {A B : Type 0} (p : A → Bool) (g : A → B) (xs : List A) → list_any p xs ≡ true → HasElement (map g (filter p xs))
some_kept p g [] h = absurd (let f : false ≡ true = h in cc)
some_kept p g (x ∷ xs) h = some_step p g x xs (some_kept p g xs) (p x) refl h

pub some_searched : (fields : List Field) → list_any (λ f. f.search) fields ≡ true → HasElement (searched fields)
some_searched fields h = some_kept (λ f. f.search) (λ f. number_of fields f.name) fields h

-- ---- refusals

pub must_holds : (code : ℕ) (place : Place) (b : Bool) → must code place b ≡ None → b ≡ true
must_holds code place true h = refl
must_holds code place false h = absurd (cc)

pub each_name : {P : List ℕ → Type 0} (p : List ℕ → Bool) → ((name : List ℕ) → p name ≡ true → P name)
    → (names : List (List ℕ)) → list_all p names ≡ true → EachOf P names
each_name p holds [] h = tt
each_name p holds (name ∷ names) h =
    let both = and_parts (p name) (list_all p names) h in
    (holds name both.0, each_name p holds names both.1)

first_step : (r : Option Refusal) (rs : List (Option Refusal)) → first (r ∷ rs) ≡ None → (r ≡ None) × (first rs ≡ None)
first_step None rs h = (refl, h)
first_step (Some x) rs h = absurd (cc)

pub each_passes : {A : Type 0} (refusal : A → Option Refusal) (xs : List A) → first (map refusal xs) ≡ None → EachOf (λ x. refusal x ≡ None) xs
each_passes refusal [] h = tt
each_passes refusal (x ∷ xs) h =
    let both = first_step (refusal x) (map refusal xs) h in
    (both.0, each_passes refusal xs both.1)
