-- What a reader of JSON answers.
use Rattle.std.specs.Prelude.{◌≡◌, ⊤, ℕ, Result, Ok, Err}
use Rattle.sig_base.specs.Judged.{refusal}
use Rattle.sig_base.specs.declared.refusal.Place.{Place}
use Rattle.sig_base.specs.declared.refusal.Fault.{Fault}
use Rattle.sig_base.specs.declared.refusal.Fault.TheVariants.{Memory, Refused}

-- What is read is answered, or the refusal with the code at the place; want of memory is free.
abbrev pub Answers : {X : Type 0} → Place → Result X ℕ → Result X Fault → Type 0
Answers place (Ok x) (Ok y) = y ≡ x
Answers place (Ok x) (Err Memory) = ⊤
Answers place (Ok x) (Err (Refused r)) = ⊥
Answers place (Err code) (Ok y) = ⊥
Answers place (Err code) (Err Memory) = ⊤
Answers place (Err code) (Err (Refused r)) = r ≡ refusal code place

-- the same of what is answered as something else, as a vector is a list
abbrev pub AnswersAs : {X Y : Type 0} → (Y → X) → Place → Result X ℕ → Result Y Fault → Type 0
AnswersAs f place (Ok x) (Ok y) = f y ≡ x
AnswersAs f place (Ok x) (Err Memory) = ⊤
AnswersAs f place (Ok x) (Err (Refused r)) = ⊥
AnswersAs f place (Err code) (Ok y) = ⊥
AnswersAs f place (Err code) (Err Memory) = ⊤
AnswersAs f place (Err code) (Err (Refused r)) = r ≡ refusal code place
