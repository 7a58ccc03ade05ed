-- Whether a rule fits a schema, as the code goes through its items.
use Rattle.std.specs.Prelude.{◌≡◌, Option, Some, None, Result, Ok, Err}
use Rattle.sig_base.specs.declared.refusal.Refusal.{Refusal}

-- there is no cause, or it is what is answered
abbrev pub AnswersRefusal : Option Refusal → Result (Unit {0}) Refusal → Type 0
AnswersRefusal cause (Ok done) = cause ≡ None
AnswersRefusal cause (Err r) = cause ≡ Some r
