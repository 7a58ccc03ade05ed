-- What is refused is refused whatever the moment is.
use Rattle.std.proofs.Common.{List, Option, Ok, Err, ℤ}
use Rattle.event_read.specs.Answers.{Answers, AnswersAs}
use Rattle.event_read.specs.EventOf.{Row, with_moment}
use Rattle.event_schema.specs.declared.value.Value.{Value}
use Rattle.sig_base.specs.declared.refusal.Fault.{Fault}
use Rattle.sig_base.specs.declared.refusal.Fault.TheVariants.{Memory, Refused}
use Rattle.sig_base.specs.declared.refusal.Place.{Place}

-- values that are refused
pub refused_too : {Y : Type 0} → (g : Y → List (List Value)) (place : Place) (moment : Option ℤ) (r : Row) (e : Fault) → AnswersAs g place r (Err e) → Answers place (with_moment moment r) (Err e)
refused_too g place moment (Ok values) Memory h = tt
refused_too g place moment (Ok values) (Refused x) h = absurd h
refused_too g place moment (Err code) Memory h = tt
refused_too g place moment (Err code) (Refused x) h = h
