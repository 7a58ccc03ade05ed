-- What a field takes of a text, by the test.
use Rattle.std.proofs.Common.{ℕ, ◌≡◌, refl, true, false, List, nat_lt, Ok, Err, Some}
use Rattle.std.specs.List.{list_all}
use Rattle.sig_base.specs.declared.refusal.Fault.{Fault}
use Rattle.sig_base.specs.declared.refusal.Fault.TheVariants.{Refused}
use Rattle.sig_base.specs.declared.refusal.Place.{Place}
use Rattle.event_read.specs.Answers.{Answers}
use Rattle.sig_base.specs.Judged.{refusal}
use Rattle.event_read.specs.Takes.{as_text}
use Rattle.event_schema.specs.declared.value.Value.TheVariants as values

pub text_refused : (place : Place) (text : List ℕ) (e : Fault) → list_all (λ c. nat_lt 0 c) text ≡ false → e ≡ Refused (refusal 28 place) → Answers place (as_text text) (Err e)
text_refused place text e nul is = rw nul (rw is refl)

pub text_taken : (place : Place) (text t : List ℕ) → list_all (λ c. nat_lt 0 c) text ≡ true → t ≡ text → Answers place (as_text text) (Ok (Some (values.Text t)))
text_taken place text t plain is = rw plain (rw is refl)
