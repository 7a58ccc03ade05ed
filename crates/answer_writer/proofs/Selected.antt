-- That each line of events is answered in one way where events are picked, and what answering one leaves.
use Rattle.std.proofs.Common.{◌≡◌, ℕ, List, refl, ap, sym, ◌∙◌, subst, Result, Ok, Err, inl, inr}
use Rattle.std.specs.Prelude.{◌⊎◌, ◌↔◌, IsTrue, Bool, true, false}
use Rattle.answer_writer.proofs.Wrote.{writes_as}
use Rattle.answer_writer.specs.EventLines.{EachLine, line_refused}
use Rattle.answer_writer.specs.Parts.{Share, no_share}
use Rattle.answer_writer.specs.Stands.{Writes}
use Rattle.answer_writer.specs.State.{State}
use Rattle.answer_writer.specs.declared.stop.Stop.{Stop}
use Rattle.event_read.specs.Answers.{Answers}
use Rattle.event_read.specs.EventOf.{event_of}
use Rattle.event_schema.specs.Occurrence.{Occurrence}
use Rattle.event_schema.specs.declared.schema.Schema.{Schema}
use Rattle.event_schema.specs.declared.value.Value.{Value}
use Rattle.sig_base.specs.declared.refusal.Fault.TheVariants.{Refused}
use Rattle.sig_base.specs.declared.refusal.Place.{Place}
use Rattle.sig_base.specs.declared.refusal.Refusal.{Refusal}
use Rattle.answer_writer.specs.Selected.{Picking, IsDecided, line_share, picked_share, EventGives, Selects}

pub each_selected : (schema : Schema) (Picks : Picking) → IsDecided Picks → EachLine (Selects schema Picks)
each_selected schema Picks decided number line = by (event_of schema line)
  where
    picked : (event : Occurrence) → Picks event.values ⊎ (Picks event.values → ⊥) → (share : Share) × EventGives Picks number line (Ok event) share
    picked event (inl is) = (line_share line, inl (is, refl))
    picked event (inr not) = (no_share, inr (not, refl))

    by : (r : Result Occurrence ℕ) → (share : Share) × EventGives Picks number line r share
    by (Ok event) = picked event (decided event.values)
    by (Err code) = (line_refused number code, refl)

pub one_selected : (schema : Schema) (Picks : Picking) (number : ℕ) (line : List ℕ) (a b : Share) → Selects schema Picks number line a → Selects schema Picks number line b → a ≡ b
one_selected schema Picks number line a b first second = by (event_of schema line) first second
  where
    by : (r : Result Occurrence ℕ) → EventGives Picks number line r a → EventGives Picks number line r b → a ≡ b
    by (Ok event) (inl (is, same)) (inl (too, same_too)) = same ∙ sym same_too
    by (Ok event) (inl (is, same)) (inr (not, same_too)) = absurd (not is)
    by (Ok event) (inr (not, same)) (inl (too, same_too)) = absurd (not too)
    by (Ok event) (inr (not, same)) (inr (not_too, same_too)) = same ∙ sym same_too
    by (Err code) same same_too = same ∙ sym same_too

-- ---- what is left of a line

-- what an event gives by whether it's picked
picked_is : (Picks : Picking) (number : ℕ) (line : List ℕ) (event : Occurrence) (picked : Bool) (share : Share) → IsTrue picked ↔ Picks event.values → share ≡ picked_share picked line
    → EventGives Picks number line (Ok event) share
picked_is Picks number line event true share iff is = inl (iff.0 refl, is)
picked_is Picks number line event false share iff is = inr ((λ picks. not_true (iff.1 picks)), is)
  where
    not_true : false ≡ true → ⊥
    not_true same = cc

-- a reader's answer tells what the line is
event_answered : (place : Place) (t : Result Occurrence ℕ) (event : Occurrence) → Answers place t (Ok event) → t ≡ Ok event
event_answered place (Ok x) event a = ap (λ (y : Occurrence). Ok y) (sym a)
event_answered place (Err code) event a = absurd a

event_refused : (place : Place) (t : Result Occurrence ℕ) (r : Refusal) → Answers {X = Occurrence} place t (Err (Refused r)) → (code : ℕ) × (t ≡ Err code) × (r.code ≡ code)
event_refused place (Ok x) r a = absurd a
event_refused place (Err code) r a = (code, refl, ap (λ (x : Refusal). x.code) a)

module _ (schema : Schema) (Picks : Picking) (number : ℕ) (line : List ℕ) (place : Place) (result : Result Bool Stop) (old new : State) where
  -- the line is an event, which is picked or isn't
  pub event_gives : (event : Occurrence) (picked : Bool) → Answers place (event_of schema line) (Ok event) → IsTrue picked ↔ Picks event.values
      → Writes (λ share. share ≡ picked_share picked line) result old new → Writes (Selects schema Picks number line) result old new
  event_gives event picked answers iff wrote =
      subst (λ (t : Result Occurrence ℕ). Writes (EventGives Picks number line t) result old new) (sym (event_answered place (event_of schema line) event answers))
      (writes_as (λ share. share ≡ picked_share picked line) (EventGives Picks number line (Ok event)) result old new
      (λ share is. picked_is Picks number line event picked share iff is) wrote)

  -- the line is no event, and was refused
  pub refused_gives : (r : Refusal) → Answers {X = Occurrence} place (event_of schema line) (Err (Refused r)) → Writes (λ share. share ≡ line_refused number r.code) result old new
      → Writes (Selects schema Picks number line) result old new
  refused_gives r answers wrote =
      let cause = event_refused place (event_of schema line) r answers in
      subst (λ (t : Result Occurrence ℕ). Writes (EventGives Picks number line t) result old new) (sym cause.1)
      (writes_as (λ share. share ≡ line_refused number r.code) (EventGives Picks number line (Err cause.0)) result old new
      (λ share is. is ∙ ap (λ (c : ℕ). line_refused number c) cause.2) wrote)
