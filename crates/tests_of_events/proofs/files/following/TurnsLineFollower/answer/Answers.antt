use Rattle.std.proofs.Common.{◌≡◌, refl, false, Ok, inl, inr}
use Rattle.answer_writer.proofs.Followed.{on_ok}
use Rattle.answer_writer.proofs.Wrote.{writes_as, writes_nothing}
use Rattle.answer_writer.specs.EventLines.{line_refused}
use Rattle.answer_writer.specs.Parts.{no_share}
use Rattle.tests_of_events.proofs.files.following.TurnsLineFollower.answer.Goals as goal

pub returns-then-eq-clause-writes : goal.returns-then-eq-clause-writes
returns-then-eq-clause-writes g c = λ history stands.
    writes_as (λ share. share ≡ line_refused c.args.number 25) _ _ _ _ (λ share is. (history, inr (inl (is, refl)), on_ok _ _ stands)) c.tell_line_refusal.ensures

pub returns-then-eq-2-clause-writes : goal.returns-then-eq-2-clause-writes
returns-then-eq-2-clause-writes g c = λ history stands.
    let s = g.W.Outside.state c.args.outside.now in
    writes_as (λ share. share ≡ no_share) _ (Ok false) s s (λ share is. (history, inr (inr (is, refl)), stands)) (writes_nothing s)
