use Rattle.std.proofs.Common.{rules, ◌≡◌, sym, ◌∙◌, List, ℕ, map, length, subst, FitsSigned, Ok, Err, None, Some}
use Rattle.std.proofs.lemmas.Int.{to_z-of_z}
use Rattle.std.specs.Int.{w128}
use Rattle.std.specs.Prelude.{ℤ, Bool}
use Rattle.answer_writer.proofs.Wrote.{writes_memory}
use Rattle.answer_writer.specs.Stands.{Writes}
use Rattle.correlation_run.proofs.Brought.{Answered, Moment, event_brought, event_untimed, line_refuses}
use Rattle.correlation_run.proofs.Judged.{written_over}
use Rattle.correlation_run.specs.Followed.{Correlating, AreHits}
use Rattle.correlation_windows.specs.History.{Taken}
use Rattle.correlation_windows.specs.Kept.{StandsFor}
use Rattle.event_read.specs.Answers.{Answers}
use Rattle.event_read.specs.EventOf.{event_of}
use Rattle.event_schema.specs.Occurrence.{Occurrence}
use Rattle.rule_model.specs.Plain.{rule_view}
use Rattle.sig_base.specs.declared.refusal.Fault.TheVariants.{Refused}
use Rattle.sig_base.specs.declared.refusal.Place.{Place}
use Rattle.answer_writer.specs.declared.stop.Stop.TheVariants.{Memory}
use Rattle.correlation_run.proofs.event_reports.EventFollowerLineFollower.answer.Goals as goal

pub returns-in-Err-Refused-clause-writes : goal.returns-in-Err-Refused-clause-writes
returns-in-Err-Refused-clause-writes g c = λ history stands.
    let self = c.args.self.now in
    let w : Correlating = record { schema = self.schema.now; rules = map rule_view self.rules.now; bounds = self.engine.now.bounds; names = self.names.now } in
    let place : Place = record { line = c.args.number; column = 1 } in
    let told = rw c.in-Err-Refused.field-0-is at c.in-Err-Refused.ensures.taken in
    let answers = subst (λ (bytes : List ℕ). Answers {X = Occurrence} place (event_of w.schema bytes) (Err (Refused c.in-Err-Refused.cause))) c.as_slice.ensures told in
    line_refuses w history c.args.number c.args.line place (λ after. StandsFor self.engine.now after) c.tell_line_refusal.result (g.W.Outside.state c.args.outside.now) (g.W.Outside.state c.tell_line_refusal.new.outside)
    c.in-Err-Refused.cause answers stands c.tell_line_refusal.ensures

pub returns-in-Err-Memory-clause-writes : goal.returns-in-Err-Memory-clause-writes
returns-in-Err-Memory-clause-writes g c = λ history stands.
    let self = c.args.self.now in
    let w : Correlating = record { schema = self.schema.now; rules = map rule_view self.rules.now; bounds = self.engine.now.bounds; names = self.names.now } in
    let place : Place = record { line = c.args.number; column = 1 } in
    let s = g.W.Outside.state c.args.outside.now in
    let some = c.each_line.ensures history c.args.number c.args.line in
    writes_memory (Answered w history c.args.number c.args.line place (λ after. StandsFor self.engine.now after) (Err Memory) s s) s (some.0, (some.1, some.2, tt))

pub returns-in_default-clause-writes : goal.returns-in_default-clause-writes
returns-in_default-clause-writes g c = λ history stands.
    let self = c.args.self.now in
    let w : Correlating = record { schema = self.schema.now; rules = map rule_view self.rules.now; bounds = self.engine.now.bounds; names = self.names.now } in
    let place : Place = record { line = c.args.number; column = 1 } in
    let answers = subst (λ (bytes : List ℕ). Answers place (event_of w.schema bytes) (Ok c.in-Ok.event)) c.as_slice.ensures c.in-Ok.ensures.taken in
    let is : c.in-Ok.event.moment ≡ None = search rules in
    event_untimed w history c.args.number c.args.line place (λ after. StandsFor self.engine.now after) c.tell_line_refusal-in_default.result (g.W.Outside.state c.args.outside.now)
    (g.W.Outside.state c.tell_line_refusal-in_default.new.outside) c.in-Ok.event answers is stands c.tell_line_refusal-in_default.ensures

pub returns-clause-writes : goal.returns-clause-writes
returns-clause-writes g c = λ history stands.
    let self = c.args.self.now in
    let rules_of = map rule_view self.rules.now in
    let w : Correlating = record { schema = self.schema.now; rules = rules_of; bounds = self.engine.now.bounds; names = self.names.now } in
    let place : Place = record { line = c.args.number; column = 1 } in
    let answers = subst (λ (bytes : List ℕ). Answers place (event_of w.schema bytes) (Ok c.in-Ok.event)) c.as_slice.ensures c.in-Ok.ensures.taken in
    let is : c.in-Ok.event.moment ≡ Some c.in-Some.moment = search rules in
    let fits : FitsSigned w128 c.in-Some.moment = search rules in
    let row = c.in-Ok.event.values in
    let S : List Taken → Type 0 = λ after. StandsFor c.bring_event.new.engine after in
    let old = g.W.Outside.state c.args.outside.now in
    let new = g.W.Outside.state c.bring_event.new.outside in
    let long : length c.judge_all.new.hits ≡ c.args.self.now.hits.now.len = search rules in
    let hits = subst (λ (l : List Bool). AreHits w.schema.fields rules_of row l) (sym (c.as_slice-2.ensures.value ∙ written_over c.args.self.now.hits.now.len c.judge_all.new.hits _ long)) (c.judge_all.ensures.hits w.schema.fields rules_of c.requires.0) in
    event_brought w history c.args.number c.args.line place S c.bring_event.result old new c.in-Ok.event c.in-Some.moment answers is
    (subst (λ (m : ℤ). Writes (Moment w history c.args.number row m S c.bring_event.result old new) c.bring_event.result old new) (to_z-of_z w128 c.in-Some.moment fits)
    (c.bring_event.ensures.writes w.schema rules_of history hits stands))
