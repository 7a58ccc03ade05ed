use Rattle.std.proofs.Common.{◌≡◌, refl, sym, subst, ◌∙◌, FitsSigned}
use Rattle.std.specs.Int.{w128}
use Rattle.std.specs.Prelude.{ℤ, Option}
use Rattle.answer_writer.specs.Parts.{diagnostic_share}
use Rattle.answer_writer.specs.Stands.{Writes}
use Rattle.correlation_engine.specs.Arrivals.{taken}
use Rattle.correlation_run.proofs.Brought.{brought, too_early, untaken}
use Rattle.correlation_run.proofs.Lined.{as_handed}
use Rattle.correlation_run.specs.Followed.{Correlating, order_diagnostic}
use Rattle.correlation_windows.specs.Kept.{StandsFor}
use Rattle.correlation_windows.specs.Laws.{IsBehind}
use Rattle.correlation_run.proofs.brought_events.bring_event.Goals as goal

pub returns-in-Ok-clause-writes : goal.returns-in-Ok-clause-writes
returns-in-Ok-clause-writes g c = λ schema rules history are stands.
    let a = c.args.arrival.now in
    let w : Correlating = record { schema = schema; rules = rules; bounds = c.args.engine.now.bounds; names = c.args.names.now } in
    brought w history a.line a.event.now.values a.moment (λ after. StandsFor c.take.new.self after) c.put_reports.result (g.W.Outside.state c.args.outside.now) (g.W.Outside.state c.put_reports.new.outside)
    (taken a) refl (subst (λ (l : Option ℤ). IsBehind l a.moment) stands.0 c.in-Ok.ensures.in_order) are c.deref.result.now (c.deref.ensures.value ∙ c.in-Ok.ensures.reports history stands)
    (c.in-Ok.ensures.stands history stands) c.put_reports.ensures

pub returns-in-Err-OutOfOrder-clause-writes : goal.returns-in-Err-OutOfOrder-clause-writes
returns-in-Err-OutOfOrder-clause-writes g c = λ schema rules history are stands.
    let a = c.args.arrival.now in
    let w : Correlating = record { schema = schema; rules = rules; bounds = c.args.engine.now.bounds; names = c.args.names.now } in
    let old = g.W.Outside.state c.args.outside.now in
    let new = g.W.Outside.state c.tell_early.new.outside in
    let came = c.in-Err-OutOfOrder.moment in
    let last = c.in-Err-OutOfOrder.last in
    let fault = rw c.in-Err-OutOfOrder.field-0-is at c.in-Err-OutOfOrder.ensures.fault in
    let fits : FitsSigned w128 came = search in
    let fits_too : FitsSigned w128 last = search in
    too_early w history a.line a.event.now.values a.moment (λ after. StandsFor c.take.new.self after) c.tell_early.result old new came last fault.0 (sym stands.0 ∙ fault.1) fault.2
    (c.in-Err-OutOfOrder.ensures.stays history stands)
    (as_handed (λ m l. Writes (λ share. share ≡ diagnostic_share (order_diagnostic a.line m l)) c.tell_early.result old new) came last fits fits_too c.tell_early.ensures)

pub returns-in-Err-Memory-clause-writes : goal.returns-in-Err-Memory-clause-writes
returns-in-Err-Memory-clause-writes g c = λ schema rules history are stands.
    let a = c.args.arrival.now in
    let w : Correlating = record { schema = schema; rules = rules; bounds = c.args.engine.now.bounds; names = c.args.names.now } in
    let fault = rw c.in-Err-Memory.field-0-is at c.in-Err-Memory.ensures.fault in
    untaken w history a.line a.event.now.values a.moment (λ after. StandsFor c.take.new.self after) (g.W.Outside.state c.args.outside.now)
    (subst (λ (l : Option ℤ). IsBehind l a.moment) stands.0 fault) a.hits.now are
