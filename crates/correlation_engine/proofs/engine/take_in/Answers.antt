use Rattle.std.proofs.Common.{◌++◌, List, ap, sym, subst, ◌∙◌}
use Rattle.std.specs.Prelude.{ℤ, Option}
use Rattle.correlation_windows.specs.Laws.{IsBehind}
use Rattle.correlation_windows.specs.Reports.{reports_from}
use Rattle.correlation_windows.specs.declared.report.Report.{Report}
use Rattle.correlation_engine.specs.Arrivals.{taken}
use Rattle.correlation_engine.specs.Steps.{IsGrown, reports_each}
use Rattle.correlation_engine.proofs.Standing.{grown_holds, grown_bounds, grown_watches, advanced_holds, advanced_bounds, engine_grown, engine_advanced, each_length, each_reports, timely_all}
use Rattle.correlation_engine.proofs.engine.take_in.Goals as goal

pub prepare_all-requires-clause-timely : goal.prepare_all-requires-clause-timely
prepare_all-requires-clause-timely c = timely_all c.args.last c.args.arrival.now.moment c.args.watches.now.items c.in_ok-in_order.ensures.ok c.requires.engine.watches

pub returns-in_default-clause-kept : goal.returns-in_default-clause-kept
returns-in_default-clause-kept c = engine_grown c.args.last c.args.watches.now.items c.prepare_all.new.watches.items c.prepare_all.ensures.grown c.requires.engine

pub returns-in_default-clause-stays : goal.returns-in_default-clause-stays
returns-in_default-clause-stays c = λ history so. grown_holds history c.args.watches.now.items c.prepare_all.new.watches.items c.prepare_all.ensures.grown so

pub returns-in_default-clause-bounds : goal.returns-in_default-clause-bounds
returns-in_default-clause-bounds c = grown_bounds c.args.watches.now.items c.prepare_all.new.watches.items c.prepare_all.ensures.grown

pub advance_all-requires-clause-timely : goal.advance_all-requires-clause-timely
advance_all-requires-clause-timely c =
    timely_all c.args.last c.args.arrival.now.moment c.prepare_all.new.watches.items c.in_ok-in_order.ensures.ok
    (grown_watches c.args.last c.args.watches.now.items c.prepare_all.new.watches.items c.prepare_all.ensures.grown c.requires.engine.watches)

pub advance_all-requires-clause-each : goal.advance_all-requires-clause-each
advance_all-requires-clause-each c = c.in-Ok.ensures.each ∙ sym (each_length IsGrown c.args.watches.now.items c.prepare_all.new.watches.items c.prepare_all.ensures.grown)

pub returns-clause-taken : goal.returns-clause-taken
returns-clause-taken c = engine_advanced c.args.last c.args.watches.now.items c.prepare_all.new.watches.items c.prepare_all.ensures.grown c.requires.engine (taken c.args.arrival.now) c.advance_all.new.watches.items c.advance_all.ensures.advanced

pub returns-clause-reports : goal.returns-clause-reports
returns-clause-reports c = λ history is so.
    let grown = grown_holds history c.args.watches.now.items c.prepare_all.new.watches.items c.prepare_all.ensures.grown so in
    c.advance_all.ensures.reports
    ∙ (ap (λ (r : List Report). r ++ reports_each (taken c.args.arrival.now) 0 c.prepare_all.new.watches.items) (c.prepare_all.ensures.reports ∙ c.new-reports.ensures.items)
    ∙ (each_reports (taken c.args.arrival.now) history 0 c.prepare_all.new.watches.items (subst (λ (l : Option ℤ). IsBehind l c.args.arrival.now.moment) is c.in_ok-in_order.ensures.ok) grown
    ∙ ap (λ bs. reports_from 0 bs history (taken c.args.arrival.now)) (grown_bounds c.args.watches.now.items c.prepare_all.new.watches.items c.prepare_all.ensures.grown)))

pub returns-clause-stands : goal.returns-clause-stands
returns-clause-stands c = λ history is so.
    advanced_holds (taken c.args.arrival.now) history c.prepare_all.new.watches.items c.advance_all.new.watches.items (subst (λ (l : Option ℤ). IsBehind l c.args.arrival.now.moment) is c.in_ok-in_order.ensures.ok) c.advance_all.ensures.advanced
    (grown_holds history c.args.watches.now.items c.prepare_all.new.watches.items c.prepare_all.ensures.grown so)

pub returns-clause-bounds : goal.returns-clause-bounds
returns-clause-bounds c = advanced_bounds (taken c.args.arrival.now) c.prepare_all.new.watches.items c.advance_all.new.watches.items c.advance_all.ensures.advanced ∙ grown_bounds c.args.watches.now.items c.prepare_all.new.watches.items c.prepare_all.ensures.grown
