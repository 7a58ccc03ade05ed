use Rattle.std.proofs.Common.{◌≡◌, ap, sym, subst, ◌∙◌, arith, FitsSigned}
use Rattle.std.proofs.lemmas.Int.{ints, to_z-of_z}
use Rattle.std.specs.Int.{w128}
use Rattle.std.specs.Prelude.{Some}
use Rattle.correlation_windows.specs.Kept.{State, StandsFor}
use Rattle.correlation_windows.specs.Laws.{IsBehind}
use Rattle.correlation_windows.specs.Reports.{reports}
use Rattle.correlation_engine.specs.Arrivals.{taken}
use Rattle.correlation_engine.specs.Engines.{IsFaultOf}
use Rattle.correlation_engine.proofs.Standing.{last_more}
use Rattle.correlation_engine.proofs.engine.Engine.take.Goals as goal

pub returns-in-Ok-clause-reports : goal.returns-in-Ok-clause-reports
returns-in-Ok-clause-reports c = λ history so.
    let at : StandsFor _ history = subst (λ (s : State). StandsFor s history) (sym c.self.view_is) so in
    subst (λ (s : State). c.in-Ok.all.items ≡ reports s.bounds history (taken c.args.arrival.now)) c.self.view_is (c.in-Ok.ensures.reports history at.0 at.1)

pub returns-in-Ok-clause-stands : goal.returns-in-Ok-clause-stands
returns-in-Ok-clause-stands c = λ history so.
    let at : StandsFor _ history = subst (λ (s : State). StandsFor s history) (sym c.self.view_is) so in
    let fits : FitsSigned w128 c.args.arrival.now.moment = grind (arith, ints, c.requires) in
    (ap Some (to_z-of_z w128 c.args.arrival.now.moment fits) ∙ sym (last_more history (taken c.args.arrival.now)), c.in-Ok.ensures.stands history at.0 at.1)

pub returns-in-Ok-clause-bounds : goal.returns-in-Ok-clause-bounds
returns-in-Ok-clause-bounds c = c.take_in.ensures.bounds ∙ ap (λ (s : State). s.bounds) c.self.view_is

pub returns-in-Ok-clause-in_order : goal.returns-in-Ok-clause-in_order
returns-in-Ok-clause-in_order c = subst (λ (s : State). IsBehind s.last c.args.arrival.now.moment) c.self.view_is c.in-Ok.ensures.in_order

pub returns-in-Err-clause-stays : goal.returns-in-Err-clause-stays
returns-in-Err-clause-stays c = λ history so.
    let at : StandsFor _ history = subst (λ (s : State). StandsFor s history) (sym c.self.view_is) so in
    (at.0, c.in-Err.ensures.stays history at.1)

pub returns-in-Err-clause-bounds : goal.returns-in-Err-clause-bounds
returns-in-Err-clause-bounds c = c.take_in.ensures.bounds ∙ ap (λ (s : State). s.bounds) c.self.view_is

pub returns-in-Err-clause-fault : goal.returns-in-Err-clause-fault
returns-in-Err-clause-fault c = subst (λ (s : State). IsFaultOf s.last c.args.arrival.now.moment c.in-Err.fault) c.self.view_is c.in-Err.ensures.fault
