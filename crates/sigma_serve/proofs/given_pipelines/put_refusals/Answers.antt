use Rattle.std.proofs.Common.{◌≡◌, refl}
use Rattle.answer_writer.proofs.Rows.{writes_none, writes_next, writes_stops}
use Rattle.answer_writer.specs.Parts.{Share}
use Rattle.sig_base.specs.declared.refusal.Refusal.{Refusal}
use Rattle.sigma_serve.specs.Reports.{refusal_share}
use Rattle.sigma_serve.proofs.given_pipelines.put_refusals.Goals as goal

pub loop-cause-init : goal.loop-cause-init
loop-cause-init g c = writes_none (λ (r : Refusal) (share : Share). share ≡ refusal_share c.args.name.now r) (g.W.Outside.state c.args.outside.now)

pub loop-cause-preserved : goal.loop-cause-preserved
loop-cause-preserved g c =
    writes_next (λ (r : Refusal) (share : Share). share ≡ refusal_share c.args.name.now r) c.args.causes.now c.loop-cause.cause-index c.cause-item.result c.loop-cause.found c.in-Ok.refused c.either-found.result
    (g.W.Outside.state c.args.outside.now) (g.W.Outside.state c.loop-cause.outside) (g.W.Outside.state c.put_refusal.new.outside)
    c.loop-cause-test.true c.cause-item.is c.either-found.ensures c.loop-cause.invariant c.in-Ok.ensures

pub returns-in-Err : goal.returns-in-Err
returns-in-Err g c =
    writes_stops (λ (r : Refusal) (share : Share). share ≡ refusal_share c.args.name.now r) (λ r. (refusal_share c.args.name.now r, refl)) c.args.causes.now c.loop-cause.cause-index c.cause-item.result
    c.loop-cause.found c.in-Err.stop (g.W.Outside.state c.args.outside.now) (g.W.Outside.state c.loop-cause.outside) (g.W.Outside.state c.put_refusal.new.outside)
    c.loop-cause-test.true c.cause-item.is c.loop-cause.invariant c.in-Err.ensures
