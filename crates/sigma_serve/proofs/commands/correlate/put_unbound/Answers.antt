use Rattle.std.proofs.Common.{◌≡◌, refl}
use Rattle.answer_writer.proofs.Rows.{writes_none, writes_next, writes_stops}
use Rattle.answer_writer.specs.Parts.{Share}
use Rattle.correlation_files.specs.declared.bindings.Unbound.{Unbound}
use Rattle.sigma_serve.specs.Reports.{refusal_share}
use Rattle.sigma_serve.proofs.commands.correlate.put_unbound.Goals as goal

abbrev tells_of : Unbound → Share → Type 0
tells_of u share = share ≡ refusal_share u.file u.refusal

pub loop-cause-init : goal.loop-cause-init
loop-cause-init g c = writes_none tells_of (g.W.Outside.state c.args.outside.now)

pub loop-cause-preserved : goal.loop-cause-preserved
loop-cause-preserved g c =
    writes_next tells_of c.args.causes.now c.loop-cause.cause-index c.cause-item.result c.loop-cause.found c.in-Ok.refused c.either-found.result
    (g.W.Outside.state c.args.outside.now) (g.W.Outside.state c.loop-cause.outside) (g.W.Outside.state c.put_refusal.new.outside)
    c.loop-cause-test.true c.cause-item.is c.either-found.ensures c.loop-cause.invariant c.in-Ok.ensures

pub returns-in-Err : goal.returns-in-Err
returns-in-Err g c =
    writes_stops tells_of (λ u. (refusal_share u.file u.refusal, refl)) c.args.causes.now c.loop-cause.cause-index c.cause-item.result
    c.loop-cause.found c.in-Err.stop (g.W.Outside.state c.args.outside.now) (g.W.Outside.state c.loop-cause.outside) (g.W.Outside.state c.put_refusal.new.outside)
    c.loop-cause-test.true c.cause-item.is c.loop-cause.invariant c.in-Err.ensures
