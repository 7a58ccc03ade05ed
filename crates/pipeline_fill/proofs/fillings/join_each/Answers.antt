use Rattle.std.proofs.Common.{List, ◌≡◌, ◌++◌, map, subst}
use Rattle.sig_strings.specs.declared.part.Part.{Part}
use Rattle.pipeline_fill.proofs.Crossing.{crossed_turn}
use Rattle.pipeline_fill.proofs.fillings.join_each.Goals as goal

pub loop-front-preserved : goal.loop-front-preserved
loop-front-preserved c =
    crossed_turn c.args.more.now c.loop-front.all.items c.push_joined.new.all.items c.args.fronts.now _ c.loop-front.front-index c.front-item.result
    c.loop-front.invariant c.loop-front-test.true c.front-item.is
    (subst (λ (f : List Part). c.push_joined.new.all.items ≡ c.loop-front.all.items ++ map (λ rest. f ++ rest) c.args.more.now) c.as_slice.ensures c.in_ok-push_joined.ensures.ok)
