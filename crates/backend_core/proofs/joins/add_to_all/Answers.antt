use Rattle.std.proofs.Common.{refl}
use Rattle.backend_core.specs.Joins.{all_parts}
use Rattle.backend_core.proofs.Joining.{moved_all, pushed_any, pushed_not, pushed_leaf, pushed_never}
use Rattle.backend_core.proofs.joins.add_to_all.Goals as goal

pub returns-in_ok-append-in-All : goal.returns-in_ok-append-in-All
returns-in_ok-append-in-All c = moved_all c.args.parts.now.items c.append.new.self.items c.in-All.inner c.args.tree c.in-All.is c.in_ok-append-in-All.ensures.items

pub returns-in_ok-push-in-Any : goal.returns-in_ok-push-in-Any
returns-in_ok-push-in-Any c = pushed_any c.args.parts.now.items c.push.new.self.items c.in-Any.inner c.args.tree c.in-Any.is c.in_ok-push-in-Any.ensures.items

pub returns-in_ok-push-in-Not : goal.returns-in_ok-push-in-Not
returns-in_ok-push-in-Not c =
    pushed_not all_parts c.args.parts.now.items c.push-in-Not.new.self.items c.args.tree c.in-Not.inner (λ u. refl) c.in-Not.is c.in_ok-push-in-Not.ensures.items

pub returns-in_ok-push-in-Leaf : goal.returns-in_ok-push-in-Leaf
returns-in_ok-push-in-Leaf c =
    pushed_leaf all_parts c.args.parts.now.items c.push-in-Leaf.new.self.items c.args.tree c.in-Leaf.leaf refl c.in-Leaf.is c.in_ok-push-in-Leaf.ensures.items

pub returns-in_ok-push-in-Never : goal.returns-in_ok-push-in-Never
returns-in_ok-push-in-Never c = pushed_never all_parts c.args.parts.now.items c.push-in-Never.new.self.items c.args.tree refl c.in-Never.is c.in_ok-push-in-Never.ensures.items
