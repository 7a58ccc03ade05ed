use Rattle.std.proofs.Common.{refl}
use Rattle.backend_core.specs.Joins.{any_parts}
use Rattle.backend_core.proofs.Joining.{moved_any, pushed_all, pushed_not, pushed_leaf, pushed_never}
use Rattle.backend_core.proofs.joins.add_to_any.Goals as goal

pub returns-in_ok-append-in-Any : goal.returns-in_ok-append-in-Any
returns-in_ok-append-in-Any c = moved_any c.args.parts.now.items c.append.new.self.items c.in-Any.inner c.args.tree c.in-Any.is c.in_ok-append-in-Any.ensures.items

pub returns-in_ok-push-in-All : goal.returns-in_ok-push-in-All
returns-in_ok-push-in-All c = pushed_all c.args.parts.now.items c.push.new.self.items c.in-All.inner c.args.tree c.in-All.is c.in_ok-push-in-All.ensures.items

pub returns-in_ok-push-in-Not : goal.returns-in_ok-push-in-Not
returns-in_ok-push-in-Not c =
    pushed_not any_parts c.args.parts.now.items c.push-in-Not.new.self.items c.args.tree c.in-Not.inner (λ u. refl) c.in-Not.is c.in_ok-push-in-Not.ensures.items

pub returns-in_ok-push-in-Leaf : goal.returns-in_ok-push-in-Leaf
returns-in_ok-push-in-Leaf c =
    pushed_leaf any_parts c.args.parts.now.items c.push-in-Leaf.new.self.items c.args.tree c.in-Leaf.leaf refl c.in-Leaf.is c.in_ok-push-in-Leaf.ensures.items

pub returns-in_ok-push-in-Never : goal.returns-in_ok-push-in-Never
returns-in_ok-push-in-Never c = pushed_never any_parts c.args.parts.now.items c.push-in-Never.new.self.items c.args.tree refl c.in-Never.is c.in_ok-push-in-Never.ensures.items
