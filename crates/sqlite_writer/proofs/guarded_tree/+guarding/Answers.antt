use Rattle.std.proofs.Common.{◌≡◌, ◌∙◌, ap, sym, List}
use Rattle.backend_core.specs.Trees.{Plains, all, any}
use Rattle.backend_core.specs.View.{tree_view, plains_of}
use Rattle.backend_core.specs.declared.tree.Tree.{Tree}
use Rattle.sqlite_writer.specs.declared.place.Kind.TheVariants.{All, Any}
use Rattle.sqlite_writer.specs.Joined.{guarded, guarded_parts}
use Rattle.backend_core.proofs.Joining.{view-All, view-Any}
use Rattle.sqlite_writer.proofs.Guards.{joins_all, joins_more}
use Rattle.sqlite_writer.proofs.guarded_tree.+guarding.Goals as goal

pub guarded-returns-in_ok-joined-in-All-clause-ok : goal.guarded-returns-in_ok-joined-in-All-clause-ok
guarded-returns-in_ok-joined-in-All-clause-ok t c =
    let is : tree_view c.args.tree.now ≡ all (plains_of c.in-All.parts.items) = ap tree_view c.in-All.is ∙ view-All c.in-All.parts in
    view-All c.in_ok-joined-in-All.joined
    ∙ (ap (λ (ts : Plains). all ts) c.in_ok-joined-in-All.ensures.ok
    ∙ (ap (λ (ts : List Tree). all (guarded_parts All c.args.odd (plains_of ts))) c.as_slice.ensures.value
    ∙ sym (ap (guarded c.args.odd) is)))

pub guarded-returns-in_ok-joined-in-Any-clause-ok : goal.guarded-returns-in_ok-joined-in-Any-clause-ok
guarded-returns-in_ok-joined-in-Any-clause-ok t c =
    let is : tree_view c.args.tree.now ≡ any (plains_of c.in-Any.parts.items) = ap tree_view c.in-Any.is ∙ view-Any c.in-Any.parts in
    view-Any c.in_ok-joined-in-Any.joined
    ∙ (ap (λ (ts : Plains). any ts) c.in_ok-joined-in-Any.ensures.ok
    ∙ (ap (λ (ts : List Tree). any (guarded_parts Any c.args.odd (plains_of ts))) c.as_slice-in-Any.ensures.value
    ∙ sym (ap (guarded c.args.odd) is)))

pub guarded_parts-returns-clause-ok : goal.guarded_parts-returns-clause-ok
guarded_parts-returns-clause-ok t c =
    joins_all c.args.kind c.args.odd c.args.parts.now c.loop-part.part-index c.loop-part.joined.items _ c.loop-part-test.false c.loop-part.invariant

pub guarded_parts-loop-part-preserved : goal.guarded_parts-loop-part-preserved
guarded_parts-loop-part-preserved t c =
    joins_more c.args.kind c.args.odd c.args.parts.now c.loop-part.part-index c.part-item.result c.in_ok-part.part c.loop-part.joined.items c.add_part.new.parts.items _
    c.loop-part-test.true c.part-item.is c.in_ok-part.ensures.ok c.in_ok-add_part.ensures c.loop-part.invariant
