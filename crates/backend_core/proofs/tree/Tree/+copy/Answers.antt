use Rattle.std.proofs.Common.{rules, ◌≡◌, ◌∙◌, ap, sym, List}
use Rattle.backend_core.specs.Trees.{Plains, all, any}
use Rattle.backend_core.specs.View.{tree_view, plains_of}
use Rattle.backend_core.specs.declared.tree.Tree.{Tree}
use Rattle.backend_core.specs.declared.tree.Tree as trees
use Rattle.backend_core.specs.declared.tree.Tree.TheViews.{the_lemmas}
use Rattle.backend_core.proofs.Copies.{row_plains, copied}
use Rattle.backend_core.proofs.tree.Tree.+copy.Goals as goal

pub returns-after-loop-part-clause-ok : goal.returns-after-loop-part-clause-ok
returns-after-loop-part-clause-ok t c =
    let items = c.deref-part-items.result.now in
    let made : tree_view (trees.All c.loop-part.copies) ≡ all (plains_of c.loop-part.copies.items) = search (rules, the_lemmas, row_plains) in
    let is : tree_view c.args.self.now ≡ all (plains_of c.in-All.parts.items) = search (rules, the_lemmas, row_plains) in
    made
    ∙ (ap (λ (ts : Plains). all ts) (copied c.loop-part.copies.items items c.loop-part.part-index c.loop-part-test.false c.loop-part.invariant)
    ∙ (ap (λ (ts : List Tree). all (plains_of ts)) c.deref-part-items.ensures.value ∙ sym is))

pub returns-after-loop-part-2-clause-ok : goal.returns-after-loop-part-2-clause-ok
returns-after-loop-part-2-clause-ok t c =
    let items = c.deref-part-items-in-Any.result.now in
    let made : tree_view (trees.Any c.loop-part-2.copies) ≡ any (plains_of c.loop-part-2.copies.items) = search (rules, the_lemmas, row_plains) in
    let is : tree_view c.args.self.now ≡ any (plains_of c.in-Any.parts.items) = search (rules, the_lemmas, row_plains) in
    made
    ∙ (ap (λ (ts : Plains). any ts) (copied c.loop-part-2.copies.items items c.loop-part-2.part-index c.loop-part-2-test.false c.loop-part-2.invariant)
    ∙ (ap (λ (ts : List Tree). any (plains_of ts)) c.deref-part-items-in-Any.ensures.value ∙ sym is))
