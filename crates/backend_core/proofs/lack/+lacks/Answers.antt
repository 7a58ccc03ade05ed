use Rattle.std.proofs.Common.{rules, ◌≡◌, sym, subst, List}
use Rattle.sig_base.specs.Judged.{Judged}
use Rattle.backend_core.specs.Lacks.{lack_refusal, lacks_refusal}
use Rattle.backend_core.specs.Trees.{Plain, all, any}
use Rattle.backend_core.specs.View.{tree_view, plains_of}
use Rattle.backend_core.specs.declared.tree.Tree.{Tree}
use Rattle.backend_core.specs.declared.tree.Tree.TheViews.{the_lemmas}
use Rattle.backend_core.proofs.Copies.{row_plains}
use Rattle.backend_core.proofs.lack.+lacks.Goals as goal

pub judge_lacks-returns-in-All : goal.judge_lacks-returns-in-All
judge_lacks-returns-in-All g t c =
    let lacks = g.B.Lacking.missing c.args.schema.now in
    let is : tree_view c.args.tree.now ≡ all (plains_of c.in-All.parts.items) = search (rules, the_lemmas, row_plains) in
    subst (λ (t : Plain). Judged (λ done. Unit {0}) (lack_refusal lacks t) c.judge_parts.result) (sym is)
    (subst (λ (ts : List Tree). Judged (λ done. Unit {0}) (lacks_refusal lacks (plains_of ts)) c.judge_parts.result) c.as_slice.ensures.value c.judge_parts.ensures)

pub judge_lacks-returns-in-Any : goal.judge_lacks-returns-in-Any
judge_lacks-returns-in-Any g t c =
    let lacks = g.B.Lacking.missing c.args.schema.now in
    let is : tree_view c.args.tree.now ≡ any (plains_of c.in-Any.parts.items) = search (rules, the_lemmas, row_plains) in
    subst (λ (t : Plain). Judged (λ done. Unit {0}) (lack_refusal lacks t) c.judge_parts-in-Any.result) (sym is)
    (subst (λ (ts : List Tree). Judged (λ done. Unit {0}) (lacks_refusal lacks (plains_of ts)) c.judge_parts-in-Any.result) c.as_slice-in-Any.ensures.value c.judge_parts-in-Any.ensures)
