use Rattle.std.proofs.Common.{ℕ, ◌∙◌, ap, Option}
use Rattle.backend_core.specs.Trees.{Plains, all, leaf, a_part}
use Rattle.sqlite_writer.specs.Joined.{guard_of, behind_other}
use Rattle.backend_core.proofs.Joining.{view-All}
use Rattle.sqlite_writer.proofs.Guards.{two_leaves, three_leaves}
use Rattle.sqlite_writer.proofs.guarded_tree.behind_guards.Goals as goal

pub returns-in_ok-push-in-None-clause-ok : goal.returns-in_ok-push-in-None-clause-ok
returns-in_ok-push-in-None-clause-ok c =
    let l = c.args.leaf.now in
    view-All c.push-in-None.new.self
    ∙ (ap (λ (ts : Plains). all ts)
    (two_leaves c.in_ok-parts.parts.items c.push.new.self.items c.push-in-None.new.self.items (guard_of l.field l) c.guard_of.result l c.in_ok-copy.copy
    c.in_ok-parts.ensures.items c.in_ok-push.ensures.items c.in_ok-push-in-None.ensures.items c.guard_of.ensures c.in_ok-copy.ensures.ok)
    ∙ ap (λ (o : Option ℕ). all (a_part (leaf (guard_of l.field l)) (behind_other o l))) c.in-None.ensures)

pub returns-in_ok-push-in-Some-2-clause-ok : goal.returns-in_ok-push-in-Some-2-clause-ok
returns-in_ok-push-in-Some-2-clause-ok c =
    let l = c.args.leaf.now in
    view-All c.push-in-Some-2.new.self
    ∙ (ap (λ (ts : Plains). all ts)
    (three_leaves c.in_ok-parts.parts.items c.push.new.self.items c.push-in-Some.new.self.items c.push-in-Some-2.new.self.items (guard_of l.field l) (guard_of c.in-Some.other l)
    c.guard_of.result c.guard_of-in-Some.result l c.in_ok-copy.copy
    c.in_ok-parts.ensures.items c.in_ok-push.ensures.items c.in_ok-push-in-Some.ensures.items c.in_ok-push-in-Some-2.ensures.items c.guard_of.ensures c.guard_of-in-Some.ensures c.in_ok-copy.ensures.ok)
    ∙ ap (λ (o : Option ℕ). all (a_part (leaf (guard_of l.field l)) (behind_other o l))) c.in-Some.ensures)
