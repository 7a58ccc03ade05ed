use Rattle.std.proofs.Common.{List, ℕ, ◌≡◌, ◌∙◌, ◌++◌, ap, subst}
use Rattle.backend_core.specs.View.{tree_view}
use Rattle.sqlite_writer.specs.declared.place.Standing.TheVariants.{InOr}
use Rattle.sqlite_writer.specs.Pieces.{head_text, tree_text}
use Rattle.sqlite_writer.proofs.Whole.{whole_is}
use Rattle.sqlite_writer.proofs.writer.query_of.Goals as goal

pub returns-clause-sound : goal.returns-clause-sound
returns-clause-sound c = λ t same sound.
    let schema = c.args.schema.now in
    let w = tree_view c.args.written.now in
    let head : c.put_head.new.out ≡ head_text schema.table = c.in_ok-put_head.ensures.ok ∙ ap (λ (cs : List ℕ). cs ++ head_text schema.table) c.in_ok-out.ensures in
    subst (λ fs. c.put_tree.new.out ≡ c.put_head.new.out ++ tree_text fs InOr w) c.as_slice.ensures c.in_ok-put_tree.ensures.ok
    ∙ (ap (λ (cs : List ℕ). cs ++ tree_text schema.fields InOr w) head ∙ whole_is schema w t same sound)

pub returns-clause-ok : goal.returns-clause-ok
returns-clause-ok c =
    let schema = c.args.schema.now in
    let w = tree_view c.args.written.now in
    let head : c.put_head.new.out ≡ head_text schema.table = c.in_ok-put_head.ensures.ok ∙ ap (λ (cs : List ℕ). cs ++ head_text schema.table) c.in_ok-out.ensures in
    subst (λ fs. c.put_tree.new.out ≡ c.put_head.new.out ++ tree_text fs InOr w) c.as_slice.ensures c.in_ok-put_tree.ensures.ok
    ∙ ap (λ (cs : List ℕ). cs ++ tree_text schema.fields InOr w) head
