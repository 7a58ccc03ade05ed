use Rattle.std.proofs.Common.{List, ℕ, ◌≡◌, ◌∙◌, ◌+◌, ◌++◌, ap, subst, arith}
use Rattle.std.specs.Prelude.{IfOk}
use Rattle.std.proofs.lemmas.Result.{IfOk-weaker}
use Rattle.backend_core.specs.View.{tree_view}
use Rattle.sqlite_writer.specs.declared.place.Standing.TheVariants.{InOr}
use Rattle.sqlite_writer.specs.Pieces.{head_text, tree_text, written_text}
use Rattle.sqlite_writer.specs.Queries.{query_text}
use Rattle.sqlite_writer.specs.Sizes.{bytes_in}
use Rattle.sqlite_writer.proofs.Whole.{two_sizes, whole_is}
use Rattle.sqlite_writer.proofs.writer.query_size.Goals as goal

pub returns-clause-ok : goal.returns-clause-ok
returns-clause-ok c =
    let schema = c.args.schema.now in
    let w = tree_view c.args.written.now in
    let head : c.put_head.new.out ≡ head_text schema.table = c.in_ok-put_head.ensures.ok ∙ ap (λ (cs : List ℕ). cs ++ head_text schema.table) c.new-head.ensures in
    let size : c.in_ok-size.size ≡ 0 + bytes_in (head_text schema.table) = c.in_ok-size.ensures.ok ∙ ap (λ (cs : List ℕ). 0 + bytes_in cs) (c.as_str.ensures.chars ∙ head) in
    let first : c.in_ok-size.size ≡ bytes_in (head_text schema.table) = omega (arith, size) in
    IfOk-weaker c.with_tree.result (λ n. n ≡ c.in_ok-size.size + bytes_in (tree_text schema.fields InOr w)) (λ n. n ≡ bytes_in (written_text schema w))
    (λ n is. two_sizes c.in_ok-size.size n (head_text schema.table) (tree_text schema.fields InOr w) first is)
    (subst (λ fs. IfOk c.with_tree.result (λ n. n ≡ c.in_ok-size.size + bytes_in (tree_text fs InOr w))) c.as_slice.ensures c.with_tree.ensures.ok)

pub returns-clause-sound : goal.returns-clause-sound
returns-clause-sound c = λ t same sound.
    let schema = c.args.schema.now in
    let w = tree_view c.args.written.now in
    let head : c.put_head.new.out ≡ head_text schema.table = c.in_ok-put_head.ensures.ok ∙ ap (λ (cs : List ℕ). cs ++ head_text schema.table) c.new-head.ensures in
    let size : c.in_ok-size.size ≡ 0 + bytes_in (head_text schema.table) = c.in_ok-size.ensures.ok ∙ ap (λ (cs : List ℕ). 0 + bytes_in cs) (c.as_str.ensures.chars ∙ head) in
    let first : c.in_ok-size.size ≡ bytes_in (head_text schema.table) = omega (arith, size) in
    IfOk-weaker c.with_tree.result (λ n. n ≡ c.in_ok-size.size + bytes_in (tree_text schema.fields InOr w)) (λ n. n ≡ bytes_in (query_text schema t))
    (λ n is. two_sizes c.in_ok-size.size n (head_text schema.table) (tree_text schema.fields InOr w) first is ∙ ap bytes_in (whole_is schema w t same sound))
    (subst (λ fs. IfOk c.with_tree.result (λ n. n ≡ c.in_ok-size.size + bytes_in (tree_text fs InOr w))) c.as_slice.ensures c.with_tree.ensures.ok)
