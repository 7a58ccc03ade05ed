use Rattle.std.proofs.Common.{ℕ, ◌≡◌, ◌+◌, ◌*◌, ◌∙◌, ap, sym, subst, arith, List, Bool, false}
use Rattle.std.specs.Prelude.{codes, IfOk}
use Rattle.std.proofs.lemmas.Result.{IfOk-weaker}
use Rattle.backend_core.specs.View.{tree_view}
use Rattle.sqlite_writer.specs.Pieces.{standing_in, word_of, piece_if, enclosed_if, row_text, two_texts, halved_text, items_text}
use Rattle.sqlite_writer.specs.Sizes.{bytes_in}
use Rattle.sqlite_writer.proofs.Rows.{nodes, items_nodes, fewer_first, fewer_second, nodes_at, less-All, less-Any, cut_in_two, few_in_a_row}
use Rattle.sqlite_writer.proofs.TextRows.{text_at, text_of_all, text_of_any, two_sized, enclosed_sized, size_goes, size_ends}
use Rattle.sqlite_writer.proofs.sizes.+sizes.Goals as goal

pub with_list-returns-clause-ok : goal.with_list-returns-clause-ok
with_list-returns-clause-ok t c =
    let so = c.is_enclosed-enclosed.result in
    let text = halved_text c.args.kind (items_text c.args.fields.now (standing_in c.args.kind) c.args.parts.now) in
    subst (λ (b : Bool). IfOk c.with_piece_if-2.result (λ n. n ≡ c.args.size + bytes_in (enclosed_if b text))) c.is_enclosed-enclosed.ensures
    (IfOk-weaker c.with_piece_if-2.result (λ n. n ≡ c.in_ok-sum.sum + bytes_in (piece_if so (codes ")"))) (λ n. n ≡ c.args.size + bytes_in (enclosed_if so text))
    (λ n is. enclosed_sized c.args.size c.in_ok-opened.opened c.in_ok-sum.sum n text so c.in_ok-opened.ensures.ok c.in_ok-sum.ensures.ok is)
    c.with_piece_if-2.ensures.ok)

pub with_parts-with_parts-requires : goal.with_parts-with_parts-requires
with_parts-with_parts-requires t c =
    let less = fewer_first c.args.parts.now c.split_at.result.0.now c.if-parts-gt-MOST_IN_A_ROW.true c.split_at.ensures.front in
    let is : 1 + 3 * items_nodes c.args.parts.now ≡ t = c.decreases in
    (omega (arith, less, is), tt)

pub with_parts-with_parts-requires-then-parts-gt-MOST_IN_A_ROW : goal.with_parts-with_parts-requires-then-parts-gt-MOST_IN_A_ROW
with_parts-with_parts-requires-then-parts-gt-MOST_IN_A_ROW t c =
    let less = fewer_second c.args.parts.now c.split_at.result.1.now c.if-parts-gt-MOST_IN_A_ROW.true c.split_at.ensures.back in
    let is : 1 + 3 * items_nodes c.args.parts.now ≡ t = c.decreases in
    (omega (arith, less, is), tt)

pub with_parts-returns-then-parts-gt-MOST_IN_A_ROW-clause-ok : goal.with_parts-returns-then-parts-gt-MOST_IN_A_ROW-clause-ok
with_parts-returns-then-parts-gt-MOST_IN_A_ROW-clause-ok t c =
    let kind = c.args.kind in
    let at = standing_in kind in
    let fields = c.args.fields.now in
    let first = halved_text kind (items_text fields at c.split_at.result.0.now) in
    let second = halved_text kind (items_text fields at c.split_at.result.1.now) in
    let r = c.with_piece_if-then-parts-gt-MOST_IN_A_ROW.result in
    subst (λ (text : List ℕ). IfOk r (λ n. n ≡ c.args.size + bytes_in text))
    (cut_in_two (text_at fields at) (row_text (word_of kind) false) (two_texts (word_of kind)) c.args.parts.now c.split_at.result.0.now c.split_at.result.1.now
    c.if-parts-gt-MOST_IN_A_ROW.true c.split_at.ensures.front c.split_at.ensures.back)
    (IfOk-weaker r (λ n. n ≡ c.in_ok-two.two + bytes_in (codes ")")) (λ n. n ≡ c.args.size + bytes_in (two_texts (word_of kind) first second))
    (λ n is. two_sized c.args.size c.in_ok-one.one c.in_ok-word.word c.in_ok-opened.opened c.in_ok-two.two n (word_of kind) first second
    c.in_ok-one.ensures.ok c.in_ok-word.ensures.ok c.in_ok-opened.ensures.ok c.in_ok-two.ensures.ok is)
    c.with_piece_if-then-parts-gt-MOST_IN_A_ROW.ensures.ok)

pub with_parts-with_tree-requires : goal.with_parts-with_tree-requires
with_parts-with_tree-requires t c =
    let less = nodes_at c.args.parts.now c.loop-part.part-index c.part-item.result c.loop-part-test.true c.part-item.is in
    let is : 1 + 3 * items_nodes c.args.parts.now ≡ t = c.decreases in
    (omega (arith, less, is), tt)

pub with_parts-loop-part-preserved : goal.with_parts-loop-part-preserved
with_parts-loop-part-preserved t c =
    size_goes c.args.fields.now c.standing_in-at.result (word_of c.args.kind) c.loop-part.behind c.args.parts.now c.loop-part.part-index c.part-item.result
    c.loop-part.sum c.in_ok-sum.sum c.in_ok-sum-2.sum _ c.loop-part-test.true c.part-item.is c.in_ok-sum.ensures.ok c.in_ok-sum-2.ensures.ok c.loop-part.invariant

pub with_parts-returns-clause-ok : goal.with_parts-returns-clause-ok
with_parts-returns-clause-ok t c =
    let kind = c.args.kind in
    let fields = c.args.fields.now in
    let at = c.standing_in-at.result in
    let row : c.loop-part.sum ≡ c.args.size + bytes_in (row_text (word_of kind) false (items_text fields at c.args.parts.now))
    = size_ends fields at (word_of kind) c.loop-part.behind c.args.parts.now c.loop-part.part-index c.loop-part.sum _ c.loop-part-test.false c.loop-part.invariant in
    row
    ∙ (ap (λ s. c.args.size + bytes_in (row_text (word_of kind) false (items_text fields s c.args.parts.now))) c.standing_in-at.ensures
    ∙ ap (λ (text : List ℕ). c.args.size + bytes_in text)
    (sym (few_in_a_row (text_at fields (standing_in kind)) (row_text (word_of kind) false) (two_texts (word_of kind)) c.args.parts.now c.if-parts-gt-MOST_IN_A_ROW.false)))

pub with_tree-with_list-requires : goal.with_tree-with_list-requires
with_tree-with_list-requires t c =
    let less = less-All c.in-All.parts c.args.tree.now c.as_slice.result.now c.in-All.is c.as_slice.ensures.value in
    let is : 3 * nodes (tree_view c.args.tree.now) ≡ t = c.decreases in
    (omega (arith, less, is), tt)

pub with_tree-with_list-requires-in-Any : goal.with_tree-with_list-requires-in-Any
with_tree-with_list-requires-in-Any t c =
    let less = less-Any c.in-Any.parts c.args.tree.now c.as_slice-in-Any.result.now c.in-Any.is c.as_slice-in-Any.ensures.value in
    let is : 3 * nodes (tree_view c.args.tree.now) ≡ t = c.decreases in
    (omega (arith, less, is), tt)

pub with_tree-returns-in-All-clause-ok : goal.with_tree-returns-in-All-clause-ok
with_tree-returns-in-All-clause-ok t c =
    subst (λ (text : List ℕ). IfOk c.with_list.result (λ n. n ≡ c.args.size + bytes_in text))
    (text_of_all c.args.fields.now c.args.at c.in-All.parts c.args.tree.now c.as_slice.result.now c.in-All.is c.as_slice.ensures.value)
    c.with_list.ensures.ok

pub with_tree-returns-in-Any-clause-ok : goal.with_tree-returns-in-Any-clause-ok
with_tree-returns-in-Any-clause-ok t c =
    subst (λ (text : List ℕ). IfOk c.with_list-in-Any.result (λ n. n ≡ c.args.size + bytes_in text))
    (text_of_any c.args.fields.now c.args.at c.in-Any.parts c.args.tree.now c.as_slice-in-Any.result.now c.in-Any.is c.as_slice-in-Any.ensures.value)
    c.with_list-in-Any.ensures.ok
