use Rattle.std.proofs.Common.{ℕ, ◌≡◌, ◌+◌, ◌*◌, ◌∙◌, ◌++◌, ap, sym, subst, arith, List, false}
use Rattle.std.specs.Prelude.{OnOk}
use Rattle.backend_core.specs.View.{tree_view}
use Rattle.sqlite_writer.specs.Pieces.{standing_in, word_of, row_text, two_texts, halved_text, items_text}
use Rattle.sqlite_writer.proofs.Rows.{nodes, items_nodes, fewer_first, fewer_second, nodes_at, less-All, less-Any, cut_in_two, few_in_a_row}
use Rattle.sqlite_writer.proofs.TextRows.{text_at, row_ends, text_of_all, text_of_any, two_put}
use Rattle.sqlite_writer.proofs.walk.+texts.Goals as goal

pub put_parts-put_parts-requires : goal.put_parts-put_parts-requires
put_parts-put_parts-requires t c =
    let less = fewer_first c.args.parts.now c.split_at.result.0.now c.if-parts-gt-MOST_IN_A_ROW.true c.split_at.ensures.front in
    let is : 1 + 3 * items_nodes c.args.parts.now ≡ t = c.decreases in
    (omega (arith, less, is), tt)

pub put_parts-put_parts-requires-then-parts-gt-MOST_IN_A_ROW : goal.put_parts-put_parts-requires-then-parts-gt-MOST_IN_A_ROW
put_parts-put_parts-requires-then-parts-gt-MOST_IN_A_ROW t c =
    let less = fewer_second c.args.parts.now c.split_at.result.1.now c.if-parts-gt-MOST_IN_A_ROW.true c.split_at.ensures.back in
    let is : 1 + 3 * items_nodes c.args.parts.now ≡ t = c.decreases in
    (omega (arith, less, is), tt)

pub put_parts-returns-then-parts-gt-MOST_IN_A_ROW-clause-ok : goal.put_parts-returns-then-parts-gt-MOST_IN_A_ROW-clause-ok
put_parts-returns-then-parts-gt-MOST_IN_A_ROW-clause-ok t c =
    let kind = c.args.kind in
    let at = standing_in kind in
    let fields = c.args.fields.now in
    let first = halved_text kind (items_text fields at c.split_at.result.0.now) in
    let second = halved_text kind (items_text fields at c.split_at.result.1.now) in
    two_put c.args.out.now c.put_parts.new.out c.put_word_if.new.out c.put.new.out c.put_parts-then-parts-gt-MOST_IN_A_ROW.new.out
    c.put-then-parts-gt-MOST_IN_A_ROW.new.out (word_of kind) first second
    c.in_ok-put_parts.ensures.ok c.in_ok-put_word_if.ensures.ok c.in_ok-put.ensures.ok c.in_ok-put_parts-2.ensures.ok c.in_ok-put-2.ensures.ok
    ∙ ap (λ (text : List ℕ). c.args.out.now ++ text)
    (cut_in_two (text_at fields at) (row_text (word_of kind) false) (two_texts (word_of kind)) c.args.parts.now c.split_at.result.0.now c.split_at.result.1.now
    c.if-parts-gt-MOST_IN_A_ROW.true c.split_at.ensures.front c.split_at.ensures.back)

pub put_parts-put_tree-requires : goal.put_parts-put_tree-requires
put_parts-put_tree-requires t c =
    let less = nodes_at c.args.parts.now c.loop-part.part-index c.part-item.result c.loop-part-test.true c.part-item.is in
    let is : 1 + 3 * items_nodes c.args.parts.now ≡ t = c.decreases in
    (omega (arith, less, is), tt)

pub put_parts-returns-clause-ok : goal.put_parts-returns-clause-ok
put_parts-returns-clause-ok t c =
    let kind = c.args.kind in
    let fields = c.args.fields.now in
    let at = c.standing_in-at.result in
    let row : c.loop-part.out ≡ c.args.out.now ++ row_text (word_of kind) false (items_text fields at c.args.parts.now)
    = row_ends fields at (word_of kind) c.loop-part.behind c.args.parts.now c.loop-part.part-index c.loop-part.out _ c.loop-part-test.false c.loop-part.invariant in
    row
    ∙ (ap (λ s. c.args.out.now ++ row_text (word_of kind) false (items_text fields s c.args.parts.now)) c.standing_in-at.ensures
    ∙ ap (λ (text : List ℕ). c.args.out.now ++ text)
    (sym (few_in_a_row (text_at fields (standing_in kind)) (row_text (word_of kind) false) (two_texts (word_of kind)) c.args.parts.now c.if-parts-gt-MOST_IN_A_ROW.false)))

pub put_tree-put_list-requires : goal.put_tree-put_list-requires
put_tree-put_list-requires t c =
    let less = less-All c.in-All.parts c.args.tree.now c.as_slice.result.now c.in-All.is c.as_slice.ensures.value in
    let is : 3 * nodes (tree_view c.args.tree.now) ≡ t = c.decreases in
    (omega (arith, less, is), tt)

pub put_tree-put_list-requires-in-Any : goal.put_tree-put_list-requires-in-Any
put_tree-put_list-requires-in-Any t c =
    let less = less-Any c.in-Any.parts c.args.tree.now c.as_slice-in-Any.result.now c.in-Any.is c.as_slice-in-Any.ensures.value in
    let is : 3 * nodes (tree_view c.args.tree.now) ≡ t = c.decreases in
    (omega (arith, less, is), tt)

pub put_tree-returns-in-All-clause-ok : goal.put_tree-returns-in-All-clause-ok
put_tree-returns-in-All-clause-ok t c =
    subst (λ (text : List ℕ). OnOk c.put_list.result (c.put_list.new.out ≡ c.args.out.now ++ text))
    (text_of_all c.args.fields.now c.args.at c.in-All.parts c.args.tree.now c.as_slice.result.now c.in-All.is c.as_slice.ensures.value)
    c.put_list.ensures.ok

pub put_tree-returns-in-Any-clause-ok : goal.put_tree-returns-in-Any-clause-ok
put_tree-returns-in-Any-clause-ok t c =
    subst (λ (text : List ℕ). OnOk c.put_list-in-Any.result (c.put_list-in-Any.new.out ≡ c.args.out.now ++ text))
    (text_of_any c.args.fields.now c.args.at c.in-Any.parts c.args.tree.now c.as_slice-in-Any.result.now c.in-Any.is c.as_slice-in-Any.ensures.value)
    c.put_list-in-Any.ensures.ok
