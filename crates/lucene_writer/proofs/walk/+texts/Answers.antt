use Rattle.std.proofs.Common.{◌≡◌, ◌∙◌, ◌++◌, ap, sym, subst, List, ℕ, Bool, not, false}
use Rattle.std.specs.Prelude.{codes, OnOk}
use Rattle.lucene_writer.specs.declared.place.Standing.TheVariants.{InAnd, Alone}
use Rattle.lucene_writer.specs.Pieces.{piece_if, enclosed_if, items_text, all_text, any_text, all_denied}
use Rattle.lucene_writer.proofs.Rows.{text_end, enclosed_text, enclosed_both, text_of_all, text_of_any}
use Rattle.lucene_writer.proofs.walk.+texts.Goals as goal

pub put_all-returns-clause-ok : goal.put_all-returns-clause-ok
put_all-returns-clause-ok t c =
    let items = c.args.parts.now in
    let fields = c.args.fields.now in
    let so = not c.is_whole-enclosed.result in
    let text = items_text fields InAnd (codes " AND ") false items in
    let whole : all_text fields c.args.at items ≡ enclosed_if so (piece_if c.all_denied-denied.result (codes "*:* AND ") ++ text)
    = ap (λ (b : Bool). enclosed_if (not b) (piece_if (all_denied items) (codes "*:* AND ") ++ text)) (sym c.is_whole-enclosed.ensures)
    ∙ ap (λ (b : Bool). enclosed_if so (piece_if b (codes "*:* AND ") ++ text)) (sym c.all_denied-denied.ensures) in
    enclosed_both c.args.out.now c.put_if.new.out c.put_if-2.new.out c.loop-part.out c.put_if-3.new.out
    (piece_if c.all_denied-denied.result (codes "*:* AND ")) text (all_text fields c.args.at items) so
    c.in_ok-put_if.ensures.ok
    c.in_ok-put_if-2.ensures.ok
    (text_end fields InAnd (codes " AND ") c.loop-part.behind items c.loop-part.part-index c.loop-part.out (c.put_if-2.new.out ++ text)
    c.loop-part-test.false c.loop-part.invariant)
    c.in_ok-put_if-4.ensures.ok
    whole

pub put_any-returns-clause-ok : goal.put_any-returns-clause-ok
put_any-returns-clause-ok t c =
    let items = c.args.parts.now in
    let fields = c.args.fields.now in
    let so = not c.is_whole-enclosed.result in
    let text = items_text fields Alone (codes " OR ") false items in
    enclosed_text c.args.out.now c.put_if.new.out c.loop-part.out c.put_if-2.new.out text (any_text fields c.args.at items) so
    c.in_ok-put_if.ensures.ok
    (text_end fields Alone (codes " OR ") c.loop-part.behind items c.loop-part.part-index c.loop-part.out (c.put_if.new.out ++ text)
    c.loop-part-test.false c.loop-part.invariant)
    c.in_ok-put_if-3.ensures.ok
    (ap (λ (b : Bool). enclosed_if (not b) text) (sym c.is_whole-enclosed.ensures))

pub put_tree-returns-in-All-clause-ok : goal.put_tree-returns-in-All-clause-ok
put_tree-returns-in-All-clause-ok t c =
    subst (λ (text : List ℕ). OnOk c.put_all.result (c.put_all.new.out ≡ c.args.out.now ++ text))
    (text_of_all c.args.fields.now c.args.at c.in-All.parts c.args.tree.now c.as_slice.result.now c.in-All.is c.as_slice.ensures.value)
    c.put_all.ensures.ok

pub put_tree-returns-in-Any-clause-ok : goal.put_tree-returns-in-Any-clause-ok
put_tree-returns-in-Any-clause-ok t c =
    subst (λ (text : List ℕ). OnOk c.put_any.result (c.put_any.new.out ≡ c.args.out.now ++ text))
    (text_of_any c.args.fields.now c.args.at c.in-Any.parts c.args.tree.now c.as_slice-in-Any.result.now c.in-Any.is c.as_slice-in-Any.ensures.value)
    c.put_any.ensures.ok
