use Rattle.std.proofs.Common.{ℕ, ◌≡◌, ◌+◌, ◌*◌, ◌-◌, ◌^◌, ◌∙◌, ap, sym, arith}
use Rattle.backend_core.specs.View.{tree_view}
use Rattle.sqlite_writer.specs.Depths.{tree_depth, halved_depth, items_depth, two_depths, row_depth, one_more}
use Rattle.sqlite_writer.proofs.Rows.{nodes, items_nodes, fewer_first, fewer_second, nodes_at, less-All, less-Any, cut_in_two, few_in_a_row}
use Rattle.sqlite_writer.proofs.DepthRows.{depth_of_all, depth_of_any, row_ends}
use Rattle.sqlite_writer.proofs.deep.+depths.Goals as goal

pub parts_depth-parts_depth-first_depth-requires : goal.parts_depth-parts_depth-first_depth-requires
parts_depth-parts_depth-first_depth-requires t c =
    let less = fewer_first c.args.parts.now c.split_at.result.0.now c.if-parts-gt-MOST_IN_A_ROW.true c.split_at.ensures.front in
    let is : 1 + 2 * items_nodes c.args.parts.now ≡ t = c.decreases in
    (omega (arith, less, is), tt)

pub parts_depth-parts_depth-second_depth-requires : goal.parts_depth-parts_depth-second_depth-requires
parts_depth-parts_depth-second_depth-requires t c =
    let less = fewer_second c.args.parts.now c.split_at.result.1.now c.if-parts-gt-MOST_IN_A_ROW.true c.split_at.ensures.back in
    let is : 1 + 2 * items_nodes c.args.parts.now ≡ t = c.decreases in
    (omega (arith, less, is), tt)

pub parts_depth-returns-then-parts-gt-MOST_IN_A_ROW : goal.parts_depth-returns-then-parts-gt-MOST_IN_A_ROW
parts_depth-returns-then-parts-gt-MOST_IN_A_ROW t c =
    let most = 2 ^ 64 - 1 in
    let fields = c.args.fields.now in
    c.one_more.ensures
    ∙ (ap (one_more most) c.max.ensures
    ∙ (ap (λ (d : ℕ). two_depths most d c.parts_depth-second_depth.result) c.parts_depth-first_depth.ensures
    ∙ (ap (two_depths most (halved_depth most (items_depth most fields c.split_at.result.0.now))) c.parts_depth-second_depth.ensures
    ∙ cut_in_two (λ u. tree_depth most fields (tree_view u)) (row_depth most) (two_depths most) c.args.parts.now c.split_at.result.0.now c.split_at.result.1.now
    c.if-parts-gt-MOST_IN_A_ROW.true c.split_at.ensures.front c.split_at.ensures.back)))

pub parts_depth-tree_depth-part_depth-requires : goal.parts_depth-tree_depth-part_depth-requires
parts_depth-tree_depth-part_depth-requires t c =
    let less = nodes_at c.args.parts.now c.loop-part.part-index c.part-item.result c.loop-part-test.true c.part-item.is in
    let is : 1 + 2 * items_nodes c.args.parts.now ≡ t = c.decreases in
    (omega (arith, less, is), tt)

pub parts_depth-returns : goal.parts_depth-returns
parts_depth-returns t c =
    let most = 2 ^ 64 - 1 in
    let fields = c.args.fields.now in
    c.or_zero.ensures
    ∙ (row_ends most fields c.args.parts.now c.loop-part.part-index c.loop-part.depth c.loop-part-test.false c.loop-part.invariant
    ∙ sym (few_in_a_row (λ u. tree_depth most fields (tree_view u)) (row_depth most) (two_depths most) c.args.parts.now c.if-parts-gt-MOST_IN_A_ROW.false))

pub tree_depth-parts_depth-requires : goal.tree_depth-parts_depth-requires
tree_depth-parts_depth-requires t c =
    let less = less-All c.in-All.parts c.args.tree.now c.as_slice.result.now c.in-All.is c.as_slice.ensures.value in
    let is : 2 * nodes (tree_view c.args.tree.now) ≡ t = c.decreases in
    (omega (arith, less, is), tt)

pub tree_depth-parts_depth-requires-in-Any : goal.tree_depth-parts_depth-requires-in-Any
tree_depth-parts_depth-requires-in-Any t c =
    let less = less-Any c.in-Any.parts c.args.tree.now c.as_slice-in-Any.result.now c.in-Any.is c.as_slice-in-Any.ensures.value in
    let is : 2 * nodes (tree_view c.args.tree.now) ≡ t = c.decreases in
    (omega (arith, less, is), tt)

pub tree_depth-returns-in-All : goal.tree_depth-returns-in-All
tree_depth-returns-in-All t c =
    c.parts_depth.ensures ∙ depth_of_all (2 ^ 64 - 1) c.args.fields.now c.in-All.parts c.args.tree.now c.as_slice.result.now c.in-All.is c.as_slice.ensures.value

pub tree_depth-returns-in-Any : goal.tree_depth-returns-in-Any
tree_depth-returns-in-Any t c =
    c.parts_depth-in-Any.ensures ∙ depth_of_any (2 ^ 64 - 1) c.args.fields.now c.in-Any.parts c.args.tree.now c.as_slice-in-Any.result.now c.in-Any.is c.as_slice-in-Any.ensures.value
