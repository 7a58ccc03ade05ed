use Rattle.std.proofs.Common.{◌≡◌, ◌++◌, true, false, nat_lt, take, sym, ap, ◌∙◌, arith}
use Rattle.std.proofs.lemmas.Bool.Decides.{nat_tests}
use Rattle.std.specs.Prelude.{map}
use Rattle.yaml_inline.specs.Line.{indent}
use Rattle.yaml_inline.specs.View.{line_view}
use Rattle.yaml_blocks.specs.Blocks.{content}
use Rattle.yaml_blocks.specs.Contents.{none_of_line}
use Rattle.yaml_blocks.specs.Chompings.{texts_view}
use Rattle.yaml_blocks.specs.Views.{lines_view}
use Rattle.yaml_blocks.proofs.Fronts.{view_empty, view_first, scalar_none, scalar_less, scalar_some}
use Rattle.yaml_blocks.proofs.content.scalar_lines.Goals as goal

pub returns-then-is_empty : goal.returns-then-is_empty
returns-then-is_empty c =
    let xs = c.args.lines.now in
    let n = c.count_empty-front.result in
    let k = c.count_empty-front.ensures in
    let e : texts_view c.push_empty.new.texts.items ≡ map none_of_line (lines_view (take n xs)) =
    c.in_ok-push_empty.ensures
    ∙ (ap (λ vs. texts_view vs ++ map none_of_line (lines_view c.split_at.result.0.now)) c.new-texts.ensures.items
    ∙ ap (λ ls. map none_of_line (lines_view ls)) c.split_at.ensures.front) in
    let none = ap lines_view (sym c.lines_behind-rest.ensures) ∙ view_empty c.lines_behind-rest.result.now (sym c.is_empty.ensures ∙ c.if-is_empty.true) in
    scalar_none c.args.least xs n (texts_view c.push_empty.new.texts.items) k.front k.rest k.within e none

pub returns-then-inner-least : goal.returns-then-inner-least
returns-then-inner-least c =
    let xs = c.args.lines.now in
    let n = c.count_empty-front.result in
    let k = c.count_empty-front.ensures in
    let x = c.index-rest-0.result in
    let e : texts_view c.push_empty.new.texts.items ≡ map none_of_line (lines_view (take n xs)) =
    c.in_ok-push_empty.ensures
    ∙ (ap (λ vs. texts_view vs ++ map none_of_line (lines_view c.split_at.result.0.now)) c.new-texts.ensures.items
    ∙ ap (λ ls. map none_of_line (lines_view ls)) c.split_at.ensures.front) in
    let shape = ap lines_view (sym c.lines_behind-rest.ensures) ∙ view_first c.lines_behind-rest.result.now x (sym c.is_empty.ensures ∙ c.if-is_empty.false) c.index-rest-0.is in
    let inner = c.indent-inner.ensures.indent in
    let less : nat_lt (indent (line_view x)) c.args.least ≡ true = grind (arith, nat_tests) in
    scalar_less c.args.least xs n (texts_view c.push_empty.new.texts.items) x _ k.front k.rest k.within e shape less

pub returns : goal.returns
returns c =
    let xs = c.args.lines.now in
    let ys = c.lines_behind-rest.result.now in
    let n = c.count_empty-front.result in
    let k = c.count_empty-front.ensures in
    let k2 = c.count_content-count.ensures in
    let x = c.index-rest-0.result in
    let first = texts_view c.push_empty.new.texts.items in
    let e : first ≡ map none_of_line (lines_view (take n xs)) =
    c.in_ok-push_empty.ensures
    ∙ (ap (λ vs. texts_view vs ++ map none_of_line (lines_view c.split_at.result.0.now)) c.new-texts.ensures.items
    ∙ ap (λ ls. map none_of_line (lines_view ls)) c.split_at.ensures.front) in
    let shape = ap lines_view (sym c.lines_behind-rest.ensures) ∙ view_first ys x (sym c.is_empty.ensures ∙ c.if-is_empty.false) c.index-rest-0.is in
    let inner = c.indent-inner.ensures.indent in
    let less : nat_lt (indent (line_view x)) c.args.least ≡ false = grind (arith, nat_tests) in
    let e2 = c.in_ok-push_contents.ensures ∙ ap (λ ls. first ++ map (content c.indent-inner.result) (lines_view ls)) c.split_at-2.ensures.front in
    scalar_some c.args.least xs ys n c.count_content-count.result c.indent-inner.result first _ x _ k.front k.rest k.within e c.lines_behind-rest.ensures shape inner less k2.front k2.rest k2.within e2
