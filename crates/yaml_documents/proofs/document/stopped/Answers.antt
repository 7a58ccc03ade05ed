use Rattle.std.proofs.Common.{◌<◌, ◌-◌, length, get_or, arith}
use Rattle.std.proofs.lemmas.Result.{IfOk-weaker}
use Rattle.yaml_inline.specs.View.{halt_view}
use Rattle.yaml_blocks.specs.Views.{lines_view}
use Rattle.yaml_documents.specs.Given.{HasNumber}
use Rattle.yaml_documents.proofs.Splits.{is_at, there_is}
use Rattle.yaml_documents.proofs.Giving.{so_stopped}
use Rattle.yaml_documents.proofs.document.stopped.Goals as goal

pub overflow_sub-at : goal.overflow_sub-at
overflow_sub-at c =
    let there : HasNumber (lines_view c.args.lines.now) c.in-Some.number = there_is (halt_view c.args.halt.now) _ _ c.requires.there c.in-Some.ensures in
    (is_at c.args.lines.now c.index-lines-0.result c.in-Some.number c.requires.numbered there).first

pub bounds-lines-at : goal.bounds-lines-at
bounds-lines-at c =
    let there : HasNumber (lines_view c.args.lines.now) c.in-Some.number = there_is (halt_view c.args.halt.now) _ _ c.requires.there c.in-Some.ensures in
    (is_at c.args.lines.now c.index-lines-0.result c.in-Some.number c.requires.numbered there).within

pub lines_behind-requires : goal.lines_behind-requires
lines_behind-requires c =
    let there : HasNumber (lines_view c.args.lines.now) c.in-Some.number = there_is (halt_view c.args.halt.now) _ _ c.requires.there c.in-Some.ensures in
    let h : c.in-Some.number - (get_or c.args.lines.now 0 c.index-lines-0.result).number < length c.args.lines.now =
    (is_at c.args.lines.now c.index-lines-0.result c.in-Some.number c.requires.numbered there).within in
    omega (arith, h)

pub returns-in-Some-clause-refused : goal.returns-in-Some-clause-refused
returns-in-Some-clause-refused c =
    IfOk-weaker c.refused_so.result _ _
    (λ d h. so_stopped (halt_view c.args.halt.now) c.args.lines.now _ c.index-lines-0.result c.index-lines-at.result c.in-Some.number d c.requires.numbered c.in-Some.ensures c.index-lines-at.is c.lines_behind.ensures h)
    c.refused_so.ensures.refused
