use Rattle.std.proofs.Common.{Ok, sym, ap, ◌∙◌}
use Rattle.yaml_inline.specs.View.{line_view}
use Rattle.yaml_blocks.specs.Blocks.{continuation, more_plain, nothing_in}
use Rattle.yaml_blocks.specs.Continuations.{continuation_view, text_given, behind_text}
use Rattle.yaml_blocks.specs.Views.{lines_view}
use Rattle.yaml_inline.proofs.Failing.{fails_more, gives_err}
use Rattle.yaml_blocks.proofs.Turns.{plain_stop, comment_err, last_err}
use Rattle.yaml_blocks.proofs.plain.more_plain.Goals as goal

pub returns-in_err-continuation_line : goal.returns-in_err-continuation_line
returns-in_err-continuation_line c =
    let l = c.loop-at in
    let x = c.index-lines-at.result in
    let e = c.in_err-continuation_line.field-0.0 in
    let whole = behind_text c.args.first (more_plain c.args.least 0 (lines_view c.args.lines.now)) in
    gives_err text_given c.from_residual.result whole e _ c.from_residual.ensures.1 (λ y p. p)
    (fails_more e (continuation c.args.least (line_view x)) whole c.in_err-continuation_line.ensures
    (λ s p. sym l.invariant.far ∙ plain_stop c.args.least l.empty l.at l.content c.args.lines.now x s c.loop-at-test.true c.index-lines-at.is p))

pub returns-in_err-nothing_in-in-Comment : goal.returns-in_err-nothing_in-in-Comment
returns-in_err-nothing_in-in-Comment c =
    let l = c.loop-at in
    let x = c.index-lines-at.result in
    let e = c.in_err-nothing_in-in-Comment.field-0.0 in
    let whole = behind_text c.args.first (more_plain c.args.least 0 (lines_view c.args.lines.now)) in
    let found = c.in_ok-continuation_line.ensures ∙ ap (λ f. Ok (continuation_view f)) c.in-Comment.is in
    gives_err text_given c.from_residual-in_err-nothing_in-in-Comment.result whole e _ c.from_residual-in_err-nothing_in-in-Comment.ensures.1 (λ y p. p)
    (fails_more e (nothing_in (lines_view c.lines_behind.result.now)) whole c.in_err-nothing_in-in-Comment.ensures
    (λ s p. sym l.invariant.far ∙ comment_err c.args.least l.empty l.at l.content c.args.lines.now x s c.loop-at-test.true c.index-lines-at.is found (ap (λ ys. nothing_in (lines_view ys)) (sym c.lines_behind.ensures) ∙ p)))

pub returns-in_err-nothing_in-in-Last : goal.returns-in_err-nothing_in-in-Last
returns-in_err-nothing_in-in-Last c =
    let l = c.loop-at in
    let x = c.index-lines-at.result in
    let e = c.in_err-nothing_in-in-Last.field-0.0 in
    let whole = behind_text c.args.first (more_plain c.args.least 0 (lines_view c.args.lines.now)) in
    let found = c.in_ok-continuation_line.ensures ∙ ap (λ f. Ok (continuation_view f)) c.in-Last.is in
    gives_err text_given c.from_residual-in_err-nothing_in-in-Last.result whole e _ c.from_residual-in_err-nothing_in-in-Last.ensures.1 (λ y p. p)
    (fails_more e (nothing_in (lines_view c.lines_behind-in-Last.result.now)) whole c.in_err-nothing_in-in-Last.ensures
    (λ s p. sym l.invariant.far ∙ last_err c.args.least l.empty l.at l.content c.in-Last.text.now c.args.lines.now x s c.loop-at-test.true c.index-lines-at.is found (ap (λ ys. nothing_in (lines_view ys)) (sym c.lines_behind-in-Last.ensures) ∙ p)))
