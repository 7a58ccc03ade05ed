use Rattle.std.proofs.Common.{◌≡◌, List, ℕ, true, false, Ok, sym, ap, ◌∙◌, subst, arith}
use Rattle.std.proofs.lemmas.Grind.{common_steps}
use Rattle.yaml_inline.specs.File.{is_empty, ends_line}
use Rattle.yaml_inline.specs.Line.{plain_rest, syntax}
use Rattle.yaml_inline.specs.View.{line_view, Fails}
use Rattle.yaml_blocks.specs.Blocks.{plain_text, nothing_in}
use Rattle.yaml_blocks.specs.Continuations.{plain_view}
use Rattle.yaml_blocks.specs.Views.{lines_view}
use Rattle.yaml_inline.proofs.Failing.{fails_as, fails_more, gives_err}
use Rattle.yaml_blocks.proofs.Turns.{text_goes_on, text_stops, text_unended}
use Rattle.yaml_blocks.proofs.Whole.{whole_text}
use Rattle.yaml_blocks.proofs.plain.plain_text.Goals as goal

pub returns-then-not-ends_line : goal.returns-then-not-ends_line
returns-then-not-ends_line c =
    let l = line_view c.args.line.now in
    let cs = c.args.rest.now in
    let ls = lines_view c.args.lines.now in
    let open_end : ends_line (plain_rest false cs) ≡ false = grind (arith, common_steps) in
    fails_as c.no_reading.result (syntax l) (plain_text c.args.least l cs ls) c.no_reading.ensures (text_unended c.args.least l cs ls open_end)

pub returns-in_err-nothing_in : goal.returns-in_err-nothing_in
returns-in_err-nothing_in c =
    let l = line_view c.args.line.now in
    let cs = c.args.rest.now in
    let ls = lines_view c.args.lines.now in
    let e = c.in_err-nothing_in.field-0.0 in
    let more : is_empty (plain_rest false cs) ≡ false = grind (arith, common_steps) in
    let ends : ends_line (plain_rest false cs) ≡ true = grind (arith, common_steps) in
    gives_err plain_view c.from_residual.result (plain_text c.args.least l cs ls) e _ c.from_residual.ensures.1 (λ y p. p)
    (fails_more e (nothing_in ls) (plain_text c.args.least l cs ls) c.in_err-nothing_in.ensures (λ s p. text_stops c.args.least l cs ls s more ends p))

pub returns-then-not-is_empty : goal.returns-then-not-is_empty
returns-then-not-is_empty c =
    let l = line_view c.args.line.now in
    let cs = c.args.rest.now in
    let ls = lines_view c.args.lines.now in
    let ends : ends_line (plain_rest false cs) ≡ true = grind (arith, common_steps) in
    whole_text c.args.least l cs ls _ ends c.in_ok-nothing_in.ensures ∙ ap (λ (t : List ℕ). Ok t) (sym c.plain_parts.ensures.front)

pub returns-in-Some : goal.returns-in-Some
returns-in-Some c =
    let l = line_view c.args.line.now in
    let cs = c.args.rest.now in
    let ls = lines_view c.args.lines.now in
    let ends : ends_line (plain_rest false cs) ≡ true = grind (arith, common_steps) in
    whole_text c.args.least l cs ls _ ends c.in-Some.ensures.1 ∙ ap (λ (t : List ℕ). Ok t) (sym (c.in-Some.ensures.0 ∙ c.plain_parts.ensures.front))

pub returns-in-Ok : goal.returns-in-Ok
returns-in-Ok c =
    let l = line_view c.args.line.now in
    let cs = c.args.rest.now in
    let ls = lines_view c.args.lines.now in
    let over : is_empty (plain_rest false cs) ≡ true = grind (arith, common_steps) in
    text_goes_on c.args.least l cs c.in_ok-first.first ls over (c.in_ok-first.ensures ∙ c.plain_parts.ensures.front) ∙ c.in-Ok.ensures

pub returns-in-Err : goal.returns-in-Err
returns-in-Err c =
    let l = line_view c.args.line.now in
    let cs = c.args.rest.now in
    let ls = lines_view c.args.lines.now in
    let over : is_empty (plain_rest false cs) ≡ true = grind (arith, common_steps) in
    subst (λ r. Fails c.in-Err.halt r) (sym (text_goes_on c.args.least l cs c.in_ok-first.first ls over (c.in_ok-first.ensures ∙ c.plain_parts.ensures.front))) c.in-Err.ensures
