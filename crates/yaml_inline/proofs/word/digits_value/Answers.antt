use Rattle.std.proofs.Common.{◌≡◌, ◌+◌, ◌-◌, ◌*◌, false, drop, sym, ◌∙◌, arith}
use Rattle.std.proofs.lemmas.Grind.{common_steps}
use Rattle.yaml_inline.specs.File.{is_empty}
use Rattle.yaml_inline.proofs.Digits.{value_start, value_turn, value_past}
use Rattle.yaml_inline.proofs.word.digits_value.Goals as goal

pub returns-then-value-from-clause-value : goal.returns-then-value-from-clause-value
returns-then-value-from-clause-value c =
    let l = c.loop-c in
    let xs = c.args.chars.now in
    let some : is_empty xs ≡ false = grind (arith, common_steps) in
    let n = 10 * l.value + (c.c-item.result - 48) in
    sym (value_start c.args.most xs some
    ∙ (sym l.invariant.1
    ∙ (value_turn l.value c.args.most xs l.c-index c.c-item.result (omega arith) c.c-item.is (sym c.is_digit_char.ensures ∙ c.if-not-is_digit_char.false)
    ∙ value_past n c.args.most (drop (l.c-index + 1) xs) (omega arith))))
