use Rattle.std.proofs.Common.{◌≡◌, ◌+◌, ◌≤◌, length, drop, Some, arith}
use Rattle.std.proofs.lemmas.Grind.{common_steps}
use Rattle.yaml_inline.specs.Scalar.{escape}
use Rattle.yaml_inline.proofs.Quoting.{double_escape}
use Rattle.yaml_inline.proofs.quote.double.Goals as goal

pub loop-at-preserved-then-c-eq92 : goal.loop-at-preserved-then-c-eq92
loop-at-preserved-then-c-eq92 c =
    let l = c.loop-at in
    let xs = c.args.rest.now in
    let v = c.in-Some.meant in
    let k = c.in-Some.count in
    let at = c.behind-then-c-eq92.ensures in
    let known : escape (drop (l.at + 1) xs) ≡ Some (v, k) = grind (arith, common_steps) in
    let within : k ≤ length (drop (l.at + 1) xs) = grind (arith, common_steps) in
    let turn = double_escape l.content xs l.at c.index-rest-at.result v k c.loop-at-test.true c.index-rest-at.is c.if-c-eq92.true known within in
    (grind (arith, common_steps), grind (arith, common_steps))
