use Rattle.std.proofs.Common.{◌≡◌, ◌+◌, true, drop, sym, ap, ◌∙◌, arith}
use Rattle.std.proofs.lemmas.Grind.{common_steps}
use Rattle.yaml_inline.specs.File.{begins}
use Rattle.yaml_inline.proofs.Quoting.{begins_within, single_two}
use Rattle.yaml_inline.proofs.quote.single.Goals as goal

pub loop-at-preserved : goal.loop-at-preserved
loop-at-preserved c =
    let l = c.loop-at in
    let xs = c.args.rest.now in
    let next : begins 39 (drop (l.at + 1) xs) ≡ true = ap (begins 39) (sym c.behind.ensures) ∙ (sym c.begins.ensures ∙ c.if-begins.true) in
    let within = begins_within 39 xs (l.at + 1) next in
    let turn = single_two l.content xs l.at c.index-rest-at.result c.loop-at-test.true c.index-rest-at.is (omega arith) next in
    (omega arith, grind (arith, common_steps))
