use Rattle.std.proofs.Common.{rules}
use Rattle.modifier_windash.proofs.Standing.{made, missing}
use Rattle.modifier_windash.proofs.choices.choice.Goals as goal

pub returns-then-choose-gt0-clause-ok : goal.returns-then-choose-gt0-clause-ok
returns-then-choose-gt0-clause-ok c =
    missing c.args.pattern.now c.in_ok-parts.parts.items c.args.number c.choose.result (search rules) c.choose.ensures.left c.if-choose-gt0.true

pub returns-clause-ok : goal.returns-clause-ok
returns-clause-ok c =
    made c.args.pattern.now c.in_ok-parts.parts.items c.choose.new.parts.items _ c.args.number c.choose.result (search rules) c.choose.ensures.left
    c.if-choose-gt0.false c.choose.ensures.parts (search rules)
