use Rattle.std.proofs.Common.{◌∙◌, refl}
use Rattle.modifier_words.proofs.WordLemmas.{found_there, found_later}
use Rattle.modifier_words.proofs.modifier.modifier_in.Goals as goal

pub returns-then-is : goal.returns-then-is
returns-then-is c =
    found_there _ _ _ _ c.loop-row-test.true c.loop-row.invariant.ascii c.if-is.ensures.ascii ∙ c.loop-row.invariant.same

pub loop-row-preserved : goal.loop-row-preserved
loop-row-preserved c =
    let next = found_later _ _ _ _ _ refl c.loop-row-test.true c.loop-row.invariant.ascii c.if-is.ensures.ascii in
    record { same = next.same ∙ c.loop-row.invariant.same; ascii = next.ascii }
