use Rattle.sig_base.proofs.Same.{second_ends, first_ends}
use Rattle.sig_base.proofs.folding.same_folded.Goals as goal

pub returns-in-None : goal.returns-in-None
returns-in-None c = second_ends c.loop-c.left.now c.loop-c.right.now c.in-Some.rest.now c.in-Some.c _ c.in-Some.ensures c.in-None.ensures c.loop-c.invariant.ran

pub returns-in-Some-first_char-2 : goal.returns-in-Some-first_char-2
returns-in-Some-first_char-2 c =
    first_ends c.loop-c.left.now c.loop-c.right.now c.in-Some-first_char-2.field-0.1.now c.in-Some-first_char-2.field-0.0 _ c.in_default.ensures c.in-Some-first_char-2.ensures c.loop-c.invariant.ran
