use Rattle.matching.proofs.WalkLemmas.{Walking-next, Walking-run, Walking-no_more, Walking-end, Walking-left_over}
use Rattle.std.proofs.Common.{rules, ap, sym, ◌∙◌}
use Rattle.std.specs.Str.{chars}
use Rattle.std.proofs.lemmas.Str.{chars-nil}
use Rattle.matching.proofs.text_walk.walk.Goals as goal

pub returns-then-is_empty : goal.returns-then-is_empty
returns-then-is_empty g c =
    Walking-end _ _ _ _ _ _ c.loop-next.invariant.walking c.in-End.ensures (sym c.if-is_empty.ensures)

pub returns-in-End : goal.returns-in-End
returns-in-End g c =
    Walking-left_over _ _ _ _ _ _ c.loop-next.invariant.walking c.in-End.ensures c.loop-next.invariant.text (sym c.if-is_empty.ensures)

pub returns-in-Run : goal.returns-in-Run
returns-in-Run g c = Walking-run _ _ _ _ _ _ _ c.loop-next.invariant.walking c.in-Run.ensures

pub returns-in_default : goal.returns-in_default
returns-in_default g c =
    Walking-no_more _ _ _ _ _ _ _ _ c.loop-next.invariant.walking c.in-Takes.ensures (ap chars c.in_default.ensures ∙ chars-nil)

pub loop-next-preserved : goal.loop-next-preserved
loop-next-preserved g c = record {
  text = search rules;
  walking = Walking-next _ _ _ _ _ _ _ _ _ _ c.loop-next.invariant.walking c.in-Takes.ensures c.in-Some.ensures.0 c.in-Some.ensures.1 (sym c.if-not-does_take.ensures);
}
