use Rattle.matching.proofs.WalkLemmas.{Seeking-miss, Seeking-end, Seeking-run}
use Rattle.std.proofs.Common.{rules}
use Rattle.matching.proofs.suffixes.matches_some_suffix.Goals as goal

pub returns-in_default : goal.returns-in_default
returns-in_default g c = (
  (λ h. cc),
  (λ h. absurd (Seeking-end g.C.Cursor.holds g.C.Cursor.left _ _ _ _ c.loop-rest.invariant.same c.in-Misses.ensures c.in_default.ensures h)),
)

pub loop-rest-preserved-in-Misses : goal.loop-rest-preserved-in-Misses
loop-rest-preserved-in-Misses g c = record {
  text = search rules;
  same = Seeking-miss g.C.Cursor.holds g.C.Cursor.left _ _ _ _ _ _ c.loop-rest.invariant.same c.in-Misses.ensures c.in-Some.ensures.0;
}

pub loop-rest-preserved : goal.loop-rest-preserved
loop-rest-preserved g c = record {
  text = search rules;
  same = Seeking-run g.C.Cursor.holds g.C.Cursor.left _ _ _ _ _ _ c.loop-rest.invariant.same c.in-Reaches.ensures;
}
