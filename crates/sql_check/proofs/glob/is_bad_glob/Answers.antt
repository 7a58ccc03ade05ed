use Rattle.std.proofs.Common.{rules}
use Rattle.std.specs.Str.{chars}
use Rattle.sql_check.proofs.Patterned.{bracket_bad, bracket_more, bracket_end}
use Rattle.sql_check.proofs.glob.is_bad_glob.Goals as goal

pub returns-then-is_bad_here : goal.returns-then-is_bad_here
returns-then-is_bad_here c =
    bracket_bad c.loop-c.bracket c.in-Some.c (chars c.loop-c.left.now) _ _ _ c.loop-c.invariant.bad c.in-Some.ensures.0 c.is_bad_here.ensures c.if-is_bad_here.true

pub loop-c-preserved : goal.loop-c-preserved
loop-c-preserved c = record {
  left = search rules;
  bad = bracket_more c.loop-c.bracket c.after-bracket.result c.in-Some.c (chars c.loop-c.left.now) _ _ _ c.loop-c.invariant.bad c.in-Some.ensures.0 c.is_bad_here.ensures c.if-is_bad_here.false
      c.after-bracket.ensures;
}

pub returns : goal.returns
returns c = bracket_end c.loop-c.bracket c.loop-c.left.now _ _ c.loop-c.invariant.bad c.in_default.ensures c.is_inside.ensures
