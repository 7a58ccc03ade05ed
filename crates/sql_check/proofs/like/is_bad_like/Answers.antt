use Rattle.std.proofs.Common.{rules}
use Rattle.std.specs.Str.{chars}
use Rattle.sql_check.proofs.Patterned.{escape_bad, escape_more, escape_end}
use Rattle.sql_check.proofs.like.is_bad_like.Goals as goal

pub returns-then-is_bad_here : goal.returns-then-is_bad_here
returns-then-is_bad_here c =
    escape_bad c.args.escape c.loop-c.escaped c.in-Some.c (chars c.loop-c.left.now) _ _ _ c.loop-c.invariant.bad c.in-Some.ensures.0 c.is_bad_here.ensures c.if-is_bad_here.true

pub loop-c-preserved : goal.loop-c-preserved
loop-c-preserved c = record {
  left = search rules;
  bad = escape_more c.args.escape c.loop-c.escaped c.escapes-escaped.result c.in-Some.c (chars c.loop-c.left.now) _ _ _ c.loop-c.invariant.bad c.in-Some.ensures.0 c.is_bad_here.ensures c.if-is_bad_here.false
      c.escapes-escaped.ensures;
}

pub returns : goal.returns
returns c = escape_end c.args.escape c.loop-c.escaped c.loop-c.left.now _ c.loop-c.invariant.bad c.in_default.ensures
