use Rattle.std.proofs.Common.{sym}
use Rattle.modifier_values.proofs.Readable.{reads_pattern, no_pattern}
use Rattle.modifier_values.proofs.expressions.is_pattern.Goals as goal
use Rattle.modifier_values.proofs.expressions.is_pattern.Goals.{in-Ok, in-Err+in-OutOfMemory, in-Err+in_default}

pub returns-clause-ok : goal.returns-clause-ok
returns-clause-ok c = elim c.match-parse.branch [
  | in-Ok w ↦ rw w.result-is (sym (reads_pattern c.default.result c.args.expression.now _ _ c.default.ensures w.in-Ok.ensures.ok))
  | in-Err+in-OutOfMemory w ↦ rw w.result-is tt
  | in-Err+in_default w ↦
      rw w.result-is (sym (no_pattern c.default.result w.in-Err.error.kind c.args.expression.now c.default.ensures w.in-Err.ensures.err w.in_default.not-OutOfMemory))
]
