use Rattle.std.proofs.Common.{List, take}
use Rattle.correlation_run.specs.Judges.{AreReady, AreJudges}
use Rattle.event_schema.specs.declared.schema.Field.{Field}
use Rattle.rule_model.specs.Plain.{PlainRule}
use Rattle.correlation_run.proofs.judges.judges_of.Given as goal

abbrev pub invariant-loop-kept : goal.invariant-loop-kept
invariant-loop-kept l = (fields : List Field) (rules : List PlainRule) → AreReady fields rules l.ready → AreJudges fields (take l.kept-index rules) l.judges.items
