use Rattle.std.proofs.Common.{◌≡◌, List, length, take}
use Rattle.correlation_run.specs.Followed.{AreHits}
use Rattle.correlation_run.specs.Judges.{AreJudges}
use Rattle.event_schema.specs.declared.schema.Field.{Field}
use Rattle.rule_model.specs.Plain.{PlainRule}
use Rattle.correlation_run.proofs.judges.judge_all.Given as goal

abbrev pub invariant-loop-number : goal.invariant-loop-number
invariant-loop-number l =
    ((fields : List Field) (rules : List PlainRule) → AreJudges fields rules l.fn.judges.items
    → AreJudges fields rules l.judges.items × AreHits fields (take l.number rules) l.event.values (take l.number l.hits))
    × (length l.hits ≡ length l.judges.items) × (length l.judges.items ≡ length l.fn.judges.items) × (length l.hits ≡ length l.fn.hits)
