use Rattle.std.proofs.Common.{List, take}
use Rattle.generate_run.specs.Compared.{Flags}
use Rattle.detection_eval.specs.Ready.{JudgesFor}
use Rattle.event_schema.specs.declared.schema.Field.{Field}
use Rattle.rule_model.specs.Matching.{Matches}
use Rattle.rule_model.specs.Plain.{PlainRule}
use Rattle.generate_run.proofs.matches.select_by_rule.Given as goal

abbrev pub invariant-loop-event : goal.invariant-loop-event
invariant-loop-event l =
    (fields : List Field) (rule : PlainRule) → JudgesFor fields rule l.fn.judge
    → JudgesFor fields rule l.judge × Flags (λ row. Matches fields row rule) (take l.event-index l.events) l.flags.items
