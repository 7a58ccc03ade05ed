-- What judges events by rules.
use Rattle.std.specs.Prelude.{List}
use Rattle.std.specs.List.{AllZip}
use Rattle.detection_eval.specs.Ready.{StandsFor, JudgesFor}
use Rattle.detection_eval.specs.declared.judge.Judge.{Judge}
use Rattle.detection_eval.specs.declared.ready.Ready.{Ready}
use Rattle.event_schema.specs.declared.schema.Field.{Field}
use Rattle.rule_model.specs.Plain.{PlainRule}

-- each of these is made of its rule for these fields
abbrev pub AreReady : List Field → List PlainRule → List Ready → Type 0
AreReady fields rules ready = AllZip (λ rule kept. StandsFor fields rule kept) rules ready

-- each of these judges events by its rule for these fields
abbrev pub AreJudges : List Field → List PlainRule → List Judge → Type 0
AreJudges fields rules judges = AllZip (λ rule judge. JudgesFor fields rule judge) rules judges
