use Rattle.std.proofs.Common.{refl, ap}
use Rattle.correlation_read.specs.Binding.{names_of_plain}
use Rattle.rule_regex.proofs.BuiltRows.{no_memory, fault_so}
use Rattle.rule_model.specs.Expressions.{rule_expressions}
use Rattle.rule_model.specs.Plain.{rule_view}
use Rattle.detection_eval.specs.Ready.{StandsFor}
use Rattle.correlation_files.specs.Accepted.{IsReadyRule}
use Rattle.correlation_files.proofs.ready_rules.ready_fit.Goals as goal

pub returns-in-Err : goal.returns-in-Err
returns-in-Err g c =
    let rule = rule_view c.args.rule in
    no_memory (IsReadyRule c.args.schema.now rule) (rule_expressions rule) _ _ c.in-Err.fault c.in-Err.ensures.err refl

pub returns-in-Ok-make : goal.returns-in-Ok-make
returns-in-Ok-make g c =
    (c.in-Ok-make.ensures.answers.0, c.in-Ok-make.ensures.answers.1, record { same = refl; ready = c.in-Ok-make.ensures.answers.2; names = ap names_of_plain c.in-Ok.ensures.ok })

pub returns-in-Err-make : goal.returns-in-Err-make
returns-in-Err-make g c =
    let rule = rule_view c.args.rule in
    fault_so (StandsFor c.args.schema.now.fields rule) (IsReadyRule c.args.schema.now rule) (rule_expressions rule) _ _ c.in-Err-make.fault c.in-Err-make.ensures.answers
