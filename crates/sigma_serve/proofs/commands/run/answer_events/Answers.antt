use Rattle.std.specs.Prelude.{[], true}
use Rattle.answer_writer.proofs.Ending.{ends_memory}
use Rattle.answer_writer.proofs.Lined.{each_answer}
use Rattle.answer_writer.specs.EventLines.{EventLines}
use Rattle.rule_model.specs.Plain.{rule_view}
use Rattle.sigma_serve.specs.Ran.{RunGives}
use Rattle.sigma_serve.proofs.commands.run.answer_events.Goals as goal

pub answer_lines-requires : goal.answer_lines-requires
answer_lines-requires g c = c.in-Ok.ensures.ok c.args.schema.now.fields (rule_view c.args.rule.now) c.requires

pub returns-in-Err : goal.returns-in-Err
returns-in-Err g c =
    let gives = RunGives c.args.schema.now (rule_view c.args.rule.now) in
    ends_memory (record { names = []; events = true }) (EventLines gives c.args.limits.now) (g.W.Outside.state c.args.outside.now)
    (each_answer gives c.args.limits.now (c.each_answer.ensures.selected c.args.schema.now (rule_view c.args.rule.now)))
