use Rattle.std.proofs.Common.{List, true, false, sym, ◌∙◌, subst}
use Rattle.std.specs.Prelude.{option_map}
use Rattle.answer_writer.specs.Stands.{Ends, Writes}
use Rattle.event_schema.specs.Lists.{EachOf}
use Rattle.pipeline_run.specs.Kept.{IsWholePipeline}
use Rattle.pipeline_model.specs.declared.pipeline.Pipeline.{Pipeline}
use Rattle.sig_base.specs.declared.refusal.Refusal.{Refusal}
use Rattle.sigma_serve.proofs.Piped.{each_ordered, pipelines_given, pipelines_memory, pipelines_refused}
use Rattle.sigma_serve.specs.UnderPipelines.{AreReported}
use Rattle.sigma_serve.specs.UnderSchema.{is_ended}
use Rattle.sigma_serve.proofs.given_pipelines.answer_read.Goals as goal

pub returns-in-Err-Refused : goal.returns-in-Err-Refused
returns-in-Err-Refused g c front =
    let command = c.args.command.now in
    let found = rw c.in-Err-Refused.field-0-is at c.in-Err-Refused.ensures in
    let old = g.W.Outside.state c.args.outside.now in
    let new = g.W.Outside.state c.put_refusals.new.outside in
    pipelines_refused (g.T.PipelineCommand.by_made command) c.args.limits.now c.args.name.now (option_map (λ s. s.now) c.args.given) (g.T.PipelineCommand.own_names command) (g.T.PipelineCommand.own_events command)
    c.args.bytes.now (g.B.Builder.refused c.args.builder.now) (g.B.Builder.refused c.read_pipelines.new.builder) found.unbuilt found.follows old front found.are
    c.one_outcome.ensures.never_both c.in-Err-Refused.causes c.put_refusals.result new found.says
    (subst (λ (causes : List Refusal). Writes (AreReported c.args.name.now causes) c.put_refusals.result old new) c.as_slice.ensures c.put_refusals.ensures)

pub returns-in-Err-Memory : goal.returns-in-Err-Memory
returns-in-Err-Memory g c front =
    let command = c.args.command.now in
    let found = rw c.in-Err-Memory.field-0-is at c.in-Err-Memory.ensures in
    let texts = g.B.Builder.refused c.read_pipelines.new.builder in
    pipelines_memory (g.T.PipelineCommand.by_made command) c.args.limits.now c.args.name.now (option_map (λ s. s.now) c.args.given) (g.T.PipelineCommand.own_names command) (g.T.PipelineCommand.own_events command)
    c.args.bytes.now (g.B.Builder.refused c.args.builder.now) texts found.unbuilt found.follows c.one_outcome.ensures.each false (λ ps. c.each_made.ensures ps texts)
    (g.W.Outside.state c.args.outside.now) front found.are

pub answer_made-requires : goal.answer_made-requires
answer_made-requires g c =
    let found = c.in-Ok.ensures in
    subst (λ (ps : List Pipeline). EachOf IsWholePipeline ps) (sym (c.as_slice-in-Ok-by_priority.ensures ∙ c.in-Ok-by_priority.ensures.ok))
    (each_ordered IsWholePipeline c.in-Ok.pipelines (c.one_outcome.ensures.whole found.unbuilt c.args.limits.now c.args.bytes.now c.in-Ok.pipelines found.says))

pub returns-in-Ok-by_priority : goal.returns-in-Ok-by_priority
returns-in-Ok-by_priority g c front =
    let command = c.args.command.now in
    let found = c.in-Ok.ensures in
    let texts = g.B.Builder.refused c.read_pipelines.new.builder in
    let after = g.B.Builder.refused c.answer_made.new.builder in
    let given = option_map (λ s. s.now) c.args.given in
    let old = g.W.Outside.state c.args.outside.now in
    let new = g.W.Outside.state c.answer_made.new.outside in
    pipelines_given (g.T.PipelineCommand.by_made command) c.args.limits.now c.args.name.now given (g.T.PipelineCommand.own_names command) (g.T.PipelineCommand.own_events command)
    c.args.bytes.now (g.B.Builder.refused c.args.builder.now) texts found.unbuilt found.follows old front found.are
    c.one_outcome.ensures.never_both c.in-Ok.pipelines after c.answer_made.result new found.says
    (subst (λ (ps : List Pipeline). Ends (record { names = g.T.PipelineCommand.own_names command; events = g.T.PipelineCommand.own_events command })
    (g.T.PipelineCommand.by_made command ps texts after (is_ended c.answer_made.result) given) c.answer_made.result old new)
    (c.as_slice-in-Ok-by_priority.ensures ∙ c.in-Ok-by_priority.ensures.ok) c.answer_made.ensures)

pub returns : goal.returns
returns g c front =
    let command = c.args.command.now in
    let found = c.in-Ok.ensures in
    let texts = g.B.Builder.refused c.read_pipelines.new.builder in
    pipelines_memory (g.T.PipelineCommand.by_made command) c.args.limits.now c.args.name.now (option_map (λ s. s.now) c.args.given) (g.T.PipelineCommand.own_names command) (g.T.PipelineCommand.own_events command)
    c.args.bytes.now (g.B.Builder.refused c.args.builder.now) texts found.unbuilt found.follows c.one_outcome.ensures.each true (λ ps. c.each_made.ensures ps texts)
    (g.W.Outside.state c.args.outside.now) front found.are
