use Rattle.std.proofs.Common.{List, subst}
use Rattle.answer_writer.specs.Stands.{Writes}
use Rattle.sig_base.specs.declared.refusal.Refusal.{Refusal}
use Rattle.sigma_serve.proofs.Sourced.{source_told, source_memory}
use Rattle.sigma_serve.specs.UnderPipelines.{AreReported}
use Rattle.sigma_serve.proofs.sources.add_bytes.Goals as goal

pub returns-in-Ok : goal.returns-in-Ok
returns-in-Ok g c =
    let old = g.W.Outside.state c.args.outside.now in
    let new = g.W.Outside.state c.put_refusals.new.outside in
    source_told c.args.limits.now c.args.pipelines.now c.args.schema.now c.args.name.now c.args.bytes.now c.args.found.now c.read_rules.new.found c.in-Ok.refusals
    (g.B.Builder.refused c.args.builder.now) (g.B.Builder.refused c.read_rules.new.builder) c.put_refusals.result old new c.in-Ok.ensures.file
    (subst (λ (rs : List Refusal). Writes (AreReported c.args.name.now rs) c.put_refusals.result old new) c.as_slice.ensures c.put_refusals.ensures)

pub returns : goal.returns
returns g c =
    source_memory c.args.limits.now c.args.pipelines.now c.args.schema.now c.one_outcome.ensures.file c.args.name.now c.args.bytes.now
    (g.B.Builder.refused c.args.builder.now) (g.B.Builder.refused c.read_rules.new.builder) _ _ (g.W.Outside.state c.args.outside.now) c.read_rules.ensures.file
