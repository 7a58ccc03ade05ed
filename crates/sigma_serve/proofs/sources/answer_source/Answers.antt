use Rattle.std.proofs.Common.{ℕ, List, subst}
use Rattle.std.specs.Prelude.{OnOk}
use Rattle.answer_writer.specs.Stands.{Writes}
use Rattle.answer_writer.specs.State.{State}
use Rattle.correlation_files.specs.Found.{Grows}
use Rattle.sigma_serve.proofs.Sourced.{source_read, source_unread, source_kept}
use Rattle.sigma_serve.specs.Sourced.{SourceShare}
use Rattle.sigma_serve.specs.UnderSchema.{is_ended}
use Rattle.sigma_serve.proofs.sources.answer_source.Goals as goal

pub returns-in-Ok-clause-ends : goal.returns-in-Ok-clause-ends
returns-in-Ok-clause-ends g c needs there =
    let limits = c.args.limits.now in
    let ps = c.args.pipelines.now in
    let schema = c.args.schema.now in
    let name = c.args.name.now in
    let x = c.args.found.now in
    let y = c.add_bytes.new.found in
    let before = g.B.Builder.refused c.args.builder.now in
    let after = g.B.Builder.refused c.add_bytes.new.builder in
    let result = c.add_bytes.result in
    let old = g.W.Outside.state c.args.outside.now in
    let new = g.W.Outside.state c.add_bytes.new.outside in
    source_read limits ps schema name c.in-Ok.bytes x y before after needs result old new there c.in-Ok.ensures.front
    (subst (λ (s : State). Writes (SourceShare limits ps schema before after (is_ended result) name c.in-Ok.bytes (λ os. OnOk result (Grows schema name os x y))) result s new) c.in-Ok.ensures.same
    (subst (λ (l : List ℕ). Writes (SourceShare limits ps schema before after (is_ended result) name l (λ os. OnOk result (Grows schema name os x y))) result (g.W.Outside.state c.read_file.new.outside) new) c.as_slice.ensures c.add_bytes.ensures))

pub returns-in-Ok-clause-kept : goal.returns-in-Ok-clause-kept
returns-in-Ok-clause-kept g c found =
    source_kept c.args.limits.now c.args.pipelines.now c.args.schema.now c.args.name.now c.as_slice.result.now c.args.found.now c.add_bytes.new.found
    (g.B.Builder.refused c.args.builder.now) (g.B.Builder.refused c.add_bytes.new.builder) (is_ended c.add_bytes.result) c.add_bytes.result
    (g.W.Outside.state c.read_file.new.outside) (g.W.Outside.state c.add_bytes.new.outside) c.add_bytes.ensures found

pub returns-in-Err-clause-ends : goal.returns-in-Err-clause-ends
returns-in-Err-clause-ends g c needs there =
    source_unread c.args.limits.now c.args.pipelines.now c.args.schema.now c.one_outcome.ensures.file (g.B.Builder.refused c.args.builder.now) c.args.name.now needs c.in-Err.stop
    (g.W.Outside.state c.args.outside.now) (g.W.Outside.state c.read_file.new.outside) there c.in-Err.ensures.stops
