use Rattle.std.proofs.Common.{◌+◌, [], ◌∷◌, true, Some, sym, subst}
use Rattle.answer_writer.specs.Stands.{Ends}
use Rattle.query_read.specs.Asked.{most_bytes}
use Rattle.rule_convert.specs.declared.backend_name.BackendName.{BackendName}
use Rattle.sig_base.specs.Files.{IsFront}
use Rattle.sigma_serve.specs.Languages.{AskedBy}
use Rattle.sigma_serve.specs.UnderSchema.{is_ended}
use Rattle.sigma_serve.proofs.commands.query.answer_named.Goals as goal

pub returns-in-Sqlite : goal.returns-in-Sqlite
returns-in-Sqlite g c =
    subst (λ (backend : BackendName). IsFront (g.W.Outside.state c.args.outside.now).inputs.files c.args.file.now (most_bytes c.args.limits.now + 1) c.args.bytes.now
    → Ends (record { names = c.args.file.now ∷ []; events = true })
    (AskedBy backend c.args.limits.now c.args.file.now (g.B.Builder.refused c.args.builder.now) (g.B.Builder.refused c.answer_bytes.new.builder) (is_ended c.answer_bytes.result) (Some c.args.schema.now))
    c.answer_bytes.result (g.W.Outside.state c.args.outside.now) (g.W.Outside.state c.answer_bytes.new.outside))
    (sym c.in-Sqlite.is) c.answer_bytes.ensures

pub returns-in-Lucene : goal.returns-in-Lucene
returns-in-Lucene g c =
    subst (λ (backend : BackendName). IsFront (g.W.Outside.state c.args.outside.now).inputs.files c.args.file.now (most_bytes c.args.limits.now + 1) c.args.bytes.now
    → Ends (record { names = c.args.file.now ∷ []; events = true })
    (AskedBy backend c.args.limits.now c.args.file.now (g.B.Builder.refused c.args.builder.now) (g.B.Builder.refused c.answer_bytes-in-Lucene.new.builder) (is_ended c.answer_bytes-in-Lucene.result) (Some c.args.schema.now))
    c.answer_bytes-in-Lucene.result (g.W.Outside.state c.args.outside.now) (g.W.Outside.state c.answer_bytes-in-Lucene.new.outside))
    (sym c.in-Lucene.is) c.answer_bytes-in-Lucene.ensures
