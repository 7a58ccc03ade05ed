use Rattle.std.proofs.Common.{List, ℕ, ◌+◌, [], ◌∷◌, true, Some, sym, subst}
use Rattle.answer_writer.specs.Stands.{Ends}
use Rattle.answer_writer.specs.State.{State}
use Rattle.query_read.specs.Asked.{most_bytes}
use Rattle.rule_convert.specs.NamedQueries.{is_query, is_within, picks}
use Rattle.sig_base.specs.Files.{IsFront}
use Rattle.sigma_serve.proofs.Queried.{nothing_asked, query_unread}
use Rattle.sigma_serve.specs.Languages.{patterns, refuses, AskedBy}
use Rattle.sigma_serve.specs.UnderSchema.{is_ended}
use Rattle.sigma_serve.proofs.commands.query.QueryFileSchemaCommand.answer.Goals as goal

pub returns-in_default : goal.returns-in_default
returns-in_default g c =
    let command = c.args.self.now in
    let refused = g.B.Builder.refused c.args.builder.now in
    rw c.in_default.is (nothing_asked (is_query command.backend) (is_within command.backend) (picks command.backend) (patterns command.backend) (refuses command.backend)
    command.limits.now command.query.now refused refused (g.W.Outside.state c.args.outside.now))

pub returns-in-Ok : goal.returns-in-Ok
returns-in-Ok g c =
    let command = c.args.self.now in
    let old = g.W.Outside.state c.args.outside.now in
    let new = g.W.Outside.state c.answer_named.new.outside in
    let front = subst (λ (bytes : List ℕ). IsFront old.inputs.files command.query.now (most_bytes command.limits.now + 1) bytes) (sym c.as_slice.ensures) c.in-Ok.ensures.front in
    let asked = subst
    (λ (s : State). IsFront s.inputs.files command.query.now (most_bytes command.limits.now + 1) c.as_slice.result.now
    → Ends (record { names = command.query.now ∷ []; events = true })
    (AskedBy command.backend command.limits.now command.query.now (g.B.Builder.refused c.args.builder.now) (g.B.Builder.refused c.answer_named.new.builder) (is_ended c.answer_named.result) (Some c.in-Some.schema.now))
    c.answer_named.result s new)
    c.in-Ok.ensures.same c.answer_named.ensures in
    rw c.in-Some.is (asked front)

pub returns-in-Err : goal.returns-in-Err
returns-in-Err g c =
    let command = c.args.self.now in
    let refused = g.B.Builder.refused c.args.builder.now in
    rw c.in-Some.is (query_unread (is_query command.backend) (is_within command.backend) (picks command.backend) (patterns command.backend) (refuses command.backend)
    command.limits.now command.query.now c.in-Some.schema.now refused (c.each_under.ensures refused) c.in-Err.stop
    (g.W.Outside.state c.args.outside.now) (g.W.Outside.state c.read_file.new.outside) c.in-Err.ensures.stops)
