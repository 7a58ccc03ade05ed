use Rattle.std.proofs.Common.{◌∙◌, sym, subst}
use Rattle.query_lang.specs.RefusedPlaces.{AreOfPatterns}
use Rattle.sigma_serve.specs.RuleFiles.{contents}
use Rattle.sigma_serve.proofs.Queried.{each_queried, none_gained, query_answered, query_refused, query_memory}
use Rattle.sigma_serve.proofs.commands.query.answer_bytes.Goals as goal

pub returns-in-Ok : goal.returns-in-Ok
returns-in-Ok g c front =
    let a = c.in-Ok.ensures.answers in
    query_answered g.L.Language.is_query g.L.Language.is_within g.L.Language.picks g.L.Language.patterns g.L.Language.refuses c.args.limits.now c.args.file.now c.args.schema.now a.gained c.asked_once.ensures.places
    (g.B.Builder.refused c.args.builder.now) (g.B.Builder.refused c.read_query.new.builder) a.follows c.args.bytes.now (g.W.Outside.state c.args.outside.now) (g.W.Outside.state c.select_lines.new.outside) front
    c.asked_once.ensures.never_both (g.L.Language.plain c.in-Ok.query) c.select_lines.result a.answer.0 a.answer.1 c.select_lines.ensures

pub returns-in-Err-Refused : goal.returns-in-Err-Refused
returns-in-Err-Refused g c front =
    let a = rw c.in-Err-Refused.field-0-is at c.in-Err-Refused.ensures.answers in
    let before = g.B.Builder.refused c.args.builder.now in
    query_refused g.L.Language.is_query g.L.Language.is_within g.L.Language.picks g.L.Language.patterns g.L.Language.refuses c.args.limits.now c.args.file.now c.args.schema.now a.gained c.asked_once.ensures.places
    (g.B.Builder.refused c.args.builder.now) (g.B.Builder.refused c.read_query.new.builder) a.follows c.args.bytes.now (g.W.Outside.state c.args.outside.now) (g.W.Outside.state c.put_refusal.new.outside) front
    c.asked_once.ensures.cause c.in-Err-Refused.cause c.put_refusal.result a.answer (a.own, λ large. none_gained before a.gained (sym a.follows ∙ c.in-Err-Refused.ensures.large large)) c.put_refusal.ensures

pub returns-in-Err-Memory : goal.returns-in-Err-Memory
returns-in-Err-Memory g c front =
    let a = rw c.in-Err-Memory.field-0-is at c.in-Err-Memory.ensures.answers in
    query_memory g.L.Language.is_query g.L.Language.is_within g.L.Language.picks g.L.Language.patterns g.L.Language.refuses c.args.limits.now c.args.file.now c.args.schema.now
    (g.B.Builder.refused c.args.builder.now) (g.B.Builder.refused c.read_query.new.builder)
    (λ given world. each_queried g.L.Language.is_query g.L.Language.is_within g.L.Language.picks g.L.Language.patterns g.L.Language.refuses c.asked_once.ensures.places c.asked_once.ensures.each (λ q row. c.law.ensures.picks q row)
    c.args.limits.now c.args.file.now (g.B.Builder.refused c.args.builder.now) (g.B.Builder.refused c.read_query.new.builder) a.gained a.follows given world (subst (AreOfPatterns (g.L.Language.patterns (contents world.files c.args.file.now))) (sym a.answer) tt))
    (g.W.Outside.state c.args.outside.now)
