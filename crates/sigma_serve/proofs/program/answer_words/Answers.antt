use Rattle.std.proofs.Common.{true, false}
use Rattle.sigma_serve.proofs.Running.{serves_as, serves_unread, serves_unwritten, serves_memory, serves_nothing}
use Rattle.sigma_serve.proofs.program.answer_words.Goals as goal

pub returns-in-Err-clause-serves : goal.returns-in-Err-clause-serves
returns-in-Err-clause-serves g c = serves_nothing c.each_answer.ensures.request c.args.limits.now (g.B.Builder.refused c.args.builder.now) c.args.words.now (g.W.Outside.state c.args.outside.now)

pub returns-in-Ok-true-clause-serves : goal.returns-in-Ok-true-clause-serves
returns-in-Ok-true-clause-serves g c =
    serves_as c.args.limits.now (record { before = g.B.Builder.refused c.args.builder.now; after = g.B.Builder.refused c.answer_request.new.builder }) c.args.words.now c.in-Ok-Some.request (rw c.in-Ok-Some.field-0-is at c.in-Ok-Some.ensures.accepted) (g.W.Outside.state c.args.outside.now) (g.W.Outside.state c.answer_request.new.outside) c.one_answer.ensures.request c.queries_mean_rules.ensures.request c.in-Ok-true.field-0 true c.in-Ok-true.field-0-test c.in-Ok-true.ensures

pub returns-in-Ok-false-clause-serves : goal.returns-in-Ok-false-clause-serves
returns-in-Ok-false-clause-serves g c =
    serves_as c.args.limits.now (record { before = g.B.Builder.refused c.args.builder.now; after = g.B.Builder.refused c.answer_request.new.builder }) c.args.words.now c.in-Ok-Some.request (rw c.in-Ok-Some.field-0-is at c.in-Ok-Some.ensures.accepted) (g.W.Outside.state c.args.outside.now) (g.W.Outside.state c.answer_request.new.outside) c.one_answer.ensures.request c.queries_mean_rules.ensures.request c.in-Ok-false.field-0 false c.in-Ok-false.field-0-test c.in-Ok-false.ensures

pub returns-in-Err-Unread-clause-serves : goal.returns-in-Err-Unread-clause-serves
returns-in-Err-Unread-clause-serves g c =
    let e = rw c.in-Err-Unread.field-0-is at c.in-Err-Unread.ensures in
    serves_unread c.args.limits.now (record { before = g.B.Builder.refused c.args.builder.now; after = g.B.Builder.refused c.answer_request.new.builder }) c.args.words.now c.in-Ok-Some.request (rw c.in-Ok-Some.field-0-is at c.in-Ok-Some.ensures.accepted) (g.W.Outside.state c.args.outside.now) (g.W.Outside.state c.answer_request.new.outside) c.one_answer.ensures.request e

pub returns-in-Err-Unwritten-clause-serves : goal.returns-in-Err-Unwritten-clause-serves
returns-in-Err-Unwritten-clause-serves g c =
    let e = rw c.in-Err-Unwritten.field-0-is at c.in-Err-Unwritten.ensures in
    serves_unwritten c.args.limits.now (record { before = g.B.Builder.refused c.args.builder.now; after = g.B.Builder.refused c.answer_request.new.builder }) c.args.words.now c.in-Ok-Some.request (rw c.in-Ok-Some.field-0-is at c.in-Ok-Some.ensures.accepted) (g.W.Outside.state c.args.outside.now) (g.W.Outside.state c.answer_request.new.outside) c.one_answer.ensures.request e

pub returns-clause-serves : goal.returns-clause-serves
returns-clause-serves g c =
    let e = rw c.in-Err-Memory.field-0-is at c.in-Err-Memory.ensures in
    serves_memory c.args.limits.now (record { before = g.B.Builder.refused c.args.builder.now; after = g.B.Builder.refused c.answer_request.new.builder }) c.args.words.now c.in-Ok-Some.request (rw c.in-Ok-Some.field-0-is at c.in-Ok-Some.ensures.accepted) (g.W.Outside.state c.args.outside.now) (g.W.Outside.state c.answer_request.new.outside) c.one_answer.ensures.request e
