use Rattle.sigma_serve.proofs.Lifted.{check_answers, convert_answers, run_answers, query_answers, correlate_answers, generate_answers}
use Rattle.sigma_serve.specs.UnderSchema.{is_ended}
use Rattle.sigma_serve.proofs.program.answer_request.Goals as goal

pub returns-in-Check : goal.returns-in-Check
returns-in-Check g c =
    let e = rw c.as_slice.ensures at c.answer_files.ensures in
    rw c.in-Check.is (check_answers c.args.limits.now _ (g.B.Builder.refused c.args.builder.now) (g.B.Builder.refused c.answer_files.new.builder)
    (is_ended c.answer_files.result) _ c.answer_files.result (g.W.Outside.state c.args.outside.now) (g.W.Outside.state c.answer_files.new.outside) e)

pub returns-in-Convert : goal.returns-in-Convert
returns-in-Convert g c =
    let e = rw c.as_slice-in-Convert.ensures at c.answer_convert.ensures in
    rw c.in-Convert.is (convert_answers c.one_outcome.ensures.pipelines c.one_outcome.ensures.never_both c.args.limits.now (g.B.Builder.refused c.args.builder.now) (g.B.Builder.refused c.answer_convert.new.builder) (is_ended c.answer_convert.result) _ _ _
    c.answer_convert.result (g.W.Outside.state c.args.outside.now) (g.W.Outside.state c.answer_convert.new.outside) _ _ e)

pub returns-in-Run : goal.returns-in-Run
returns-in-Run g c =
    rw c.in-Run.is (run_answers c.one_outcome.ensures.pipelines c.one_outcome.ensures.never_both c.args.limits.now (g.B.Builder.refused c.args.builder.now) (g.B.Builder.refused c.answer_run.new.builder) (is_ended c.answer_run.result) _ _ _
    c.answer_run.result (g.W.Outside.state c.args.outside.now) (g.W.Outside.state c.answer_run.new.outside) _ c.answer_run.ensures)

pub returns-in-Query : goal.returns-in-Query
returns-in-Query g c =
    rw c.in-Query.is (query_answers c.in-Query.backend c.args.limits.now c.in-Query.schema c.in-Query.query (g.B.Builder.refused c.args.builder.now) (g.B.Builder.refused c.answer_query.new.builder)
    (is_ended c.answer_query.result) _ c.answer_query.result (g.W.Outside.state c.args.outside.now) (g.W.Outside.state c.answer_query.new.outside) c.answer_query.ensures)

pub returns-in-Correlate : goal.returns-in-Correlate
returns-in-Correlate g c =
    let e = rw c.as_slice-in-Correlate.ensures at c.answer_correlate.ensures in
    rw c.in-Correlate.is (correlate_answers c.one_outcome.ensures.pipelines c.one_outcome.ensures.never_both c.args.limits.now (g.B.Builder.refused c.args.builder.now) (g.B.Builder.refused c.answer_correlate.new.builder) (is_ended c.answer_correlate.result) _ _ _ _
    c.answer_correlate.result (g.W.Outside.state c.args.outside.now) (g.W.Outside.state c.answer_correlate.new.outside) e)

pub returns-in-Generate : goal.returns-in-Generate
returns-in-Generate g c =
    rw c.in-Generate.is (generate_answers c.args.limits.now c.in-Generate.seed c.in-Generate.events (g.B.Builder.refused c.args.builder.now) (is_ended c.answer_generate.result) _ c.answer_generate.result
    (g.W.Outside.state c.args.outside.now) (g.W.Outside.state c.answer_generate.new.outside) c.answer_generate.ensures)
