use Rattle.sigma_serve.proofs.Named.{by_name}
use Rattle.sigma_serve.proofs.SameLines.{OneQuery, Feeds, OnlyPatterns, same_lines, same_without_refusals, same_by_lucene}
use Rattle.sigma_serve.proofs.same_lines.run_as_queried.Goals as goal

pub returns : goal.returns
returns c =
    let lines = same_lines c.events_are_kept.ensures c.lone_rules.ensures.one c.refused_as_built.ensures.lone c.refused_where_unbuilt.ensures.none c.refused_where_unbuilt.ensures.code
    c.refused_where_unbuilt.ensures.among c.queries_mean_rules.ensures.request c.verdicts.ensures.never_both c.one_verdict.ensures.list c.one_run.ensures.one c.one_outcome.ensures.pipelines (by_name Feeds c.line_feed_behind.ensures.same c.line_feed_behind-2.ensures.same)
    (by_name OnlyPatterns c.line_feed_behind.ensures.patterns c.line_feed_behind-2.ensures.patterns) (by_name OneQuery c.law.ensures.one_query c.law-2.ensures.one_query) in
    record { lines = lines; without_refusals = same_without_refusals lines; lucene = same_by_lucene lines }
