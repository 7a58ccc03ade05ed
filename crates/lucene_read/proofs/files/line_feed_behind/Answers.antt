use Rattle.lucene_read.proofs.LineFeed.{same_query, for_patterns}
use Rattle.lucene_read.proofs.files.line_feed_behind.Goals as goal

pub returns-clause-same : goal.returns-clause-same
returns-clause-same c = same_query

pub returns-clause-patterns : goal.returns-clause-patterns
returns-clause-patterns c = for_patterns c.no_refused_query.ensures.bytes
