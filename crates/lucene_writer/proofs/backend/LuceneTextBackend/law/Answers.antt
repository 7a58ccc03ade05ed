use Rattle.backend_core.proofs.Checks.{unrefused}
use Rattle.lucene_writer.specs.Lacking.{lucene_lacks}
use Rattle.lucene_writer.specs.Queries.{query_bytes}
use Rattle.lucene_writer.specs.Refused.{deep_refusal}
use Rattle.lucene_writer.proofs.Answered.{shallow, means, too_deep_is}
use Rattle.lucene_writer.proofs.backend.LuceneTextBackend.law.Goals as goal

pub returns-clause-query : goal.returns-clause-query
returns-clause-query c = λ limits schema t place named sound none.
    let passed = unrefused (λ s l. lucene_lacks s.fields l) query_bytes deep_refusal limits schema t place none in
    let is = c.tree_is_query.ensures limits.lucene_depth schema t (c.schemas_are_indexed.ensures schema named) sound passed.none (shallow limits schema t place passed.shallow) in
    means limits schema t place is passed.short

pub returns-clause-deep : goal.returns-clause-deep
returns-clause-deep c = too_deep_is
