use Rattle.backend_core.proofs.Checks.{unrefused, within}
use Rattle.sql_lang.specs.Expression.{depth}
use Rattle.std.proofs.Common.{◌-◌, ◌^◌}
use Rattle.std.specs.Prelude.{min}
use Rattle.sqlite_writer.specs.Lacking.{sqlite_lacks}
use Rattle.sqlite_writer.specs.Queries.{query_bytes, query_expr}
use Rattle.sqlite_writer.specs.Refused.{deep_refusal}
use Rattle.sqlite_writer.proofs.Answered.{means, too_deep_is}
use Rattle.sqlite_writer.proofs.backend.SqliteBackend.law.Goals as goal

pub returns-clause-query : goal.returns-clause-query
returns-clause-query c = λ limits schema t place named sound none.
    let passed = unrefused (λ s l. sqlite_lacks s.fields l) query_bytes deep_refusal limits schema t place none in
    let deep = depth (query_expr schema t) in
    let shallow = within 112 place (min deep (2 ^ 64 - 1)) deep limits.sql_depth passed.shallow in
    let is = c.tree_is_query.ensures limits.sql_depth schema t (c.schemas_are_found.ensures schema named) sound passed.none limits.sql_depth_in.0 shallow in
    means limits schema t place is passed.short

pub returns-clause-deep : goal.returns-clause-deep
returns-clause-deep c = too_deep_is
