use Rattle.backend_core.specs.View.{tree_view}
use Rattle.sqlite_writer.specs.Queries.{query_bytes}
use Rattle.sqlite_writer.specs.Refused.{deep_refusal}
use Rattle.tests_of_queries.proofs.MoreLacks.{lacks_values, lacks_lists, fewer_lists, writes_more, lacking_more}
use Rattle.tests_of_queries.proofs.backends.ValuelessBackend.write.Goals as goal

pub returns-in-Ok : goal.returns-in-Ok
returns-in-Ok c =
    writes_more lacks_values lacks_lists fewer_lists query_bytes deep_refusal c.args.limits.now c.args.schema.now (tree_view c.args.tree.now) c.args.place c.write.result
    (rw c.in-Ok.is at c.judge_lacks.ensures).0 c.write.ensures

pub returns-in-Err : goal.returns-in-Err
returns-in-Err c =
    lacking_more lacks_values lacks_lists fewer_lists query_bytes deep_refusal c.args.limits.now c.args.schema.now (tree_view c.args.tree.now) c.args.place
    c.judge_lacks.result c.in-Err.fault c.in-Err.is c.judge_lacks.ensures
