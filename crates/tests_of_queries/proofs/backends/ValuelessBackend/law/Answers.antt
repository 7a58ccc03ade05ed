use Rattle.sqlite_writer.specs.Queries.{query_bytes}
use Rattle.sqlite_writer.specs.Refused.{deep_refusal}
use Rattle.tests_of_queries.proofs.MoreLacks.{lacks_values, lacks_lists, fewer_lists, unrefused_less}
use Rattle.tests_of_queries.proofs.backends.ValuelessBackend.law.Goals as goal

pub returns-clause-query : goal.returns-clause-query
returns-clause-query c = λ limits schema t place named sound none.
    c.law.ensures.query limits schema t place named sound (unrefused_less lacks_values lacks_lists fewer_lists query_bytes deep_refusal limits schema t place none)
