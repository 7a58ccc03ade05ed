use Rattle.event_schema.specs.Rows.{first_values}
use Rattle.sql_eval.proofs.Truths.{yes_or_not}
use Rattle.sql_eval.proofs.asked_queries.AskingSelector.law.Goals as goal
use Rattle.sql_lang.specs.Meaning.{sql_value}

pub returns : goal.returns
returns c = λ query row. yes_or_not (sql_value query (first_values row))
