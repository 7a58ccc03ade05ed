use Rattle.sql_parse.specs.View.{sorts_view}
use Rattle.sql_parse.proofs.Shown.{all_shown}
use Rattle.sql_parse.proofs.query.read_query.Goals as goal

pub returns : goal.returns
returns c = all_shown c.machine_reads.ensures (sorts_view c.args.tokens.items) c.read_tokens.result c.read_tokens.ensures
