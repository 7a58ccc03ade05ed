use Rattle.std.proofs.Common.{◌∙◌, sym, ap, List}
use Rattle.std.specs.Prelude.{nat_lt}
use Rattle.event_schema.specs.declared.schema.Field.{Field}
use Rattle.sql_parse.specs.View.{ors_view}
use Rattle.sql_check.proofs.Deep.{or_same, past_limit}
use Rattle.sql_check.proofs.depth.is_too_deep.Goals as goal

pub returns : goal.returns
returns c = λ (fields : List Field). past_limit c.args.limit c.ors_depth.result _ c.ors_depth.ensures ∙ ap (nat_lt c.args.limit) (sym (or_same fields (ors_view c.args.ors.now)))
