use Rattle.rule_regex.proofs.BuiltRows.{none_refused, says}
use Rattle.rule_regex.proofs.laws.refused_where_unbuilt.Goals as goal

pub returns : goal.returns
returns c = record {
  none = none_refused;
  code = λ unbuilt expressions r is. (says unbuilt expressions r is).0;
  own = λ unbuilt expressions r is. (says unbuilt expressions r is).1;
  among = λ unbuilt expressions r is. (says unbuilt expressions r is).2;
}
