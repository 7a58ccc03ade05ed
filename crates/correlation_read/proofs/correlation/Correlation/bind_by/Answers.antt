use Rattle.std.proofs.Common.{to_z, of_z, map, length}
use Rattle.std.specs.Int.{w128}
use Rattle.std.proofs.lemmas.List.{length-map}
use Rattle.correlation_windows.specs.declared.bound.Bound.{Bound}
use Rattle.correlation_read.specs.Binding.{names_of_head}
use Rattle.correlation_read.specs.Correlations.{correlation_view}
use Rattle.correlation_read.proofs.Bounds.{all_within}
use Rattle.correlation_read.proofs.correlation.Correlation.bind_by.Goals as goal

pub returns-clause-within : goal.returns-clause-within
returns-clause-within c =
    let b : Bound = record {
      kind = c.args.self.now.kind;
      rules = c.in_ok-rules.rules;
      groups = c.in_ok-groups.groups;
      span = to_z w128 (of_z w128 c.args.self.now.span);
      condition = c.in_ok-condition.condition;
      counted = c.counted_number.result;
    } in
    all_within (map names_of_head c.args.heads.now) (length c.args.heads.now) c.as_slice-fields.result.now c.args.schema.now.fields (correlation_view c.args.self.now)
    c.as_slice.result.now b (length-map c.args.heads.now names_of_head) c.as_slice-fields.ensures c.as_slice.ensures c.in_ok-groups.ensures.0 c.in_ok-rules.ensures.1
    c.in_ok-groups.ensures.1 c.counted_number.ensures
