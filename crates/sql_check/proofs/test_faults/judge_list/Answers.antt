use Rattle.sql_check.proofs.Judged.{of_name, list_same}
use Rattle.sql_check.proofs.test_faults.judge_list.Goals as goal

pub returns : goal.returns
returns c = of_name c.args.columns.now c.args.name.now _ _ _ _ _ c.judge_name.ensures c.kind-kind.ensures (list_same c.args.columns.now c.args.name.now _ _ _ _ _ c.is_ill_list-ill.ensures c.kind-kind.ensures)
