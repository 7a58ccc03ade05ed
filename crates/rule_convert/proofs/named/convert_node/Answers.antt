use Rattle.std.proofs.Common.{sym}
use Rattle.std.specs.Prelude.{option_map}
use Rattle.yaml_tree.specs.View.{node_view}
use Rattle.rule_convert.specs.declared.backend_name.BackendName.TheVariants.{Sqlite, Lucene}
use Rattle.rule_convert.proofs.ByName.{by_name}
use Rattle.rule_convert.proofs.named.convert_node.Goals as goal

pub returns-in-Sqlite : goal.returns-in-Sqlite
returns-in-Sqlite g c =
    by_name c.args.limits.now c.args.pipelines.now (option_map (λ s. s.now) c.args.given) (node_view c.args.node.now) _ _ c.convert_node.result Sqlite c.args.backend (sym c.in-Sqlite.is) c.convert_node.ensures

pub returns-in-Lucene : goal.returns-in-Lucene
returns-in-Lucene g c =
    by_name c.args.limits.now c.args.pipelines.now (option_map (λ s. s.now) c.args.given) (node_view c.args.node.now) _ _ c.convert_node-in-Lucene.result Lucene c.args.backend (sym c.in-Lucene.is)
    c.convert_node-in-Lucene.ensures
