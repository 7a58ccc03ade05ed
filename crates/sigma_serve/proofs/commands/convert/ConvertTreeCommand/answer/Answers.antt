use Rattle.std.proofs.Common.{◌≡◌, ◌∙◌, ap, false, Err}
use Rattle.std.specs.Prelude.{option_map}
use Rattle.rule_convert.specs.NamedQueries.{query_of, ConvertAnswers, IsConverted, IsRefused}
use Rattle.rule_model.specs.Plain.{PlainRule}
use Rattle.sigma_serve.proofs.Trees.{tree_wrote, tree_memory}
use Rattle.sig_base.specs.declared.refusal.Fault.TheVariants.{Memory}
use Rattle.sigma_serve.specs.Convert.{ConvertGives, has_query, no_query}
use Rattle.sigma_serve.specs.Reports.{line_share, refusal_share}
use Rattle.yaml_tree.specs.View.{node_view}
use Rattle.sigma_serve.proofs.commands.convert.ConvertTreeCommand.answer.Goals as goal

pub returns-in-Ok : goal.returns-in-Ok
returns-in-Ok g c =
    let limits = c.args.limits.now in
    let backend = c.args.self.now.backend in
    let given = option_map (λ s. s.now) c.args.self.now.schema in
    let ps = c.args.self.now.pipelines.now in
    let t = node_view c.args.node.now in
    tree_wrote (ConvertGives backend limits ps given) limits ps c.args.name.now t (λ unbuilt. (made : PlainRule) × IsConverted backend unbuilt limits ps given t made × (c.in-Ok.query ≡ query_of backend given made))
    (λ share. share ≡ line_share c.into_vec.result.items) (g.B.Builder.refused c.args.builder.now) (g.B.Builder.refused c.convert_node.new.builder) c.put_line.result (g.W.Outside.state c.args.outside.now)
    (g.W.Outside.state c.put_line.new.outside) c.in-Ok.ensures (λ unbuilt made share is. has_query made.0 made.1 (is ∙ ap line_share (c.into_vec.ensures ∙ made.2))) c.put_line.ensures

pub returns-in-Err-Memory : goal.returns-in-Err-Memory
returns-in-Err-Memory g c =
    let limits = c.args.limits.now in
    let found = rw c.in-Err-Memory.field-0-is at c.in-Err-Memory.ensures in
    let backend = c.args.self.now.backend in
    let given = option_map (λ s. s.now) c.args.self.now.schema in
    let ps = c.args.self.now.pipelines.now in
    let t = node_view c.args.node.now in
    tree_memory (ConvertGives backend limits ps given) limits ps c.args.name.now t (λ unbuilt. ConvertAnswers backend unbuilt limits ps given t (Err Memory)) (c.each_tree.ensures limits)
    (g.B.Builder.refused c.args.builder.now) (g.B.Builder.refused c.convert_node.new.builder) false found (g.W.Outside.state c.args.outside.now)

pub returns-in-Err-Refused : goal.returns-in-Err-Refused
returns-in-Err-Refused g c =
    let limits = c.args.limits.now in
    let backend = c.args.self.now.backend in
    let given = option_map (λ s. s.now) c.args.self.now.schema in
    let ps = c.args.self.now.pipelines.now in
    let t = node_view c.args.node.now in
    let found = rw c.in-Err-Refused.field-0-is at c.in-Err-Refused.ensures in
    tree_wrote (ConvertGives backend limits ps given) limits ps c.args.name.now t (λ unbuilt. IsRefused backend unbuilt limits ps given t c.in-Err-Refused.refusal)
    (λ share. share ≡ refusal_share c.args.name.now c.in-Err-Refused.refusal) (g.B.Builder.refused c.args.builder.now) (g.B.Builder.refused c.convert_node.new.builder) c.put_refusal.result
    (g.W.Outside.state c.args.outside.now) (g.W.Outside.state c.put_refusal.new.outside) found (λ unbuilt refused_so share is. no_query c.in-Err-Refused.refusal refused_so is) c.put_refusal.ensures
