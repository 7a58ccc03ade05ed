use Rattle.rule_schema.specs.Gathered.{AreMade}
use Rattle.rule_schema.specs.Inferred.{uses_of, items_of}
use Rattle.rule_schema.proofs.Gathered.{names_gathered, clash_judged}
use Rattle.rule_schema.proofs.names.gather.Goals as goal

pub returns : goal.returns
returns c = names_gathered c.args.detections.now _ (rw c.new-gathered.ensures.names at c.in_ok-add_detections.ensures.gathers)

pub returns-in_err-add_detections : goal.returns-in_err-add_detections
returns-in_err-add_detections c =
    clash_judged (λ ns. AreMade (uses_of (items_of c.args.detections.now)) ns.items) c.from_residual.result c.in_err-add_detections.field-0.0 _ c.args.detections.now _
    c.from_residual.ensures.1 (λ y p. p) (rw c.new-gathered.ensures.names at c.in_err-add_detections.ensures.gathers)
