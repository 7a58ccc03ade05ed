use Rattle.std.proofs.Common.{◌∙◌, ap, sym}
use Rattle.backend_core.specs.View.{plains_of}
use Rattle.rule_lowering.specs.Joining.{tree_with}
use Rattle.backend_core.proofs.Joining.{view-All, view-Any}
use Rattle.rule_lowering.proofs.joins.tree_with.Goals as goal

pub returns-in-All : goal.returns-in-All
returns-in-All c = view-All c.args.parts ∙ ap (λ j. tree_with j (plains_of c.args.parts.items)) (sym c.in-All.is)

pub returns-in-Any : goal.returns-in-Any
returns-in-Any c = view-Any c.args.parts ∙ ap (λ j. tree_with j (plains_of c.args.parts.items)) (sym c.in-Any.is)
