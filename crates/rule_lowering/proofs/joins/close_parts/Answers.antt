use Rattle.std.proofs.Common.{◌∙◌}
use Rattle.rule_lowering.proofs.ViewLemmas.{closes}
use Rattle.rule_lowering.proofs.joins.close_parts.Goals as goal

pub returns-then-len-ne1 : goal.returns-then-len-ne1
returns-then-len-ne1 c =
    closes c.args.joined c.args.parts.items _ (λ e. c.if-len-ne1.true (c.len.ensures ∙ (c.args.parts.ok.0 ∙ e))) c.tree_with.ensures
