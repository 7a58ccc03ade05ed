use Rattle.rule_lowering.proofs.Soundness.{tree_sound}
use Rattle.rule_lowering.proofs.laws.tree_is_sound.Goals as goal

pub returns : goal.returns
returns c = tree_sound c.choices_are_plain.ensures.scalars c.network_patterns_are_plain.ensures.scalars c.network_patterns_are_plain.ensures.counted c.expressions_are_plain.ensures
