use Rattle.std.proofs.Common.{◌≡◌, length}
use Rattle.modifier_words.specs.Chains.{units_lead}
use Rattle.modifier_words.proofs.chain_rules.units_lead.Given as goal

abbrev pub invariant-loop-modifier : goal.invariant-loop-modifier
invariant-loop-modifier l = units_lead l.left ≡ units_lead l.modifiers

abbrev pub decreases-loop-modifier : goal.decreases-loop-modifier
decreases-loop-modifier l = length l.left
