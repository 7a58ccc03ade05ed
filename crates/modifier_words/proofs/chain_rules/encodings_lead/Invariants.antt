use Rattle.std.proofs.Common.{◌≡◌, length}
use Rattle.modifier_words.specs.Chains.{encodings_lead}
use Rattle.modifier_words.proofs.chain_rules.encodings_lead.Given as goal

abbrev pub invariant-loop-modifier : goal.invariant-loop-modifier
invariant-loop-modifier l = encodings_lead l.left ≡ encodings_lead l.modifiers

abbrev pub decreases-loop-modifier : goal.decreases-loop-modifier
decreases-loop-modifier l = length l.left
