use Rattle.std.proofs.Common.{◌≡◌, ◌++◌, drop, find}
use Rattle.modifier_words.specs.Chains as chains
use Rattle.modifier_words.specs.Words as names
use Rattle.modifier_words.proofs.chain_words.read_modifiers.Given as goal

abbrev pub invariant-loop-word : goal.invariant-loop-word
invariant-loop-word l = record {
  read : l.modifiers.items ++ chains.modifiers_of (drop l.word-index l.words) ≡ chains.modifiers_of l.words;
  known : find names.is_unknown (drop l.word-index l.words) ≡ find names.is_unknown l.words;
}
