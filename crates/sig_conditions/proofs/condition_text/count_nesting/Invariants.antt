use Rattle.std.proofs.Common.{◌≡◌, ◌≤◌, ◌+◌, drop}
use Rattle.sig_conditions.specs.Words.{nesting}
use Rattle.sig_conditions.proofs.condition_text.count_nesting.Given as goal

abbrev pub invariant-loop-word : goal.invariant-loop-word
invariant-loop-word l = record {
  small : l.count ≤ l.word-index;
  sum : l.count + nesting (drop l.word-index l.words) ≡ nesting l.words;
}
