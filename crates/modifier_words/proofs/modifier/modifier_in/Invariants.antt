use Rattle.std.proofs.Common.{◌≡◌, drop, true}
use Rattle.modifier_words.specs.Words as names
use Rattle.modifier_words.proofs.modifier.modifier_in.Given as goal

-- the rows that are left tell as all rows do
abbrev pub invariant-loop-row : goal.invariant-loop-row
invariant-loop-row l = record {
  same : names.modifier_in (names.rows_of (drop l.row-index l.rows)) l.word ≡ names.modifier_in (names.rows_of l.rows) l.word;
  ascii : names.are_ascii (drop l.row-index l.rows) ≡ true;
}
