use Rattle.std.proofs.Common.{◌≡◌, ◌≤◌, ◌+◌, ◌-◌, ◌*◌, ℕ, length, drop}
use Rattle.sig_conditions.specs.Conditions.{conds_view}
use Rattle.sig_conditions.specs.declared.word.Sign.TheVariants.{Or, And}
use Rattle.sig_conditions.specs.Words.{is_sign}
use Rattle.sig_conditions.specs.Reader.{and_in, not_in, read_map, tail_in}
use Rattle.sig_conditions.proofs.Turns.{prepend}
use Rattle.sig_conditions.proofs.reader.+reader.Given as goal

abbrev pub decreases-read_or : goal.decreases-read_or
decreases-read_or l = 4 * l.depth + 3

abbrev pub decreases-read_and : goal.decreases-read_and
decreases-read_and l = 4 * l.depth + 2

abbrev pub decreases-read_not : goal.decreases-read_not
decreases-read_not l = 4 * l.depth + 1

abbrev pub decreases-read_atom : goal.decreases-read_atom
decreases-read_atom l = 4 * l.depth

abbrev pub invariant-read_or-parts : goal.invariant-read_or-parts
invariant-read_or-parts l = record {
  first : l.first ≡ l.initial.first;
  after : l.initial.end ≤ l.end;
  within : l.end ≤ length l.words;
  fuel : ℕ;
  enough : length l.words ≤ fuel + l.end;
  tail : read_map (prepend (conds_view l.more.items)) (tail_in (and_in l.depth) (is_sign Or) fuel (drop l.end l.words))
      ≡ tail_in (and_in l.depth) (is_sign Or) (length (drop l.initial.end l.words)) (drop l.initial.end l.words);
}

abbrev pub decreases-read_or-parts : goal.decreases-read_or-parts
decreases-read_or-parts l = length l.words - l.end

abbrev pub invariant-read_and-parts : goal.invariant-read_and-parts
invariant-read_and-parts l = record {
  first : l.first ≡ l.initial.first;
  after : l.initial.end ≤ l.end;
  within : l.end ≤ length l.words;
  fuel : ℕ;
  enough : length l.words ≤ fuel + l.end;
  tail : read_map (prepend (conds_view l.more.items)) (tail_in (not_in l.depth) (is_sign And) fuel (drop l.end l.words))
      ≡ tail_in (not_in l.depth) (is_sign And) (length (drop l.initial.end l.words)) (drop l.initial.end l.words);
}

abbrev pub decreases-read_and-parts : goal.decreases-read_and-parts
decreases-read_and-parts l = length l.words - l.end
