use Rattle.std.proofs.Common.{◌≡◌, ◌+◌, ◌≤◌, length, drop}
use Rattle.sql_lang.specs.Machine.{Begun, run}
use Rattle.sql_parse.specs.View.{state_view, sorts_view, all_nots}
use Rattle.sql_parse.proofs.query.read_tokens.Given as goal

abbrev pub invariant-loop-sort : goal.invariant-loop-sort
invariant-loop-sort l = record {
  ran : run (state_view l.state) (sorts_view l.rest.items) ≡ run Begun (sorts_view l.fn.tokens.items);
  nots : all_nots (state_view l.state) ≤ l.count;
  left : sorts_view l.rest.items ≡ drop l.count (sorts_view l.fn.tokens.items);
  total : l.count + length l.rest.items ≡ length l.fn.tokens.items;
}

abbrev pub decreases-loop-sort : goal.decreases-loop-sort
decreases-loop-sort l = length l.rest.items
