use Rattle.std.proofs.Common.{◌≡◌, ◌++◌, length, map}
use Rattle.std.specs.Vec.Iter.{into_iter_items, into_iter_len}
use Rattle.query_tokens.specs.Tokens.{sorts, places}
use Rattle.query_tokens.specs.PlaceView.{place_view}
use Rattle.sql_scan.specs.View.{sort_view, tokens_view}
use Rattle.sql_read.proofs.select.part.Given as goal

abbrev pub invariant-loop-token : goal.invariant-loop-token
invariant-loop-token l = record {
  kept : map sort_view l.sorts.items ++ sorts (tokens_view (into_iter_items l.token-iterator)) ≡ sorts (tokens_view (into_iter_items l.initial.token-iterator));
  placed : map place_view l.places.items ++ places (tokens_view (into_iter_items l.token-iterator)) ≡ places (tokens_view (into_iter_items l.initial.token-iterator));
  left : into_iter_len l.token-iterator ≡ length (into_iter_items l.token-iterator);
}
