use Rattle.std.proofs.Common.{◌≡◌}
use Rattle.query_tokens.specs.Places.{origin, place_after}
use Rattle.query_tokens.specs.PlaceView.{place_view}
use Rattle.sql_scan.specs.View.{tokens_view, mode_view}
use Rattle.sql_scan.proofs.Walked.{Scanned}
use Rattle.sql_scan.proofs.scanner.scan.Given as goal

abbrev pub invariant-loop-c : goal.invariant-loop-c
invariant-loop-c l = record {
  scanned : Scanned l.yielded (tokens_view l.found.items) (mode_view l.mode) (place_view l.place);
  at : place_view l.place ≡ place_after origin l.yielded;
}
