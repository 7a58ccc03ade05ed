use Rattle.std.proofs.Common.{◌≡◌}
use Rattle.query_tokens.specs.Places.{origin, place_after}
use Rattle.query_tokens.specs.PlaceView.{place_view}
use Rattle.query_tokens.proofs.places.place_behind.Given as goal

abbrev pub invariant-loop-c : goal.invariant-loop-c
invariant-loop-c l = place_view l.place ≡ place_after origin l.yielded
