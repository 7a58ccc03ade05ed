use Rattle.std.proofs.Common.{◌≡◌, drop}
use Rattle.serde_json.specs.View.{view}
use Rattle.event_read.specs.Paths.{found}
use Rattle.event_read.proofs.path.find.Given as goal

abbrev pub invariant-loop-key : goal.invariant-loop-key
invariant-loop-key l = found (drop l.key-index l.at) (view l.here) ≡ found l.at (view l.value)
