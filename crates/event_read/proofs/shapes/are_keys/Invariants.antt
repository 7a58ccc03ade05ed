use Rattle.std.proofs.Common.{◌≡◌}
use Rattle.event_read.specs.Keys.{keys_of}
use Rattle.event_read.specs.SchemaOf.{all_keys, is_one_of}
use Rattle.serde_json.specs.View.{members_view}
use Rattle.event_read.proofs.shapes.are_keys.Given as goal

abbrev pub invariant-loop-key : goal.invariant-loop-key
invariant-loop-key l = all_keys (is_one_of (keys_of l.keys)) (members_view l.key-iterator) ≡ all_keys (is_one_of (keys_of l.keys)) (members_view l.map.entries)
