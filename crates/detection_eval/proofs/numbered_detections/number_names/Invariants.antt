use Rattle.std.proofs.Common.{◌≡◌, ◌++◌, drop, map}
use Rattle.event_schema.specs.Rows.{field_number}
use Rattle.detection_eval.proofs.numbered_detections.number_names.Given as goal

abbrev pub invariant-loop-name : goal.invariant-loop-name
invariant-loop-name l = l.places ++ map (field_number l.fields) (drop l.name-index l.names) ≡ map (field_number l.fields) l.names
