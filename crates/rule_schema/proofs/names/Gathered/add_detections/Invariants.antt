use Rattle.std.proofs.Common.{◌≡◌, drop}
use Rattle.std.specs.List.{flat_map}
use Rattle.rule_schema.specs.Gathered.{AreFound, texts_of, gathered, detection_uses}
use Rattle.rule_schema.proofs.names.Gathered.add_detections.Given as goal

abbrev pub invariant-loop-detection : goal.invariant-loop-detection
invariant-loop-detection l = record {
  kept : AreFound (texts_of l.self.names.items) l.self.index l.self.indexed;
  gathers : gathered l.self.names.items (flat_map detection_uses (drop l.detection-index l.detections)) ≡ gathered l.initial.self.names.items (flat_map detection_uses l.detections);
}
