-- A document is one rule, and each name that conditions see is a detection of it.
use Rattle.std.proofs.Common.{◌≡◌, List, length, sym, ◌∙◌}
use Rattle.std.proofs.lemmas.List.{length-map}
use Rattle.std.proofs.lemmas.Slice.Zip.{AllZip-long}
use Rattle.yaml_tree.specs.Tree.{Tree}
use Rattle.rule_model.specs.Conditions.{names_of}
use Rattle.rule_detections.specs.Detections.{detection_entries, IsDetection, AreDetections}
use Rattle.rule_detections.specs.declared.detection.Detection.{Detection}

-- there are as many names as detections
pub as_many : (t : Tree) (ds : List Detection) → AreDetections t ds → length (names_of t) ≡ length ds
as_many t ds all = length-map (detection_entries t) (λ e. e.key) ∙ sym (AllZip-long IsDetection (detection_entries t) ds all)
