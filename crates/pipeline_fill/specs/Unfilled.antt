-- Detections without placeholders.
use Rattle.std.specs.Prelude.{Bool, List}
use Rattle.std.specs.List.{list_all}
use Rattle.rule_detections.specs.declared.detection.Detection.{Detection}
use Rattle.rule_detections.specs.declared.item.Item.{Item}
use Rattle.rule_detections.specs.PlainTests.{is_filled_test}

abbrev pub is_filled_item : Item → Bool
is_filled_item i = list_all (list_all is_filled_test) i.tests

abbrev pub is_filled_detection : Detection → Bool
is_filled_detection d = list_all (list_all is_filled_item) d.alternatives

abbrev pub are_filled : List Detection → Bool
are_filled ds = list_all is_filled_detection ds
