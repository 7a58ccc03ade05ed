-- How many parts the longest pattern of a rule has.
use Rattle.std.specs.Prelude.{ℕ, List}
use Rattle.rule_detections.specs.declared.test.Test.{Test}
use Rattle.rule_detections.specs.declared.detection.Detection.{Detection}
use Rattle.rule_detections.specs.declared.item.Item.{Item}
use Rattle.pipeline_limits.specs.Sizes.{part_count}
use Rattle.pipeline_fill.specs.Entries.{largest}

abbrev pub longest_value : List Test → ℕ
longest_value value = largest part_count value

abbrev pub longest_item : Item → ℕ
longest_item i = largest longest_value i.tests

abbrev pub longest_items : List Item → ℕ
longest_items items = largest longest_item items

abbrev pub longest_detection : Detection → ℕ
longest_detection d = largest longest_items d.alternatives

abbrev pub longest_pattern : List Detection → ℕ
longest_pattern ds = largest longest_detection ds
