-- How many parts the patterns of a rule have together, and how many they may have.
use Rattle.std.specs.Prelude.{ℕ, Bool, nat_le, List, Option}
use Rattle.sig_base.specs.Judged.{must}
use Rattle.sig_base.specs.declared.limits.Limits.{Limits}
use Rattle.sig_base.specs.declared.refusal.Place.{Place}
use Rattle.sig_base.specs.declared.refusal.Refusal.{Refusal}
use Rattle.rule_detections.specs.declared.test.Test.{Test}
use Rattle.rule_detections.specs.declared.detection.Detection.{Detection}
use Rattle.rule_detections.specs.declared.item.Item.{Item}
use Rattle.pipeline_limits.specs.Sizes.{total, of_items, part_count}

-- how many parts the patterns of a value's tests have together
abbrev pub value_extent : List Test → ℕ
value_extent value = total part_count value

-- those of all values of an item
abbrev pub item_extent : Item → ℕ
item_extent i = total value_extent i.tests

-- the patterns of all items, of detections that no condition names too, have together at most as many parts as a query may have bytes:
-- where a query asks a text for a pattern, each part of it takes a byte at least
abbrev pub has_few_parts_together : Limits → List Detection → Bool
has_few_parts_together limits ds = nat_le (of_items item_extent ds) limits.query_bytes

-- code 99
abbrev pub extent_refusal : Limits → Place → List Detection → Option Refusal
extent_refusal limits place ds = must 99 place (has_few_parts_together limits ds)
