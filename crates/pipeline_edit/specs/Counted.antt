-- What is counted of items, and whether there is room for more of them.
use Rattle.std.specs.Prelude.{ℕ, ◌+◌, Bool, ◌&&◌, nat_le, List}
use Rattle.std.specs.List.{list_all}
use Rattle.sig_base.specs.declared.limits.Limits.{Limits}
use Rattle.rule_detections.specs.declared.detection.Detection.{Detection}
use Rattle.rule_detections.specs.declared.item.Item.{Item}
use Rattle.pipeline_limits.specs.Sizes.{total, of_items, name_count, test_count, every_item, has_legal_names, has_short_patterns}
use Rattle.pipeline_edit.specs.declared.rule_size.Counted.{Counted}
use Rattle.pipeline_edit.specs.declared.rule_size.Counted.TheVariants.{Names, Tests}

abbrev pub size_of : Counted → Item → ℕ
size_of Names = name_count
size_of Tests = test_count

-- the detections and the items beside them have at most so many names and tests, each name is legal, and each pattern is short
abbrev pub has_room_for : Limits → List Detection → List Item → Bool
has_room_for limits ds items =
    nat_le (of_items name_count ds + total name_count items) limits.grown
    && nat_le (of_items test_count ds + total test_count items) limits.grown
    && (every_item has_legal_names ds && list_all has_legal_names items)
    && (every_item (has_short_patterns limits) ds && list_all (has_short_patterns limits) items)
