use Rattle.std.proofs.Common.{◌≡◌, ◌-◌, ◌++◌, length, map, drop}
use Rattle.backend_core.specs.FieldAt.{kind_at}
use Rattle.backend_core.specs.View.{tree_view}
use Rattle.modifier_windash.specs.Choices.{choices}
use Rattle.rule_lowering.proofs.ChoiceLemmas.{choice_tree}
use Rattle.rule_lowering.proofs.detection_trees.lower_choices.Given as goal

abbrev pub invariant-loop-parts : goal.invariant-loop-parts
invariant-loop-parts l =
    map tree_view l.parts.items ++ map (choice_tree l.fields l.place (kind_at l.fields l.field) l.field l.cased) (drop (length l.parts.items) (choices l.pattern))
    ≡ map (choice_tree l.fields l.place (kind_at l.fields l.field) l.field l.cased) (choices l.pattern)

abbrev pub decreases-loop-parts : goal.decreases-loop-parts
decreases-loop-parts l = length (choices l.pattern) - length l.parts.items
