-- What may still be refused of a document of which nothing was: the types of steps, and the items that they add.
use Rattle.std.specs.Prelude.{List, [], ◌∷◌, map as list_map, Option}
use Rattle.sig_base.specs.declared.limits.Limits.{Limits}
use Rattle.sig_base.specs.declared.refusal.Place.{Place}
use Rattle.sig_base.specs.declared.refusal.Refusal.{Refusal}
use Rattle.sig_base.specs.Judged.{first}
use Rattle.yaml_tree.specs.Tree.{Tree}
use Rattle.rule_detections.specs.Items.{item_refusal}
use Rattle.pipeline_model.specs.Checks.{typed_refusal, added_in, steps_in}

abbrev pub items_cause : List Place → Limits → Tree → Option Refusal
items_cause unbuilt limits t = first (list_map (item_refusal unbuilt limits) (added_in t))

abbrev pub step_cause : List Place → Limits → Tree → Option Refusal
step_cause unbuilt limits t = first (typed_refusal t ∷ items_cause unbuilt limits t ∷ [])

abbrev pub steps_cause : List Place → Limits → Tree → Option Refusal
steps_cause unbuilt limits t = first (list_map (step_cause unbuilt limits) (steps_in t))
