use Rattle.std.proofs.Common.{◌∙◌, ℕ, List, Option, ap, sym}
use Rattle.std.specs.Prelude.{option_and_then}
use Rattle.event_schema.specs.Rows.{field_number}
use Rattle.detection_eval.proofs.numbered_detections.number_reference.Goals as goal

pub returns-in-Some : goal.returns-in-Some
returns-in-Some c =
    c.look_up.ensures ∙ sym (ap (λ (named : Option (List ℕ)). option_and_then (field_number c.args.fields.now) named) c.in-Some.ensures)

pub returns-in-None : goal.returns-in-None
returns-in-None c = sym (ap (λ (named : Option (List ℕ)). option_and_then (field_number c.args.fields.now) named) c.in-None.ensures)
