use Rattle.std.proofs.Common.{◌≡◌, ap, sym, ◌∙◌, rules}
use Rattle.std.specs.Fmt.{signed_decimal}
use Rattle.std.specs.Str.{chars}
use Rattle.event_schema.specs.Rows.{value_text}
use Rattle.rule_detections.proofs.Inside.{of_text}
use Rattle.rule_detections.proofs.test_truth.is_inside.Goals as goal

pub returns-in-Text : goal.returns-in-Text
returns-in-Text c =
    of_text c.holds.result c.args.network.now _ (value_text c.args.value.now) c.holds.ensures (ap value_text c.in-Text.is ∙ sym c.as_str.ensures.chars)

pub returns-in-Whole : goal.returns-in-Whole
returns-in-Whole c =
    let same : signed_decimal c.in-Whole.number ≡ chars c.decimal_in.result.now = search rules in
    of_text c.holds-in-Whole.result c.args.network.now _ (value_text c.args.value.now) c.holds-in-Whole.ensures (ap value_text c.in-Whole.is ∙ same)
