use Rattle.std.proofs.Common.{◌∙◌, ap, to_z-of_z}
use Rattle.std.specs.Fmt.{signed_decimal}
use Rattle.std.proofs.lemmas.Str.{chars-IsAscii}
use Rattle.event_schema.proofs.value.decimal_in.Goals as goal

pub returns : goal.returns
returns c = chars-IsAscii _ c.format.ensures.ascii ∙ (c.format.ensures.text ∙ ap signed_decimal (to_z-of_z c.ranges.number))
