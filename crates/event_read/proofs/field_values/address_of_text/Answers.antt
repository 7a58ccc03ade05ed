use Rattle.std.proofs.Common.{◌≡◌, sym, ap, ◌∙◌, true}
use Rattle.std.specs.Str.{chars}
use Rattle.event_read.proofs.PlainTexts.{address_kind}
use Rattle.event_read.proofs.QuadLemmas.{address_is}
use Rattle.event_read.specs.Quads as quads
use Rattle.event_read.proofs.field_values.address_of_text.Goals as goal

pub returns-clause-kind : goal.returns-clause-kind
returns-clause-kind c =
    let is : quads.is_address c.args.text.now ≡ true = sym (ap quads.is_address c.as_bytes.ensures.value) ∙ (sym c.is_address.ensures ∙ c.if-not-is_address.false) in
    address_kind c.args.place (chars c.args.text.now) c.as_text.result c.as_text.ensures.taken c.as_text.ensures.kind (address_is c.args.text.now c.utf8.text is)
