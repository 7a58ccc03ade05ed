use Rattle.std.proofs.Common.{◌≡◌, sym, ap, ◌∙◌, true, false}
use Rattle.std.specs.Str.{chars}
use Rattle.event_read.proofs.Nuls.{has_zero, nul_there, nul_absent}
use Rattle.event_read.proofs.Takings.{text_refused, text_taken}
use Rattle.std.proofs.Common.{subst}
use Rattle.std.proofs.lemmas.Str.{scalars-chars}
use Rattle.event_schema.specs.Events.{IsPlainText}
use Rattle.event_read.proofs.field_values.as_text.Goals as goal

pub returns-then-contains-clause-taken : goal.returns-then-contains-clause-taken
returns-then-contains-clause-taken c =
    let zero : has_zero c.args.text.now ≡ true = sym (ap has_zero c.as_bytes.ensures.value) ∙ (sym c.contains.ensures.value ∙ c.if-contains.true) in
    text_refused c.args.place (chars c.args.text.now) c.refused.result (nul_there c.args.text.now c.utf8.text zero) c.refused.ensures

pub returns-clause-taken : goal.returns-clause-taken
returns-clause-taken c =
    let none : has_zero c.args.text.now ≡ false = sym (ap has_zero c.as_bytes.ensures.value) ∙ (sym c.contains.ensures.value ∙ c.if-contains.false) in
    text_taken c.args.place (chars c.args.text.now) c.in_ok-copy.field-0 (nul_absent c.args.text.now c.utf8.text none) c.in_ok-copy.ensures.ok

pub returns-clause-kind : goal.returns-clause-kind
returns-clause-kind c =
    let none : has_zero c.args.text.now ≡ false = sym (ap has_zero c.as_bytes.ensures.value) ∙ (sym c.contains.ensures.value ∙ c.if-contains.false) in
    subst IsPlainText (sym c.in_ok-copy.ensures.ok) (scalars-chars c.args.text.now c.utf8.text, nul_absent c.args.text.now c.utf8.text none)
