use Rattle.std.proofs.Common.{refl}
use Rattle.event_schema.specs.declared.schema.Field.{Field}
use Rattle.event_schema.specs.declared.schema.FieldKind.TheVariants.{Text}
use Rattle.backend_core.proofs.FieldLemmas.{told_within, told_past}
use Rattle.backend_core.specs.FieldAt.{kind_at}
use Rattle.backend_core.proofs.field_at.kind_of.Goals as goal

pub returns-in-Some : goal.returns-in-Some
returns-in-Some c =
    let h = c.in-Some.ensures.lookup in
    told_within (λ (f : Field). f.kind) Text kind_at (λ f fields. refl) (λ f fields k. refl) (λ k. refl) c.args.fields.now c.args.number c.in-Some.field.now h.3.0 h.1

pub returns-in-None : goal.returns-in-None
returns-in-None c =
    let h = c.in-None.ensures.lookup in
    told_past (λ (f : Field). f.kind) Text kind_at (λ f fields. refl) (λ f fields k. refl) (λ k. refl) c.args.fields.now c.args.number h.3
