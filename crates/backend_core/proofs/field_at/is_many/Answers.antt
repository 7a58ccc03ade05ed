use Rattle.std.proofs.Common.{refl, false}
use Rattle.event_schema.specs.declared.schema.Field.{Field}
use Rattle.backend_core.proofs.FieldLemmas.{told_within, told_past}
use Rattle.backend_core.specs.FieldAt.{is_many}
use Rattle.backend_core.proofs.field_at.is_many.Goals as goal

pub returns-in-Some : goal.returns-in-Some
returns-in-Some c =
    let h = c.in-Some.ensures.lookup in
    told_within (λ (f : Field). f.many) false is_many (λ f fields. refl) (λ f fields k. refl) (λ k. refl) c.args.fields.now c.args.number c.in-Some.field.now h.3.0 h.1

pub returns-in-None : goal.returns-in-None
returns-in-None c =
    let h = c.in-None.ensures.lookup in
    told_past (λ (f : Field). f.many) false is_many (λ f fields. refl) (λ f fields k. refl) (λ k. refl) c.args.fields.now c.args.number h.3
