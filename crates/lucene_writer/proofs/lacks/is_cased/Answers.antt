use Rattle.std.proofs.Common.{false, refl}
use Rattle.event_schema.specs.declared.schema.Field.{Field}
use Rattle.lucene_writer.specs.Lacking.{is_cased}
use Rattle.backend_core.proofs.FieldLemmas.{told_within, told_past}
use Rattle.lucene_writer.proofs.lacks.is_cased.Goals as goal

pub returns-in-Some : goal.returns-in-Some
returns-in-Some c =
    told_within (λ (f : Field). f.cased) false is_cased (λ f fields. refl) (λ f fields k. refl) (λ k. refl)
    c.args.fields.now c.args.number c.in-Some.field.now c.in-Some.ensures.lookup.3.0 c.in-Some.ensures.lookup.1

pub returns-in-None : goal.returns-in-None
returns-in-None c =
    told_past (λ (f : Field). f.cased) false is_cased (λ f fields. refl) (λ f fields k. refl) (λ k. refl) c.args.fields.now c.args.number c.in-None.ensures.lookup.3
