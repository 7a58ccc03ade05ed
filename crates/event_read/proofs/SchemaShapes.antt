-- What is answered of a JSON value as a schema, by its tests.
use Rattle.std.proofs.Common.{◌≡◌, ℕ, Bool, true, false, refl, sym, ap, ◌∙◌, subst, if◌then◌else◌, Some, Result, Ok, Err}
use Rattle.std.specs.Prelude.{◌&&◌}
use Rattle.std.proofs.lemmas.Bool.{and_from}
use Rattle.serde_json.specs.Data.{Data}
use Rattle.sig_base.specs.Judged.{refusal}
use Rattle.sig_base.specs.declared.limits.Limits.{Limits}
use Rattle.sig_base.specs.declared.refusal.Fault.{Fault}
use Rattle.sig_base.specs.declared.refusal.Fault.TheVariants.{Memory, Refused}
use Rattle.sig_base.specs.declared.refusal.Place.{Place}
use Rattle.event_read.specs.Answers.{Answers}
use Rattle.event_read.specs.SchemaOf.{is_schema, schema_in, are_allowed, counted, shaped}
use Rattle.event_schema.specs.declared.schema.Schema.{Schema}

-- want of memory is free
pub memory_anyway : (place : Place) (r : Result Schema ℕ) (e : Fault) → e ≡ Memory → Answers place r (Err e)
memory_anyway place (Ok schema) e is = subst (λ (f : Fault). Answers place (Ok schema) (Err f)) (sym is) tt
memory_anyway place (Err code) e is = subst (λ (f : Fault). Answers {X = Schema} place (Err code) (Err f)) (sym is) tt

module _ (place : Place) (limits : Limits) (d : Data) where
  abbrev judged : Bool → Result Schema Fault → Type 0
  judged b r = Answers place (if b then counted limits (schema_in d) else Err 21) r

  pub shape_lacks : (e : Fault) → is_schema d ≡ false → e ≡ Refused (refusal 21 place) → Answers place (shaped limits (Some d)) (Err e)
  shape_lacks e off is =
      subst (λ (b : Bool). judged b (Err e)) (sym (ap (λ (b : Bool). b && are_allowed (schema_in d)) off)) (subst (λ (f : Fault). judged false (Err f)) (sym is) refl)

  pub not_allowed : (schema : Schema) (e : Fault) → is_schema d ≡ true → schema ≡ schema_in d → are_allowed schema ≡ false → e ≡ Refused (refusal 21 place) → Answers place (shaped limits (Some d)) (Err e)
  not_allowed schema e on same off is =
      subst (λ (b : Bool). judged b (Err e)) (sym (ap (λ (b : Bool). b && are_allowed (schema_in d)) on ∙ (ap are_allowed (sym same) ∙ off)))
      (subst (λ (f : Fault). judged false (Err f)) (sym is) refl)

  pub shape_fits : (schema : Schema) (r : Result Schema Fault) → is_schema d ≡ true → schema ≡ schema_in d → are_allowed schema ≡ true → Answers place (counted limits schema) r → Answers place (shaped limits (Some d)) r
  shape_fits schema r on same allowed answers =
      subst (λ (b : Bool). judged b r) (sym (and_from (is_schema d) (are_allowed (schema_in d)) on (ap are_allowed (sym same) ∙ allowed)))
      (subst (λ (s : Schema). Answers place (counted limits s) r) same answers)
