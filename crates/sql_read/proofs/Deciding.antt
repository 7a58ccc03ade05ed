-- What bytes are, as the language says it.
use Rattle.std.proofs.Common.{ℕ, ◌≡◌, ◌⊎◌, inl, inr, refl, sym, ◌∙◌, ap, List}
use Rattle.event_schema.specs.declared.schema.Schema.{Schema}
use Rattle.sig_base.specs.declared.limits.Limits.{Limits}
use Rattle.sig_base.specs.declared.refusal.Detail.TheVariants as details
use Rattle.sig_base.specs.declared.refusal.Refusal.{Refusal}
use Rattle.query_tokens.specs.Places.{CodeAt}
use Rattle.query_lang.specs.Answers.{place_of}
use Rattle.sql_lang.specs.Expression.{Expr}
use Rattle.sql_lang.specs.Meaning.{Truth, Yes, No, Unknown}
use Rattle.sql_lang.specs.Reading.{Reads, BytesRead, BytesRefused}
use Rattle.sql_read.specs.Answers.{IsRefused}

pub as_query : (limit : ℕ) (schema : Schema) (bytes : List ℕ) (e : Expr) → BytesRead limit schema bytes e → Reads schema bytes e
as_query limit schema bytes e h = record { characters = h.characters; scalars = h.text.scalars; encoded = h.text.encoded; reads = h.reads.reads }

abbrev pub as_refusal : CodeAt → Refusal
as_refusal f = record { code = f.code; place = record { line = f.place.line; column = f.place.column }; detail = details.None }

is_plain : (r : Refusal) → r.detail ≡ details.None → r ≡ as_refusal (record { code = r.code; place = place_of r })
is_plain r same = ap (λ d. record { code = r.code; place = r.place; detail = d }) same

pub same_refusal : (limits : Limits) (schema : Schema) (bytes : List ℕ) (places : List CodeAt) (r s : Refusal)
    → ((f g : CodeAt) → BytesRefused limits.sql_depth schema places bytes f → BytesRefused limits.sql_depth schema places bytes g → f ≡ g)
    → IsRefused limits schema bytes places r → IsRefused limits schema bytes places s → r ≡ s
same_refusal limits schema bytes places r s one h k = is_plain r h.plain ∙ (ap as_refusal (one _ _ h.first k.first) ∙ sym (is_plain s k.plain))

pub yes_or_not : (t : Truth) → (t ≡ Yes) ⊎ (t ≡ Yes → ⊥)
yes_or_not Yes = inl refl
yes_or_not No = inr (λ h. no_yes h)
  where
    no_yes : No ≡ Yes → ⊥
    no_yes h = cc
yes_or_not Unknown = inr (λ h. no_yes h)
  where
    no_yes : Unknown ≡ Yes → ⊥
    no_yes h = cc
