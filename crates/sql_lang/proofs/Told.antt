-- Bytes have exactly one verdict.
use Rattle.std.proofs.Common.{ℕ, ◌≡◌, refl, sym, ◌∙◌, List, subst, ◌⊎◌, inl, inr}
use Rattle.event_schema.specs.declared.schema.Schema.{Schema}
use Rattle.query_tokens.specs.Places.{At, CodeAt, code_at, IsText, IsBadAt}
use Rattle.query_tokens.proofs.Bytes.{text_or_bad, one_text, one_bad, not_both}
use Rattle.sql_lang.specs.Expression.{Expr}
use Rattle.sql_lang.specs.Reading.{ReadsWithin, IsRefusedPlace, Refuses, BytesRead, BytesRefused, no_text, no_query}
use Rattle.sql_lang.proofs.Judged.{has_verdict_of, not_both_of, one_refusal_of}

module _ (limit : ℕ) (schema : Schema) (refused : List CodeAt) (bytes : List ℕ) where
  abbrev Told : Type 0
  Told = ((e : Expr) × BytesRead limit schema bytes e × ((f : CodeAt) → BytesRefused limit schema refused bytes f → ⊥)) ⊎ ((f : CodeAt) × BytesRefused limit schema refused bytes f)

  -- bytes that are a text are refused for what the text is
  unrefused : (cs : List ℕ) → IsText bytes cs → ((f : CodeAt) → Refuses limit schema refused cs f → ⊥) → (f : CodeAt) → BytesRefused limit schema refused bytes f → ⊥
  unrefused cs text none f (no_text place bad is) = not_both bytes cs place text bad
  unrefused cs text none f (no_query ds other why) =
      none f (subst (λ (es : List ℕ). Refuses limit schema refused es f) (one_text bytes ds cs other text) why)

  of_text : (cs : List ℕ) → IsText bytes cs
      → ((e : Expr) × ReadsWithin limit schema cs e × ((f : CodeAt) → Refuses limit schema refused cs f → ⊥)) ⊎ ((f : CodeAt) × Refuses limit schema refused cs f) → Told
  of_text cs text (inl read) = inl (read.0, record { characters = cs; text = text; reads = read.1 }, unrefused cs text read.2)
  of_text cs text (inr why) = inr (why.0, no_query cs text why.1)

  of_bytes : ((cs : List ℕ) × IsText bytes cs) ⊎ ((place : At) × IsBadAt bytes place) → Told
  of_bytes (inl text) = of_text text.0 text.1 (has_verdict_of limit schema refused text.0)
  of_bytes (inr bad) = inr (code_at 1 bad.0, no_text bad.0 bad.1 refl)

  pub bytes_told : Told
  bytes_told = of_bytes (text_or_bad bytes)

  pub bytes_not_both : (e : Expr) (f : CodeAt) → BytesRead limit schema bytes e → BytesRefused limit schema refused bytes f → IsRefusedPlace refused f
  bytes_not_both e f r (no_text place bad is) = absurd (not_both bytes r.characters place r.text bad)
  bytes_not_both e f r (no_query cs text why) =
      let same : cs ≡ r.characters = one_text bytes cs r.characters text r.text in
      not_both_of limit schema refused r.characters e f r.reads (subst (λ (ds : List ℕ). Refuses limit schema refused ds f) same why)

  pub bytes_one_refusal : (f g : CodeAt) → BytesRefused limit schema refused bytes f → BytesRefused limit schema refused bytes g → f ≡ g
  bytes_one_refusal f g (no_text p bad is) (no_text q worse same) = is ∙ (ap_fault (one_bad bytes p q bad worse) ∙ sym same) where
    ap_fault : p ≡ q → code_at 1 p ≡ code_at 1 q
    ap_fault e = rw e refl
  bytes_one_refusal f g (no_text p bad is) (no_query cs text why) = absurd (not_both bytes cs p text bad)
  bytes_one_refusal f g (no_query cs text why) (no_text q bad same) = absurd (not_both bytes cs q text bad)
  bytes_one_refusal f g (no_query cs text why) (no_query ds other again) =
      let same : ds ≡ cs = one_text bytes ds cs other text in
      one_refusal_of limit schema refused cs f g why (subst (λ (es : List ℕ). Refuses limit schema refused es g) same again)
