-- Bytes have exactly one verdict.
use Rattle.std.proofs.Common.{ℕ, ◌≡◌, refl, sym, ◌∙◌, List, subst, ◌⊎◌, inl, inr}
use Rattle.event_schema.specs.declared.schema.Schema.{Schema}
use Rattle.query_tokens.specs.Places.{At, CodeAt, code_at, IsText, IsBadAt}
use Rattle.query_tokens.proofs.Bytes.{text_or_bad, one_text, one_bad, not_both}
use Rattle.lucene_lang.specs.Query.{Group}
use Rattle.lucene_lang.specs.Reading.{ReadsWithin, Refuses, BytesRead, BytesRefused, no_text, no_query}
use Rattle.lucene_lang.proofs.Judged.{has_verdict_of, not_both_of, one_refusal_of}

module _ (limit : ℕ) (schema : Schema) (bytes : List ℕ) where
  abbrev Told : Type 0
  Told = ((g : Group) × BytesRead limit schema bytes g) ⊎ ((f : CodeAt) × BytesRefused limit schema bytes f)

  of_text : (cs : List ℕ) → IsText bytes cs → ((g : Group) × ReadsWithin limit schema cs g) ⊎ ((f : CodeAt) × Refuses limit schema cs f) → Told
  of_text cs text (inl read) = inl (read.0, record { characters = cs; text = text; reads = read.1 })
  of_text cs text (inr refused) = inr (refused.0, no_query cs text refused.1)

  of_bytes : ((cs : List ℕ) × IsText bytes cs) ⊎ ((place : At) × IsBadAt bytes place) → Told
  of_bytes (inl text) = of_text text.0 text.1 (has_verdict_of limit schema text.0)
  of_bytes (inr bad) = inr (code_at 1 bad.0, no_text bad.0 bad.1 refl)

  pub bytes_told : Told
  bytes_told = of_bytes (text_or_bad bytes)

  pub bytes_not_both : (g : Group) (f : CodeAt) → BytesRead limit schema bytes g → BytesRefused limit schema bytes f → ⊥
  bytes_not_both g f r (no_text place bad is) = not_both bytes r.characters place r.text bad
  bytes_not_both g f r (no_query cs text refused) =
      let same : cs ≡ r.characters = one_text bytes cs r.characters text r.text in
      not_both_of limit schema r.characters g f r.reads (subst (λ (ds : List ℕ). Refuses limit schema ds f) same refused)

  pub bytes_one_refusal : (f g : CodeAt) → BytesRefused limit schema bytes f → BytesRefused limit schema bytes g → f ≡ g
  bytes_one_refusal f g (no_text p bad is) (no_text q worse same) = is ∙ (ap_fault (one_bad bytes p q bad worse) ∙ sym same) where
    ap_fault : p ≡ q → code_at 1 p ≡ code_at 1 q
    ap_fault e = rw e refl
  bytes_one_refusal f g (no_text p bad is) (no_query cs text refused) = absurd (not_both bytes cs p text bad)
  bytes_one_refusal f g (no_query cs text refused) (no_text q bad same) = absurd (not_both bytes cs q text bad)
  bytes_one_refusal f g (no_query cs text refused) (no_query ds other again) =
      let same : ds ≡ cs = one_text bytes ds cs other text in
      one_refusal_of limit schema cs f g refused (subst (λ (es : List ℕ). Refuses limit schema es g) same again)
