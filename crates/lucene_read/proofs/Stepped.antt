-- Steps over tokens from the left: what is left to read decides as the whole.
use Rattle.std.proofs.Common.{ℕ, ◌≡◌, ◌+◌, ◌<◌, ◌≤◌, sym, ◌∙◌, ap, List, length, drop, get_or}
use Rattle.std.specs.Prelude.{Option, Some, None, Err}
use Rattle.std.proofs.lemmas.List.{drop_more}
use Rattle.std.proofs.Math.ListN.{drop_of_length-le}
use Rattle.event_schema.specs.declared.schema.Field.{Field}
use Rattle.query_tokens.specs.Places.{At, code_at}
use Rattle.lucene_scan.specs.declared.token.Token.{Token}
use Rattle.lucene_read.specs.declared.partial.State as code
use Rattle.lucene_read.specs.Steps.{State, begun, run, step, on_step, finish}
use Rattle.lucene_read.specs.View.{place_view, token_view, tokens_view, state_view, state_if}

abbrev pub Decides : List Field → At → List Token → State → ℕ → Type 0
Decides fields end ts s i = run fields s (tokens_view (drop i ts)) end ≡ run fields begun (tokens_view ts) end

module _ (fields : List Field) (end : At) (ts : List Token) (s : State) (i : ℕ) (t : Token) (decides : Decides fields end ts s i) (within : i < length ts) (is : t ≡ get_or ts i t) where
  next_is : on_step (step fields s (token_view t)) (λ u. run fields u (tokens_view (drop (i + 1) ts)) end) (place_view t.place) ≡ run fields begun (tokens_view ts) end
  next_is =
      ap (λ (u : Token). on_step (step fields s (token_view u)) (λ v. run fields v (tokens_view (drop (i + 1) ts)) end) (place_view u.place)) is
      ∙ (sym (ap (λ (us : List Token). run fields s (tokens_view us) end) (drop_more ts i t within)) ∙ decides)

  pub goes_on : (o : Option code.State) (u : code.State) → state_if o ≡ step fields s (token_view t) → o ≡ Some u → Decides fields end ts (state_view u) (i + 1)
  goes_on o u stepped some =
      ap (λ (p : Option State). on_step p (λ v. run fields v (tokens_view (drop (i + 1) ts)) end) (place_view t.place)) (sym (ap state_if some) ∙ stepped) ∙ next_is

  pub stops : (o : Option code.State) → state_if o ≡ step fields s (token_view t) → o ≡ None → run fields begun (tokens_view ts) end ≡ Err (code_at 130 (place_view t.place))
  stops o stepped none =
      sym (ap (λ (p : Option State). on_step p (λ v. run fields v (tokens_view (drop (i + 1) ts)) end) (place_view t.place)) (sym (ap state_if none) ∙ stepped) ∙ next_is)

pub ends : (fields : List Field) (end : At) (ts : List Token) (s : State) (i : ℕ) → Decides fields end ts s i → length ts ≤ i → finish s end ≡ run fields begun (tokens_view ts) end
ends fields end ts s i decides past = sym (ap (λ (us : List Token). run fields s (tokens_view us) end) (drop_of_length-le ts past)) ∙ decides
