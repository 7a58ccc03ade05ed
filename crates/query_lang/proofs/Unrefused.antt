-- Where nothing is refused for its regular expression.
use Rattle.std.proofs.Common.{ℕ, ◌≡◌, inl, inr, Bool, true, false, List, [], ◌∷◌, ◌++◌, refl, sym, subst, ◌∙◌, Err, append-nil}
use Rattle.std.proofs.lemmas.List.{append_cancel_left}
use Rattle.sig_base.specs.declared.refusal.Fault.TheVariants as fault
use Rattle.sig_base.specs.declared.refusal.Refusal.{Refusal}
use Rattle.event_schema.specs.Lists.{SomeOf}
use Rattle.query_tokens.specs.Places.{CodeAt}
use Rattle.query_lang.specs.Answers.{ReadAnswers, place_of}
use Rattle.query_lang.specs.RefusedPlaces.{PatternAt, is_of_pattern, IsAmong, IsCause, AreRefused}

pub without_patterns : (refused : List (List ℕ)) (places : List CodeAt) → AreRefused [] refused places → places ≡ []
without_patterns refused [] h = refl
without_patterns refused (r ∷ places) h = absurd h.caused.0

nothing_more : {A : Type 0} (xs ys : List A) → xs ≡ xs ++ ys → ys ≡ []
nothing_more xs ys same = append_cancel_left xs ys [] (sym same ∙ sym (append-nil xs))

none_built : (r : Refusal) (patterns : List PatternAt)
    → SomeOf (λ p. (p.place ≡ place_of r) × IsAmong p.pattern [] × IsCause [] p.pattern r.code) patterns → ⊥
none_built r [] h = h
none_built r (p ∷ patterns) (inl h) = h.1
none_built r (p ∷ patterns) (inr h) = none_built r patterns h

pub without_refusals : (Query : Type 0) (is_query is_within : Query → Type 0) (refuses : List CodeAt → Refusal → Type 0) (patterns : List PatternAt)
    (refused : List (List ℕ)) (r : Refusal)
    → ReadAnswers is_query is_within refuses patterns refused refused (Err (fault.Refused r)) → is_of_pattern r.code ≡ false
without_refusals Query is_query is_within refuses patterns refused r h = by (is_of_pattern r.code) refl where
  by : (b : Bool) → is_of_pattern r.code ≡ b → is_of_pattern r.code ≡ false
  by true e = absurd (none_built r patterns (subst (λ gained. SomeOf (λ p. (p.place ≡ place_of r) × IsAmong p.pattern gained × IsCause gained p.pattern r.code) patterns)
      (nothing_more refused h.gained h.follows) (h.answers.built e)))
  by false e = e
