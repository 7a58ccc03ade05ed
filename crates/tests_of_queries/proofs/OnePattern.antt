-- What the tests' small language answers: its bytes are one regular expression, or no text.
use Rattle.std.proofs.Common.{ℕ, ◌≡◌, ◌⊎◌, inl, inr, Bool, true, false, List, [], ◌∷◌, ◌++◌, refl, sym, ap, subst, ◌∙◌, append-nil, if◌then◌else◌, ℤ, Option, None}
use Rattle.std.specs.Prelude.{Result, Ok, Err, IfOk, ⊤, map, Some}
use Rattle.std.proofs.lemmas.Option.{none-some, same_Some}
use Rattle.std.proofs.lemmas.Str.{IsUtf8-from_is_utf8}
use Rattle.std.specs.Str.{is_utf8, IsUtf8}
use Rattle.event_schema.specs.declared.value.Value.{Value}
use Rattle.event_schema.specs.declared.value.Value.TheVariants as values
use Rattle.sig_base.specs.declared.refusal.Fault.{Fault}
use Rattle.sig_base.specs.declared.refusal.Fault.TheVariants as fault
use Rattle.sig_base.specs.declared.refusal.Place.{Place}
use Rattle.sig_base.specs.declared.refusal.Refusal.{Refusal}
use Rattle.sig_base.specs.Judged.{first, must, refusal}
use Rattle.query_tokens.specs.Places.{CodeAt, origin, code_at}
use Rattle.query_lang.specs.Answers.{ReadAnswers}
use Rattle.query_lang.specs.Built.{SearchAnswers}
use Rattle.query_lang.specs.Patterns.{is_pattern, finds}
use Rattle.query_lang.specs.RefusedPlaces.{IsCause, no_pattern, not_built, AreRefused}
use Rattle.query_lang.specs.declared.search.Search.{Search}

abbrev pub start : Place
start = record { line = 1; column = 1 }

not_true : false ≡ true → ⊥
not_true h = cc

not_false : true ≡ false → ⊥
not_false h = cc

pub not_utf8 : (bytes : List ℕ) → (IsUtf8 bytes → ⊥) → is_utf8 bytes ≡ false
not_utf8 bytes none = by (is_utf8 bytes) refl where
  by : (b : Bool) → is_utf8 bytes ≡ b → is_utf8 bytes ≡ false
  by true e = absurd (none (IsUtf8-from_is_utf8 bytes e))
  by false e = e

-- whether a value is a text that is found
pub found_or_not : (pattern : List ℕ) (v : Option Value)
    → ((text : List ℕ) × (v ≡ Some (values.Text text)) × (finds pattern text ≡ true)) ⊎ (((text : List ℕ) × (v ≡ Some (values.Text text)) × (finds pattern text ≡ true)) → ⊥)
found_or_not pattern None = inr (λ h. none-some _ h.1)
found_or_not pattern (Some (values.Whole n)) = inr (λ h. not_text n h.0 (same_Some _ _ h.1))
  where
    not_text : (n : ℤ) (text : List ℕ) → values.Whole n ≡ values.Text text → ⊥
    not_text n text h = cc
found_or_not pattern (Some (values.Text text)) = by (finds pattern text) refl
  where
    same_text : (a b : List ℕ) → values.Text a ≡ values.Text b → a ≡ b
    same_text a b h = cc

    by : (b : Bool) → finds pattern text ≡ b
        → ((other : List ℕ) × (Some (values.Text text) ≡ Some (values.Text other)) × (finds pattern other ≡ true)) ⊎ (((other : List ℕ) × (Some (values.Text text) ≡ Some (values.Text other)) × (finds pattern other ≡ true)) → ⊥)
    by true e = inl (text, refl, e)
    by false e = inr (λ h. not_true (sym e ∙ ap (finds pattern) (same_text text h.0 (same_Some _ _ h.1)) ∙ h.2))

-- for each list of places, the bytes are a query or refused
pub decided : (utf8 : Bool) (places : List CodeAt)
    → ((utf8 ≡ true) × ((r : Refusal) → first (must 1 start utf8 ∷ map (λ p. Some (refusal p.code start)) places) ≡ Some r → ⊥))
    ⊎ ((r : Refusal) × (first (must 1 start utf8 ∷ map (λ p. Some (refusal p.code start)) places) ≡ Some r))
decided false places = inr (refusal 1 start, refl)
decided true [] = inl (refl, λ r none. none-some r none)
decided true (p ∷ places) = inr (refusal p.code start, refl)

module _ (text : List ℕ) (old new : List (List ℕ)) where
  -- the answers to bytes that are this text, if they are one
  abbrev pub Small : Bool → Result Search Fault → Type 0
  Small utf8 result = ReadAnswers {Query = Search} (λ s. (utf8 ≡ true) × (s.text ≡ text)) (λ s. ⊤)
      (λ places r. first (must 1 start utf8 ∷ map (λ p. Some (refusal p.code start)) places) ≡ Some r)
      (if utf8 then record { place = origin; pattern = text } ∷ [] else []) old new result

  one : (code : ℕ) → IsCause (text ∷ []) text code → AreRefused (record { place = origin; pattern = text } ∷ []) (text ∷ []) (code_at code origin ∷ [])
  one code cause = record { caused = (inl (refl, cause), tt); all = (λ none. inl refl, tt) }

  told : (r : Refusal) → new ≡ old ++ text ∷ [] → ((r ≡ refusal 47 start) × (is_pattern text ≡ false)) ⊎ (r ≡ refusal 48 start) → Small true (Err (fault.Refused r))
  told r more (inl (is, none)) = subst (λ x. Small true (Err (fault.Refused x))) (sym is) (record {
    gained = text ∷ [];
    follows = more;
    answers = record {
      own = (inl refl, tt);
      places = code_at 47 origin ∷ [];
      are = one 47 (no_pattern refl none);
      first = refl;
      built = λ of. inl (refl, inl refl, no_pattern refl none);
      unread = λ other. absurd (not_false other);
    };
  })
  told r more (inr is) = subst (λ x. Small true (Err (fault.Refused x))) (sym is) (record {
    gained = text ∷ [];
    follows = more;
    answers = record {
      own = (inl refl, tt);
      places = code_at 48 origin ∷ [];
      are = one 48 (not_built refl (inl refl));
      first = refl;
      built = λ of. inl (refl, inl refl, not_built refl (inl refl));
      unread = λ other. absurd (not_false other);
    };
  })

  none_refused : is_pattern text ≡ true → AreRefused (record { place = origin; pattern = text } ∷ []) [] []
  none_refused pattern = record { caused = tt; all = ((λ none. absurd (not_true (sym none ∙ pattern))), tt) }

  answered : (result : Result Search Fault) → IfOk result (λ s. s.text ≡ text) → IfOk result (λ s. is_pattern s.text ≡ true)
      → SearchAnswers old new text start result → Small true result
  answered (Ok s) is pattern same = record {
    gained = [];
    follows = same ∙ sym (append-nil old);
    answers = record {
      query = (refl, is);
      within = tt;
      built = refl;
      places = [];
      are = none_refused (subst (λ t. is_pattern t ≡ true) is pattern);
      unrefused = λ r none. none-some r none;
    };
  }
  answered (Err fault.Memory) is pattern same = record { gained = []; follows = same ∙ sym (append-nil old); answers = refl }
  answered (Err (fault.Refused r)) is pattern (more, cause) = told r more cause

  pub read_text : (utf8 : Bool) → utf8 ≡ true → (result : Result Search Fault) → IfOk result (λ s. s.text ≡ text) → IfOk result (λ s. is_pattern s.text ≡ true)
      → SearchAnswers old new text start result → Small utf8 result
  read_text utf8 yes_utf8 result is pattern answers = subst (λ b. Small b result) (sym yes_utf8) (answered result is pattern answers)

  pub read_nothing : (utf8 : Bool) → utf8 ≡ false → new ≡ old → Small utf8 (Err (fault.Refused (refusal 1 start)))
  read_nothing utf8 none same = subst (λ b. Small b (Err (fault.Refused (refusal 1 start)))) (sym none) (record {
    gained = [];
    follows = same ∙ sym (append-nil old);
    answers = record {
      own = tt;
      places = [];
      are = record { caused = tt; all = tt };
      first = refl;
      built = λ of. absurd (not_true of);
      unread = λ of q query within. absurd (not_true query.0);
    };
  })
