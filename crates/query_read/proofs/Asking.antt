-- What follows from a language's law for the files that are asked.
use Rattle.std.proofs.Common.{ℕ, ◌≡◌, ◌≤◌, ◌<◌, ◌+◌, ◌⊎◌, inl, inr, Bool, true, false, cond, List, [], ◌∷◌, ◌++◌, length, refl, sym, subst, ◌∙◌, arith, append-nil}
use Rattle.std.proofs.lemmas.Bool.{cases_lt}
use Rattle.std.specs.Prelude.{Result, Ok, Err}
use Rattle.event_schema.specs.Lists.{EachOf, SomeOf}
use Rattle.event_schema.specs.declared.schema.Schema.{Schema}
use Rattle.query_lang.specs.Answers.{ReadAnswers, place_of}
use Rattle.query_lang.specs.Patterns.{is_pattern}
use Rattle.query_lang.specs.RefusedPlaces.{PatternAt, is_of_pattern, IsAmong, IsCause, no_pattern, AreOfPatterns, AreRefused}
use Rattle.query_read.specs.Answers.{AskAnswers}
use Rattle.query_read.specs.Asked.{IsAsked, IsNotAsked, too_large, unread, most_bytes}
use Rattle.sig_base.specs.Files.{file_start}
use Rattle.query_read.specs.Laws.{SomePlaces, EachAsked, NeverBoth, OneQuery, OneCause}
use Rattle.sig_base.specs.Judged.{refusal}
use Rattle.sig_base.specs.declared.limits.Limits.{Limits}
use Rattle.sig_base.specs.declared.refusal.Fault.{Fault}
use Rattle.sig_base.specs.declared.refusal.Fault.TheVariants.{Memory, Refused}
use Rattle.sig_base.specs.declared.refusal.Refusal.{Refusal}
use Rattle.query_tokens.specs.Places.{CodeAt, code_at}

-- ---- the places of texts that are no patterns are refused, if no others

not_both : true ≡ false → ⊥
not_both h = cc

each_so : {A : Type 0} {P Q : A → Type 0} → ((x : A) → P x → Q x) → (xs : List A) → EachOf P xs → EachOf Q xs
each_so f [] all = tt
each_so f (x ∷ xs) all = (f x all.0, each_so f xs all.1)

abbrev places_in : List PatternAt → List CodeAt
places_in [] = []
places_in (p ∷ ps) = cond (is_pattern p.pattern) (places_in ps) (code_at 47 p.place ∷ places_in ps)

abbrev IsCaused : List (List ℕ) → List PatternAt → CodeAt → Type 0
IsCaused gained ps r = SomeOf (λ p. (p.place ≡ r.place) × IsCause gained p.pattern r.code) ps

abbrev IsTold : List CodeAt → PatternAt → Type 0
IsTold rs p = is_pattern p.pattern ≡ false → SomeOf (λ r. r.place ≡ p.place) rs

each_caused : (gained : List (List ℕ)) (ps : List PatternAt) → EachOf (IsCaused gained ps) (places_in ps)
each_caused gained [] = tt
each_caused gained (p ∷ ps) = by (is_pattern p.pattern) refl (each_so (λ r caused. inr caused) (places_in ps) (each_caused gained ps)) where
  by : (b : Bool) → is_pattern p.pattern ≡ b → EachOf (IsCaused gained (p ∷ ps)) (places_in ps)
      → EachOf (IsCaused gained (p ∷ ps)) (cond b (places_in ps) (code_at 47 p.place ∷ places_in ps))
  by true e rest = rest
  by false e rest = (inl (refl, no_pattern refl e), rest)

each_told : (ps : List PatternAt) → EachOf (IsTold (places_in ps)) ps
each_told [] = tt
each_told (p ∷ ps) = by (is_pattern p.pattern) refl (each_told ps) where
  by : (b : Bool) → is_pattern p.pattern ≡ b → EachOf (IsTold (places_in ps)) ps
      → EachOf (IsTold (cond b (places_in ps) (code_at 47 p.place ∷ places_in ps))) (p ∷ ps)
  by true e rest = ((λ none. absurd (not_both (sym e ∙ none))), rest)
  by false e rest = ((λ none. inl refl), each_so (λ q told none. inr (told none)) ps rest)

pub some_places : SomePlaces
some_places patterns gained = (places_in patterns, record { caused = each_caused gained patterns; all = each_told patterns })

-- ---- by a language's law

module _ {Query : Type 0} (is_query : Schema → List ℕ → Query → Type 0) (is_within : Limits → Schema → List ℕ → Query → Type 0)
    (refuses : Limits → Schema → List ℕ → List CodeAt → Refusal → Type 0) where
  pub each_asked : ((limits : Limits) (schema : Schema) (bytes : List ℕ) (places : List CodeAt) → length bytes ≤ limits.query_bytes + 1
      → ((q : Query) × is_query schema bytes q × is_within limits schema bytes q × ((r : Refusal) → refuses limits schema bytes places r → ⊥))
      ⊎ ((r : Refusal) × refuses limits schema bytes places r)) → EachAsked is_query is_within refuses
  each_asked decided limits schema places bytes = elim (cases_lt (limits.query_bytes + 1) (length bytes)) [
    | inl large ↦ inr (refusal 2 file_start, too_large large refl)
    | inr small ↦ short (omega (arith, small))
  ]
    where
      short : length bytes ≤ limits.query_bytes + 1
          → ((q : Query) × IsAsked is_query is_within refuses limits schema places bytes q) ⊎ ((r : Refusal) × IsNotAsked is_query is_within refuses limits schema places bytes r)
      short few = elim (decided limits schema bytes places few) [
        | inl h ↦ inl (h.0, record { short = few; reads = h.1; within = h.2; unrefused = h.3 })
        | inr h ↦ inr (h.0, unread few h.1)
      ]

  pub never_both : NeverBoth is_query is_within refuses
  never_both limits schema places bytes q r asked (too_large large is) = let few = asked.short in absurd (omega (arith, large, few))
  never_both limits schema places bytes q r asked (unread few is) = asked.unrefused r is

  pub one_cause : ((limits : Limits) (schema : Schema) (bytes : List ℕ) (places : List CodeAt) (r s : Refusal)
      → refuses limits schema bytes places r → refuses limits schema bytes places s → r ≡ s) → OneCause is_query is_within refuses
  one_cause one limits schema places bytes r s (too_large large is) (too_large large_too is_too) = is ∙ sym is_too
  one_cause one limits schema places bytes r s (too_large large is) (unread few is_too) = absurd (omega (arith, large, few))
  one_cause one limits schema places bytes r s (unread few is) (too_large large is_too) = absurd (omega (arith, large, few))
  one_cause one limits schema places bytes r s (unread few is) (unread few_too is_too) = one limits schema bytes places r s is is_too

-- ---- what reading answers

module _ {Query Plain : Type 0} (plain : Query → Plain) (is_query : Schema → List ℕ → Plain → Type 0) (is_within : Limits → Schema → List ℕ → Plain → Type 0)
    (refuses : Limits → Schema → List ℕ → List CodeAt → Refusal → Type 0) (limits : Limits) (schema : Schema) (bytes : List ℕ) (patterns : List PatternAt)
    (before after : List (List ℕ)) where
  abbrev pub Asks : Result Query Fault → Type 0
  Asks result = AskAnswers (λ places q. IsAsked is_query is_within refuses limits schema places bytes (plain q))
      (λ places r. IsNotAsked is_query is_within refuses limits schema places bytes r) patterns before after result

  pub too_many : limits.query_bytes + 1 < length bytes → after ≡ before → Asks (Err (Refused (refusal 2 file_start)))
  too_many large same = record {
    gained = [];
    follows = same ∙ sym (append-nil before);
    own = tt;
    answer = ((let some = some_places patterns [] in (some.0, some.1, too_large large refl)), (λ of. absurd (not_both (sym of))));
  }

  none_gained : {gained : List (List ℕ)} → gained ≡ [] → AreOfPatterns patterns gained
  none_gained none = subst (AreOfPatterns patterns) (sym none) tt

  pub asks : length bytes ≤ limits.query_bytes + 1 → (result : Result Query Fault)
      → ReadAnswers (λ q. is_query schema bytes (plain q)) (λ q. is_within limits schema bytes (plain q)) (refuses limits schema bytes) patterns before after result → Asks result
  asks few (Ok q) read = let a = read.answers in record {
    gained = read.gained;
    follows = read.follows;
    own = none_gained a.built;
    answer = ((a.places, a.are, record { short = few; reads = a.query; within = a.within; unrefused = a.unrefused }), a.built);
  }
  asks few (Err Memory) read = record { gained = read.gained; follows = read.follows; own = none_gained read.answers; answer = read.answers }
  asks few (Err (Refused r)) read = let a = read.answers in record {
    gained = read.gained;
    follows = read.follows;
    own = a.own;
    answer = ((a.places, a.are, unread few a.first), a.built);
  }
