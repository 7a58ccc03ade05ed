-- What reading a file as the query that is asked answers.
use Rattle.std.specs.Prelude.{ℕ, ◌≡◌, true, List, [], ◌++◌, Result, Ok, Err}
use Rattle.event_schema.specs.Lists.{SomeOf}
use Rattle.query_lang.specs.Answers.{place_of}
use Rattle.query_lang.specs.RefusedPlaces.{PatternAt, is_of_pattern, IsAmong, IsCause, AreOfPatterns, AreRefused}
use Rattle.sig_base.specs.declared.refusal.Fault.{Fault}
use Rattle.sig_base.specs.declared.refusal.Fault.TheVariants.{Memory, Refused}
use Rattle.sig_base.specs.declared.refusal.Refusal.{Refusal}
use Rattle.query_tokens.specs.Places.{CodeAt}

-- It's so for places that are refused with their causes, where the builder refused these texts in this call.
abbrev pub AtPlaces : List PatternAt → List (List ℕ) → (List CodeAt → Type 0) → Type 0
AtPlaces patterns gained IsSo = (places : List CodeAt) × AreRefused patterns gained places × IsSo places

-- A query that is asked is answered, for which the builder refused nothing; or a cause for which the file is asked as none, with 47 or 48 only
-- where the builder refused the regular expression at its place in this call. Where memory is missing, it refused nothing.
abbrev pub AskAnswer : {Query : Type 0} → (List CodeAt → Query → Type 0) → (List CodeAt → Refusal → Type 0) → List PatternAt → List (List ℕ) → Result Query Fault → Type 0
AskAnswer IsAsked IsNotAsked patterns gained (Ok q) = AtPlaces patterns gained (λ places. IsAsked places q) × (gained ≡ [])
AskAnswer IsAsked IsNotAsked patterns gained (Err (Refused r)) = AtPlaces patterns gained (λ places. IsNotAsked places r)
    × (is_of_pattern r.code ≡ true → SomeOf (λ p. (p.place ≡ place_of r) × IsAmong p.pattern gained × IsCause gained p.pattern r.code) patterns)
AskAnswer IsAsked IsNotAsked patterns gained (Err Memory) = gained ≡ []

-- with what the builder's list of refused texts gained: regular expressions of the bytes
pub record AskAnswers {Query : Type 0} (IsAsked : List CodeAt → Query → Type 0) (IsNotAsked : List CodeAt → Refusal → Type 0) (patterns : List PatternAt)
    (before after : List (List ℕ)) (result : Result Query Fault) : Type 0 where
  pub gained : List (List ℕ)
  pub follows : after ≡ before ++ gained
  pub own : AreOfPatterns patterns gained
  pub answer : AskAnswer IsAsked IsNotAsked patterns gained result
