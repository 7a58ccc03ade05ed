-- What a query language answers.
use Rattle.std.specs.Prelude.{ℕ, ◌≡◌, ◌↔◌, Bool, true, false, List, [], ◌++◌, Result, Ok, Err}
use Rattle.sig_base.specs.declared.refusal.Fault.{Fault}
use Rattle.sig_base.specs.declared.refusal.Fault.TheVariants.{Memory, Refused}
use Rattle.sig_base.specs.declared.refusal.Refusal.{Refusal}
use Rattle.event_schema.specs.Lists.{SomeOf}
use Rattle.query_lang.specs.RefusedPlaces.{PatternAt, is_of_pattern, IsAmong, IsCause, AreOfPatterns, AreRefused}
use Rattle.query_tokens.specs.Places.{At, CodeAt}

abbrev pub place_of : Refusal → At
place_of r = record { line = r.place.line; column = r.place.column }

-- A refusal is the first one, for a list of places refused for their regular expressions. What the builder refused in this call are
-- regular expressions of the bytes. With 47 or 48 it refused the expression at its place; with any other code the bytes are no query
-- within the limits.
pub record IsFirst {Query : Type 0} (is_query is_within : Query → Type 0) (refuses : List CodeAt → Refusal → Type 0)
    (patterns : List PatternAt) (gained : List (List ℕ)) (r : Refusal) : Type 0 where
  pub own : AreOfPatterns patterns gained
  pub places : List CodeAt
  pub are : AreRefused patterns gained places
  pub first : refuses places r
  pub built : is_of_pattern r.code ≡ true
      → SomeOf (λ p. (p.place ≡ place_of r) × IsAmong p.pattern gained × IsCause gained p.pattern r.code) patterns
  pub unread : is_of_pattern r.code ≡ false → (q : Query) → is_query q → is_within q → ⊥

-- What is read is a query within the limits, for which the builder refused nothing, and of which nothing is refused for such a list either.
pub record IsRead {Query : Type 0} (is_query is_within : Query → Type 0) (refuses : List CodeAt → Refusal → Type 0)
    (patterns : List PatternAt) (gained : List (List ℕ)) (q : Query) : Type 0 where
  pub query : is_query q
  pub within : is_within q
  pub built : gained ≡ []
  pub places : List CodeAt
  pub are : AreRefused patterns gained places
  pub unrefused : (r : Refusal) → refuses places r → ⊥

-- what is answered, with the texts that the builder refused in this call: none where memory is missing
abbrev pub IsAnswer : {Query : Type 0} → (is_query is_within : Query → Type 0) → (List CodeAt → Refusal → Type 0)
    → List PatternAt → List (List ℕ) → Result Query Fault → Type 0
IsAnswer is_query is_within refuses patterns gained (Ok q) = IsRead is_query is_within refuses patterns gained q
IsAnswer is_query is_within refuses patterns gained (Err Memory) = gained ≡ []
IsAnswer is_query is_within refuses patterns gained (Err (Refused r)) = IsFirst is_query is_within refuses patterns gained r

-- with what the builder's list of refused texts gained
pub record ReadAnswers {Query : Type 0} (is_query is_within : Query → Type 0) (refuses : List CodeAt → Refusal → Type 0)
    (patterns : List PatternAt) (before after : List (List ℕ)) (result : Result Query Fault) : Type 0 where
  pub gained : List (List ℕ)
  pub follows : after ≡ before ++ gained
  pub answers : IsAnswer is_query is_within refuses patterns gained result

-- an event is selected exactly where the query picks it
abbrev pub SelectAnswers : Type 0 → Result Bool Fault → Type 0
SelectAnswers picks (Ok chosen) = (chosen ≡ true) ↔ picks
SelectAnswers picks (Err e) = e ≡ Memory
