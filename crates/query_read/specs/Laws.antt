-- Laws of what files are asked as, in a language of these meanings.
use Rattle.std.specs.Prelude.{ℕ, ◌≡◌, ◌⊎◌, List}
use Rattle.event_schema.specs.declared.schema.Schema.{Schema}
use Rattle.query_lang.specs.RefusedPlaces.{PatternAt, AreRefused}
use Rattle.query_read.specs.Asked.{IsAsked, IsNotAsked}
use Rattle.sig_base.specs.declared.limits.Limits.{Limits}
use Rattle.sig_base.specs.declared.refusal.Refusal.{Refusal}
use Rattle.query_tokens.specs.Places.{CodeAt}

-- for whatever texts the builder refused, some places are refused for their regular expressions
abbrev pub SomePlaces : Type 0
SomePlaces = (patterns : List PatternAt) (gained : List (List ℕ)) → (places : List CodeAt) × AreRefused patterns gained places

module _ {Query : Type 0} (is_query : Schema → List ℕ → Query → Type 0) (is_within : Limits → Schema → List ℕ → Query → Type 0)
    (refuses : Limits → Schema → List ℕ → List CodeAt → Refusal → Type 0) where
  -- each file is asked as a query, or it isn't asked for some cause
  abbrev pub EachAsked : Type 0
  EachAsked = (limits : Limits) (schema : Schema) (places : List CodeAt) (bytes : List ℕ)
      → ((q : Query) × IsAsked is_query is_within refuses limits schema places bytes q) ⊎ ((r : Refusal) × IsNotAsked is_query is_within refuses limits schema places bytes r)

  -- and never both
  abbrev pub NeverBoth : Type 0
  NeverBoth = (limits : Limits) (schema : Schema) (places : List CodeAt) (bytes : List ℕ) (q : Query) (r : Refusal)
      → IsAsked is_query is_within refuses limits schema places bytes q → IsNotAsked is_query is_within refuses limits schema places bytes r → ⊥

  -- as one query
  abbrev pub OneQuery : Type 0
  OneQuery = (limits : Limits) (schema : Schema) (places : List CodeAt) (bytes : List ℕ) (p q : Query)
      → IsAsked is_query is_within refuses limits schema places bytes p → IsAsked is_query is_within refuses limits schema places bytes q → p ≡ q

  -- for one cause
  abbrev pub OneCause : Type 0
  OneCause = (limits : Limits) (schema : Schema) (places : List CodeAt) (bytes : List ℕ) (r s : Refusal)
      → IsNotAsked is_query is_within refuses limits schema places bytes r → IsNotAsked is_query is_within refuses limits schema places bytes s → r ≡ s
