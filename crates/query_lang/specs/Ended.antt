-- The query of a file: its bytes with a line feed behind them, in a language of these meanings.
use Rattle.std.specs.Prelude.{ℕ, ◌≡◌, ◌≤◌, true, List, [], ◌∷◌, ◌++◌, length}
use Rattle.event_schema.specs.declared.schema.Schema.{Schema}
use Rattle.query_lang.specs.RefusedPlaces.{is_of_pattern}
use Rattle.sig_base.specs.declared.limits.Limits.{Limits}
use Rattle.sig_base.specs.declared.refusal.Refusal.{Refusal}
use Rattle.query_tokens.specs.Places.{CodeAt}

abbrev pub with_line_feed : List ℕ → List ℕ
with_line_feed bytes = bytes ++ 10 ∷ []

module _ {Query : Type 0} (is_query : Schema → List ℕ → Query → Type 0) (is_within : Limits → Schema → List ℕ → Query → Type 0) where
  -- A line feed behind a query changes nothing: bytes that are a query within the limits, and no more than a query has at most, are the
  -- same query within the limits with a line feed behind them.
  abbrev pub SameWithLineFeed : Type 0
  SameWithLineFeed = (limits : Limits) (schema : Schema) (bytes : List ℕ) (q : Query) → is_query schema bytes q → is_within limits schema bytes q
      → length bytes ≤ limits.query_bytes → is_query schema (with_line_feed bytes) q × is_within limits schema (with_line_feed bytes) q

module _ {Query : Type 0} (is_within : Limits → Schema → List ℕ → Query → Type 0) (refuses : Limits → Schema → List ℕ → List CodeAt → Refusal → Type 0) where
  -- A query within the limits is refused for its regular expressions alone, with 47 or 48.
  abbrev pub RefusedForPatterns : Type 0
  RefusedForPatterns = (limits : Limits) (schema : Schema) (bytes : List ℕ) (q : Query) (places : List CodeAt) (r : Refusal)
      → is_within limits schema bytes q → refuses limits schema bytes places r → is_of_pattern r.code ≡ true
