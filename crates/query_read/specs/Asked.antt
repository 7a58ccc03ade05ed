-- The query that a file's bytes are asked of events as, in a language of these meanings, or the first cause for which they're asked as
-- none; these places are refused for their regular expressions.
use Rattle.std.specs.Prelude.{ℕ, ◌≡◌, ◌≤◌, ◌<◌, ◌+◌, List, length}
use Rattle.event_schema.specs.declared.schema.Schema.{Schema}
use Rattle.sig_base.specs.declared.limits.Limits.{Limits}
use Rattle.sig_base.specs.declared.refusal.Refusal.{Refusal}
use Rattle.sig_base.specs.Files.{file_start}
use Rattle.sig_base.specs.Judged.{refusal}
use Rattle.query_tokens.specs.Places.{CodeAt}

-- a query's file may have one byte more than a query has at most, since a line feed may stand behind it
abbrev pub most_bytes : Limits → ℕ
most_bytes limits = limits.query_bytes + 1

module _ {Query : Type 0} (is_query : Schema → List ℕ → Query → Type 0) (is_within : Limits → Schema → List ℕ → Query → Type 0)
    (refuses : Limits → Schema → List ℕ → List CodeAt → Refusal → Type 0) where
  -- the bytes are this query, within the limits, and nothing of it is refused
  pub record IsAsked (limits : Limits) (schema : Schema) (places : List CodeAt) (bytes : List ℕ) (query : Query) : Type 0 where
    pub short : length bytes ≤ most_bytes limits
    pub reads : is_query schema bytes query
    pub within : is_within limits schema bytes query
    pub unrefused : (r : Refusal) → refuses limits schema bytes places r → ⊥

  -- 2 where there are too many bytes, whatever they are, and else the first refusal of the language
  pub data IsNotAsked (limits : Limits) (schema : Schema) (places : List CodeAt) (bytes : List ℕ) (r : Refusal) : Type 0 where
    too_large : most_bytes limits < length bytes → r ≡ refusal 2 file_start → IsNotAsked limits schema places bytes r
    unread : length bytes ≤ most_bytes limits → refuses limits schema bytes places r → IsNotAsked limits schema places bytes r
