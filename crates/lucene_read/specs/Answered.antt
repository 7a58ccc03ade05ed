-- What is answered to bytes: a query of Lucene within the limits, or the first refusal.
use Rattle.std.specs.Prelude.{ℕ, ◌≡◌, List, [], Result}
use Rattle.event_schema.specs.declared.schema.Schema.{Schema}
use Rattle.sig_base.specs.declared.limits.Limits.{Limits}
use Rattle.sig_base.specs.declared.refusal.Fault.{Fault}
use Rattle.sig_base.specs.declared.refusal.Refusal.{Refusal}
use Rattle.sig_base.specs.declared.refusal.Detail.TheVariants as details
use Rattle.query_tokens.specs.Places.{CodeAt, code_at}
use Rattle.query_lang.specs.Answers.{place_of, IsAnswer}
use Rattle.lucene_lang.specs.declared.query.Group.{Group}
use Rattle.lucene_lang.specs.Reading.{Reads, BytesRefused}
use Rattle.lucene_lang.specs.View.{group_view}
use Rattle.lucene_lang.specs.Queries.{IsWithin}

-- It's the first one of these bytes, and has no detail. No query has a regular expression, so places that are refused for one change nothing.
pub record IsRefused (limits : Limits) (schema : Schema) (bytes : List ℕ) (places : List CodeAt) (r : Refusal) : Type 0 where
  pub first : BytesRefused limits.lucene_depth schema bytes (code_at r.code (place_of r))
  pub plain : r.detail ≡ details.None

-- as a language answers where its builder refuses nothing
abbrev pub IsAnswered : Limits → Schema → List ℕ → Result Group Fault → Type 0
IsAnswered limits schema bytes r = IsAnswer (λ g. Reads schema bytes (group_view g)) (λ g. IsWithin limits schema bytes (group_view g)) (IsRefused limits schema bytes) [] [] r
