-- The answer to `query`: the events that a query selects.
use Rattle.std.specs.Prelude.{◌≡◌, ℕ, Bool, true, List, [], ◌∷◌, ◌++◌, None, Some}
use Rattle.answer_writer.specs.EventLines.{EventLines}
use Rattle.answer_writer.specs.Input.{World}
use Rattle.answer_writer.specs.Parts.{Part, no_share}
use Rattle.event_schema.specs.Lists.{SomeOf}
use Rattle.event_schema.specs.declared.schema.Schema.{Schema}
use Rattle.event_schema.specs.declared.value.Value.{Value}
use Rattle.query_lang.specs.Answers.{place_of}
use Rattle.query_lang.specs.RefusedPlaces.{PatternAt, is_of_pattern, IsAmong, IsCause, AreOfPatterns, AreRefused}
use Rattle.query_read.specs.Asked.{IsAsked, IsNotAsked}
use Rattle.answer_writer.specs.Selected.{Selects}
use Rattle.sig_base.specs.declared.limits.Limits.{Limits}
use Rattle.sig_base.specs.declared.refusal.Refusal.{Refusal}
use Rattle.sigma_serve.specs.Reports.{refusal_share}
use Rattle.sigma_serve.specs.RuleFiles.{contents}
use Rattle.sigma_serve.specs.UnderSchema.{BySchema, ByBuilder, file_part}
use Rattle.query_tokens.specs.Places.{CodeAt}

-- The cause is of a regular expression that the builder refused: it's the cause of one of these, at its place, and the expression is among
-- the texts that the builder refused.
abbrev pub IsOfBuilder : List PatternAt → List (List ℕ) → Refusal → Type 0
IsOfBuilder patterns refused r = SomeOf (λ p. (p.place ≡ place_of r) × IsAmong p.pattern refused × IsCause refused p.pattern r.code) patterns

-- in a language of these meanings
module _ {Query : Type 0} (is_query : Schema → List ℕ → Query → Type 0) (is_within : Limits → Schema → List ℕ → Query → Type 0)
    (picks : Query → List (List Value) → Type 0) (patterns : List ℕ → List PatternAt) (refuses : Limits → Schema → List ℕ → List CodeAt → Refusal → Type 0) where
  -- The answer in a world under a schema, where these places of the query are refused for their regular expressions. The file is asked as a
  -- query: nothing is answered of the file, and then each line of the events is answered. Or it isn't asked: the first cause is answered
  -- of it, and no event is read.
  pub data AskedUnder (limits : Limits) (file : List ℕ) (given : Schema) (places : List CodeAt) (world : World) (parts : List Part) : Type 0 where
    asks : (query : Query) → IsAsked is_query is_within refuses limits given places (contents world.files file) query
        → (lines : List Part) → EventLines (Selects given (picks query)) limits world lines → parts ≡ file_part file no_share ∷ lines
        → AskedUnder limits file given places world parts
    doesnt_ask : (r : Refusal) → IsNotAsked is_query is_within refuses limits given places (contents world.files file) r → parts ≡ file_part file (refusal_share file r) ∷ []
        → AskedUnder limits file given places world parts

  -- These places of the query are refused for their regular expressions, each with its cause, where the builder had refused the texts
  -- `before` and then has refused the texts `after`: those that it gained are those that it refused in this run, regular expressions of the
  -- query. Where the run came to its end, a query is refused for a regular expression only if the builder refused this one.
  pub record AreOfQuery (limits : Limits) (file : List ℕ) (before after : List (List ℕ)) (ended : Bool) (given : Schema) (world : World) (places : List CodeAt) : Type 0 where
    pub gained : List (List ℕ)
    pub follows : after ≡ before ++ gained
    pub own : AreOfPatterns (patterns (contents world.files file)) gained
    pub are : AreRefused (patterns (contents world.files file)) gained places
    pub told : ended ≡ true → (r : Refusal) → IsNotAsked is_query is_within refuses limits given places (contents world.files file) r → is_of_pattern r.code ≡ true
        → IsOfBuilder (patterns (contents world.files file)) gained r

  -- the answer for some such places; without a schema nothing is asked (but the words of `query` name one)
  abbrev pub AskedBy : Limits → List ℕ → ByBuilder
  AskedBy limits file before after ended None world parts = parts ≡ []
  AskedBy limits file before after ended (Some given) world parts =
      (places : List CodeAt) × AreOfQuery limits file before after ended given world places × AskedUnder limits file given places world parts

  -- the answer for these places
  abbrev pub AskedAt : Limits → List ℕ → List CodeAt → BySchema
  AskedAt limits file places None world parts = parts ≡ []
  AskedAt limits file places (Some given) world parts = AskedUnder limits file given places world parts
