-- What the reader of a query answers, with the builder's refused texts before and after.
use Rattle.std.specs.Prelude.{ℕ, zero, suc, ◌≡◌, ◌++◌, true, List, [], ◌∷◌, Result, Ok, Err}
use Rattle.sig_base.specs.declared.limits.Limits.{Limits}
use Rattle.sig_base.specs.declared.refusal.Detail.TheVariants as details
use Rattle.sig_base.specs.declared.refusal.Fault.{Fault}
use Rattle.sig_base.specs.declared.refusal.Fault.TheVariants.{Memory, Refused}
use Rattle.sig_base.specs.declared.refusal.Refusal.{Refusal}
use Rattle.event_schema.specs.Lists.{EachOf, SomeOf}
use Rattle.event_schema.specs.declared.schema.Schema.{Schema}
use Rattle.query_lang.specs.Answers.{place_of}
use Rattle.query_lang.specs.Patterns.{is_pattern}
use Rattle.query_lang.specs.RefusedPlaces.{PatternAt, is_of_pattern, IsAmong, IsCause, AreOfPatterns, AreRefused}
use Rattle.query_tokens.specs.Places.{At, CodeAt, code_at}
use Rattle.sql_lang.specs.Expression.{Expr}
use Rattle.sql_lang.specs.Reading.{ReadsWithin, Refuses, BytesRefused}
use Rattle.sql_lang.specs.Regexps.{regexps}
use Rattle.sql_lang.specs.View.{expr_view}
use Rattle.sql_lang.specs.declared.query.Select.{Select}
use Rattle.sql_read.specs.Checks.{Check, AreBuilt}
use Rattle.sql_read.specs.Walks.{WalkStops}

-- all is built, and this is the expression; or there is a first refusal
abbrev pub SelectAnswers : List (List ℕ) → List (List ℕ) → List Check → Expr → Result Select Fault → Type 0
SelectAnswers before after checks expr (Ok s) = (after ≡ before) × AreBuilt checks × (expr_view s.condition ≡ expr)
SelectAnswers before after checks expr (Err stop) = WalkStops before after checks stop

-- the place of a token, or this one behind all
abbrev pub place_or : List At → ℕ → At → At
place_or [] k end = end
place_or (p ∷ ps) zero end = p
place_or (p ∷ ps) (suc k) end = place_or ps k end

-- The first refusal of these characters, for a list of places that are refused for their regular expressions; what the builder refused are
-- regular expressions of theirs.
pub record IsTextStop (limit : ℕ) (schema : Schema) (cs : List ℕ) (before after : List (List ℕ)) (r : Refusal) : Type 0 where
  pub gained : List (List ℕ)
  pub follows : after ≡ before ++ gained
  pub own : AreOfPatterns (regexps cs) gained
  pub places : List CodeAt
  pub are : AreRefused (regexps cs) gained places
  pub first : Refuses limit schema places cs (code_at r.code (place_of r))
  pub bare : r.detail ≡ details.None
  pub built : is_of_pattern r.code ≡ true → SomeOf (λ p. (p.place ≡ place_of r) × IsAmong p.pattern gained × IsCause gained p.pattern r.code) (regexps cs)

abbrev pub TextStops : ℕ → Schema → List ℕ → List (List ℕ) → List (List ℕ) → Fault → Type 0
TextStops limit schema cs before after Memory = after ≡ before
TextStops limit schema cs before after (Refused r) = IsTextStop limit schema cs before after r

-- the query of these characters, whose regular expressions are patterns, or their first refusal
abbrev pub TextAnswers : ℕ → Schema → List ℕ → List (List ℕ) → List (List ℕ) → Result Select Fault → Type 0
TextAnswers limit schema cs before after (Ok s) =
    (after ≡ before) × ReadsWithin limit schema cs (expr_view s.condition) × EachOf (λ (p : PatternAt). is_pattern p.pattern ≡ true) (regexps cs)
TextAnswers limit schema cs before after (Err stop) = TextStops limit schema cs before after stop

-- It's the first one of these bytes where these places are refused for their regular expressions, and has no detail.
pub record IsRefused (limits : Limits) (schema : Schema) (bytes : List ℕ) (places : List CodeAt) (r : Refusal) : Type 0 where
  pub first : BytesRefused limits.sql_depth schema places bytes (code_at r.code (place_of r))
  pub plain : r.detail ≡ details.None
