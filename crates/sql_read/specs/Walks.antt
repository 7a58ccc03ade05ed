-- What the walk over a query answers.
use Rattle.std.specs.Prelude.{ℕ, ◌≡◌, Bool, List, length, map, drop, Result, Ok, Err}
use Rattle.sig_base.specs.declared.refusal.Fault.{Fault}
use Rattle.sig_base.specs.declared.refusal.Fault.TheVariants.{Memory, Refused}
use Rattle.event_schema.specs.declared.schema.Field.{Field}
use Rattle.query_tokens.specs.Places.{At}
use Rattle.sql_lang.specs.Expression.{Expr, SqlTest, Regexp, not_expr, and_expr}
use Rattle.sql_lang.specs.Grammar.{Nots, Ands, spell_nots, spell_and, spell_or}
use Rattle.sql_lang.specs.Machine.{and_of, or_of}
use Rattle.sql_lang.specs.View.{test_view, expr_view}
use Rattle.sql_lang.specs.declared.query.SqlTest.{SqlTest as Test}
use Rattle.sql_scan.specs.View.{places_view}
use Rattle.sql_read.specs.Checks.{Check, IsUnbuilt, StopsFor, AreBuilt, Leads, not_checks, and_checks, or_checks}
use Rattle.sql_read.specs.declared.expressions.Walked.{Walked}
use Rattle.sql_read.specs.declared.expressions.Chain.{Chain}

-- with the builder's refused texts before and after; want of memory leaves them as they are
abbrev pub WalkStops : List (List ℕ) → List (List ℕ) → List Check → Fault → Type 0
WalkStops before after checks Memory = after ≡ before
WalkStops before after checks (Refused r) = StopsFor before after r checks

-- all is built, and the expression and the places behind are these; or there is a first refusal
abbrev pub WalkAnswers : List (List ℕ) → List (List ℕ) → List Check → Expr → List At → Result Walked Fault → Type 0
WalkAnswers before after checks expr behind (Ok w) =
    (after ≡ before) × AreBuilt checks × (expr_view w.expr ≡ expr) × (places_view w.rest.now ≡ behind)
WalkAnswers before after checks expr behind (Err stop) = WalkStops before after checks stop

-- the test, with its regular expression; or that is refused at this place
abbrev pub BuiltAnswers : List (List ℕ) → List (List ℕ) → SqlTest → At → Result Test Fault → Type 0
BuiltAnswers before after test place (Ok t) = (after ≡ before) × (test_view t ≡ test)
BuiltAnswers before after test place (Err Memory) = after ≡ before
BuiltAnswers before after test place (Err (Refused r)) =
    (k : ℕ) × (b : Bool) × (pattern : List ℕ) × (test ≡ Regexp k b pattern) × IsUnbuilt before after (record { place = place; pattern = pattern }) r

-- ---- the parts of a chain before the last one

-- Whatever the last part is: what is looked at in it is what is left of the chain, and the places behind it are those behind the chain.
pub record IsPassed {A : Type 0} (checks : A → List At → List Check) (size : A → ℕ) (all : A → List Check) (behind : A → List At) (ps : List At) : Type 0 where
  pub leads : (last : A) → Leads (checks last ps) (all last)
  pub ends : (last : A) → drop (size last) ps ≡ behind last

abbrev pub nots_size : Nots → ℕ
nots_size n = length (spell_nots n)

abbrev pub ands_size : Ands → ℕ
ands_size a = length (spell_and a)

module _ (fields : List Field) (before after : List (List ℕ)) where
  -- the parts are built, and passed
  abbrev pub AndBuilt : List Nots → List At → Chain → Type 0
  AndBuilt parts ps c = (after ≡ before) × (map expr_view c.done.items ≡ map (not_expr fields) parts)
      × IsPassed (not_checks fields) nots_size (λ last. and_checks fields (and_of parts last) ps) (λ last. drop (length (spell_and (and_of parts last))) ps) (places_view c.rest.now)

  abbrev pub AndAnswers : List Nots → Nots → List At → Result Chain Fault → Type 0
  AndAnswers parts last ps (Ok c) = AndBuilt parts ps c
  AndAnswers parts last ps (Err stop) = WalkStops before after (and_checks fields (and_of parts last) ps) stop

  abbrev pub OrBuilt : List Ands → List At → Chain → Type 0
  OrBuilt parts ps c = (after ≡ before) × (map expr_view c.done.items ≡ map (and_expr fields) parts)
      × IsPassed (and_checks fields) ands_size (λ last. or_checks fields (or_of parts last) ps) (λ last. drop (length (spell_or (or_of parts last))) ps) (places_view c.rest.now)

  abbrev pub OrAnswers : List Ands → Ands → List At → Result Chain Fault → Type 0
  OrAnswers parts last ps (Ok c) = OrBuilt parts ps c
  OrAnswers parts last ps (Err stop) = WalkStops before after (or_checks fields (or_of parts last) ps) stop
