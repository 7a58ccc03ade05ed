-- What is looked at in a query that is spelled, from the left: faults that stand whatever is built, and the regular expressions that are
-- built at their places.
use Rattle.std.specs.Prelude.{ℕ, suc, ◌≡◌, ◌⊎◌, ◌+◌, ⊤, true, false, not, List, [], ◌∷◌, ◌++◌, length, drop}
use Rattle.sig_base.specs.declared.refusal.Refusal.{Refusal}
use Rattle.event_schema.specs.declared.schema.Field.{Field}
use Rattle.event_schema.specs.declared.schema.Schema.{Schema}
use Rattle.query_lang.specs.Patterns.{is_pattern}
use Rattle.query_lang.specs.RefusedPlaces.{PatternAt}
use Rattle.query_tokens.specs.Places.{At, CodeAt, code_at, code_at_if, nth}
use Rattle.sql_lang.specs.Grammar.{Leaf, regexp, spell_not, spell_and, spell_nots, Ors, last_and, and_or, Ands, last_not, not_and, Nots, not_not, a_test, enclosed, Query}
use Rattle.sql_lang.specs.Faults.{is_ill, name_faults, test_faults}
use Rattle.sql_lang.specs.Names.{is_named}
use Rattle.sql_check.specs.Refused.{refusal_of}

pub data Check : Type 0 where
  Sure : CodeAt → Check
  Builds : PatternAt → Check

abbrev pub sure : List CodeAt → List Check
sure [] = []
sure (f ∷ fs) = Sure f ∷ sure fs

-- the place of a test's regular expression, or its first one
abbrev pub pattern_place : Leaf → List At → At
pattern_place (regexp n b v) ps = nth ps (2 + length (spell_not b))
pattern_place t ps = nth ps 0

-- a regular expression is looked at behind what is said of its column
module _ (fields : List Field) where
  abbrev pub test_checks : Leaf → List At → List Check
  test_checks (regexp n b v) ps =
      sure (name_faults fields n (is_ill fields (regexp n b v)) (nth ps 0)) ++ Builds (record { place = nth ps (2 + length (spell_not b)); pattern = v }) ∷ []
  test_checks t ps = sure (test_faults fields [] t ps)

  abbrev mutual
    pub or_checks : Ors → List At → List Check
    or_checks (last_and a) ps = and_checks a ps
    or_checks (and_or a o) ps = and_checks a ps ++ or_checks o (drop (suc (length (spell_and a))) ps)

    pub and_checks : Ands → List At → List Check
    and_checks (last_not n) ps = not_checks n ps
    and_checks (not_and n a) ps = not_checks n ps ++ and_checks a (drop (suc (length (spell_nots n))) ps)

    pub not_checks : Nots → List At → List Check
    not_checks (not_not n) ps = not_checks n (drop 1 ps)
    not_checks (a_test t) ps = test_checks t ps
    not_checks (enclosed o) ps = or_checks o (drop 1 ps)

abbrev pub query_checks : Schema → Query → List At → List Check
query_checks schema q ps = sure (code_at_if (not (is_named q.table schema.table)) 122 (nth ps 3)) ++ or_checks schema.fields q.condition (drop 5 ps)

-- ---- what comes of them

-- The builder refused the text, which its list gains: with 47 a text that is no pattern, else with 48.
abbrev pub IsUnbuilt : List (List ℕ) → List (List ℕ) → PatternAt → Refusal → Type 0
IsUnbuilt before after p r =
    (after ≡ before ++ p.pattern ∷ []) × (((r ≡ refusal_of (code_at 47 p.place)) × (is_pattern p.pattern ≡ false)) ⊎ (r ≡ refusal_of (code_at 48 p.place)))

-- The refusal is the first that comes of these: behind regular expressions that are patterns, and were built.
abbrev pub StopsFor : List (List ℕ) → List (List ℕ) → Refusal → List Check → Type 0
StopsFor before after r [] = ⊥
StopsFor before after r (Sure f ∷ cs) = (after ≡ before) × (r ≡ refusal_of f)
StopsFor before after r (Builds p ∷ cs) = IsUnbuilt before after p r ⊎ ((is_pattern p.pattern ≡ true) × StopsFor before after r cs)

-- No fault is among them, and each regular expression is a pattern.
abbrev pub AreBuilt : List Check → Type 0
AreBuilt [] = ⊤
AreBuilt (Sure f ∷ cs) = ⊥
AreBuilt (Builds p ∷ cs) = (is_pattern p.pattern ≡ true) × AreBuilt cs

-- what is left of all that is looked at, behind what is built
pub record Leads (rest all : List Check) : Type 0 where
  pub passed : List Check
  pub parts : all ≡ passed ++ rest
  pub built : AreBuilt passed
