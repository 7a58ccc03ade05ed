-- Which events a group selects, clause by clause.
use Rattle.std.proofs.Common.{◌≡◌, refl, Bool, true, false, List, [], ◌||◌, ◌&&◌, inl, inr}
use Rattle.std.specs.Prelude.{◌↔◌, ⊤, not}
use Rattle.std.proofs.lemmas.Bool.{and_parts}
use Rattle.event_schema.specs.declared.value.Value.{Value}
use Rattle.lucene_lang.specs.declared.query.Word.TheVariants.{And, Or}
use Rattle.lucene_lang.specs.Query.{a_group, Clauses, no_clauses, a_clause, Atom}
use Rattle.lucene_lang.specs.Meaning.{lists, is_none, all_hold, one_holds, atom_holds, LuceneSelects}
use Rattle.lucene_lang.specs.Selection.{EachClause, SomeClause}

module _ (row : List (List Value)) where
  abbrev Holds : Atom → Type 0
  Holds a = atom_holds row a ≡ true

  abbrev Fails : Atom → Type 0
  Fails a = atom_holds row a ≡ false

  -- ---- no clause with NOT holds, in a group with either word

  none_and : (cs : Clauses) → one_holds (lists row And cs).prohibited ≡ false → EachClause true Fails cs
  none_and no_clauses h = tt
  none_and (a_clause true a cs) h = by (atom_holds row a) refl h (none_and cs) where
    by : (b : Bool) → atom_holds row a ≡ b → (b || one_holds (lists row And cs).prohibited) ≡ false
        → (one_holds (lists row And cs).prohibited ≡ false → EachClause true Fails cs) → EachClause true Fails (a_clause true a cs)
    by true is g more = absurd cc
    by false is g more = (λ e. is, more g)
  none_and (a_clause false a cs) h = (λ e. absurd cc, none_and cs h)

  and_none : (cs : Clauses) → EachClause true Fails cs → one_holds (lists row And cs).prohibited ≡ false
  and_none no_clauses each = refl
  and_none (a_clause true a cs) each = let is = each.0 refl in let more = and_none cs each.1 in rw (is, more) refl
  and_none (a_clause false a cs) each = and_none cs each.1

  none_or : (cs : Clauses) → one_holds (lists row Or cs).prohibited ≡ false → EachClause true Fails cs
  none_or no_clauses h = tt
  none_or (a_clause true a cs) h = by (atom_holds row a) refl h (none_or cs) where
    by : (b : Bool) → atom_holds row a ≡ b → (b || one_holds (lists row Or cs).prohibited) ≡ false
        → (one_holds (lists row Or cs).prohibited ≡ false → EachClause true Fails cs) → EachClause true Fails (a_clause true a cs)
    by true is g more = absurd cc
    by false is g more = (λ e. is, more g)
  none_or (a_clause false a cs) h = (λ e. absurd cc, none_or cs h)

  or_none : (cs : Clauses) → EachClause true Fails cs → one_holds (lists row Or cs).prohibited ≡ false
  or_none no_clauses each = refl
  or_none (a_clause true a cs) each = let is = each.0 refl in let more = or_none cs each.1 in rw (is, more) refl
  or_none (a_clause false a cs) each = or_none cs each.1

  -- ---- a group with AND

  each_and : (cs : Clauses) → all_hold (lists row And cs).required ≡ true → EachClause false Holds cs
  each_and no_clauses h = tt
  each_and (a_clause true a cs) h = (λ e. absurd cc, each_and cs h)
  each_and (a_clause false a cs) h =
      let both = and_parts (atom_holds row a) (all_hold (lists row And cs).required) h in (λ e. both.0, each_and cs both.1)

  and_each : (cs : Clauses) → EachClause false Holds cs → all_hold (lists row And cs).required ≡ true
  and_each no_clauses each = refl
  and_each (a_clause true a cs) each = and_each cs each.1
  and_each (a_clause false a cs) each = let is = each.0 refl in let more = and_each cs each.1 in rw (is, more) refl

  some_and : (cs : Clauses) → is_none (lists row And cs).required ≡ false → SomeClause false (λ a. ⊤) cs
  some_and no_clauses h = absurd cc
  some_and (a_clause true a cs) h = inr (some_and cs h)
  some_and (a_clause false a cs) h = inl (refl, tt)

  and_some : (cs : Clauses) → SomeClause false (λ a. ⊤) cs → is_none (lists row And cs).required ≡ false
  and_some no_clauses some = absurd some
  and_some (a_clause true a cs) (inl here) = let e = here.0 in absurd cc
  and_some (a_clause true a cs) (inr later) = and_some cs later
  and_some (a_clause false a cs) some = refl

  and_optional : (cs : Clauses) → one_holds (lists row And cs).optional ≡ false
  and_optional no_clauses = refl
  and_optional (a_clause true a cs) = and_optional cs
  and_optional (a_clause false a cs) = and_optional cs

  -- ---- a group with OR

  some_or : (cs : Clauses) → one_holds (lists row Or cs).optional ≡ true → SomeClause false Holds cs
  some_or no_clauses h = absurd cc
  some_or (a_clause true a cs) h = inr (some_or cs h)
  some_or (a_clause false a cs) h = by (atom_holds row a) refl h (some_or cs) where
    by : (b : Bool) → atom_holds row a ≡ b → (b || one_holds (lists row Or cs).optional) ≡ true
        → (one_holds (lists row Or cs).optional ≡ true → SomeClause false Holds cs) → SomeClause false Holds (a_clause false a cs)
    by true is g more = inl (refl, is)
    by false is g more = inr (more g)

  or_some : (cs : Clauses) → SomeClause false Holds cs → one_holds (lists row Or cs).optional ≡ true
  or_some no_clauses some = absurd some
  or_some (a_clause true a cs) (inl here) = let e = here.0 in absurd cc
  or_some (a_clause true a cs) (inr later) = or_some cs later
  or_some (a_clause false a cs) (inl here) = let is = here.1 in rw is refl
  or_some (a_clause false a cs) (inr later) = by (atom_holds row a) (or_some cs later) where
    by : (b : Bool) → one_holds (lists row Or cs).optional ≡ true → (b || one_holds (lists row Or cs).optional) ≡ true
    by true is = refl
    by false is = is

  or_required : (cs : Clauses) → (lists row Or cs).required ≡ []
  or_required no_clauses = refl
  or_required (a_clause true a cs) = or_required cs
  or_required (a_clause false a cs) = or_required cs

  -- ---- both

  three_parts : (p r n o : Bool) → ((not p && r) && (not n || o)) ≡ true → o ≡ false → (p ≡ false) × (r ≡ true) × (n ≡ false)
  three_parts false true false o h none = (refl, refl, refl)
  three_parts false true true o h none = absurd cc
  three_parts false false n o h none = absurd cc
  three_parts true r n o h none = absurd cc

  pub and_is : (cs : Clauses) → (LuceneSelects (a_group And cs) row) ↔ (EachClause true Fails cs × EachClause false Holds cs × SomeClause false (λ a. ⊤) cs)
  and_is cs = (
    λ h.
        let parts = three_parts (one_holds (lists row And cs).prohibited) (all_hold (lists row And cs).required) (is_none (lists row And cs).required)
        (one_holds (lists row And cs).optional) h (and_optional cs) in
        (none_and cs parts.0, each_and cs parts.1, some_and cs parts.2),
    λ h. let p = and_none cs h.0 in let r = and_each cs h.1 in let n = and_some cs h.2 in rw (p, r, n) refl,
  )

  or_parts : (p o : Bool) → ((not p && true) && (false || o)) ≡ true → (p ≡ false) × (o ≡ true)
  or_parts false true h = (refl, refl)
  or_parts false false h = absurd cc
  or_parts true o h = absurd cc

  pub or_is : (cs : Clauses) → (LuceneSelects (a_group Or cs) row) ↔ (EachClause true Fails cs × SomeClause false Holds cs)
  or_is cs = (
    λ h.
        let e = or_required cs in
        let parts = or_parts (one_holds (lists row Or cs).prohibited) (one_holds (lists row Or cs).optional) (rw e at h) in
        (none_or cs parts.0, some_or cs parts.1),
    λ h. let e = or_required cs in let p = or_none cs h.0 in let o = or_some cs h.1 in rw (e, p, o) refl,
  )
