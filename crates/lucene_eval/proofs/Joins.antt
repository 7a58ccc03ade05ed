-- The three lists of a group's clauses, by its clauses.
use Rattle.std.proofs.Common.{◌≡◌, refl, sym, ◌∙◌, ap, Bool, true, false, ◌&&◌, List, [], ◌∷◌}
use Rattle.std.specs.Prelude.{◌||◌, not, if◌then◌else◌}
use Rattle.std.specs.List.{list_any, list_all}
use Rattle.event_schema.specs.declared.value.Value.{Value}
use Rattle.lucene_lang.specs.declared.query.Group as code
use Rattle.lucene_lang.specs.declared.query.Group.{out-Group}
use Rattle.lucene_lang.specs.declared.query.Clause as code_clause
use Rattle.lucene_lang.specs.declared.query.Atom.TheFolds.{fold_out-Group}
use Rattle.lucene_lang.specs.Query as query
use Rattle.lucene_lang.specs.Query.{a_group}
use Rattle.lucene_lang.specs.declared.query.Word.{Word as Joint}
use Rattle.lucene_lang.specs.declared.query.Word.TheVariants.{And, Or}
use Rattle.lucene_lang.specs.Meaning.{Lists, lists, listed, selected, is_none, all_hold, one_holds, atom_holds, selects}
use Rattle.lucene_lang.specs.View.{Part, clauses_of, group_view, parts_view, group_step, clause_step, atom_step}
use Rattle.lucene_eval.specs.Joined.{agrees, is_hit, is_asked}

one_required : (p h r : Bool) → (not p && (h && r)) ≡ (h && (not p && r))
one_required true true r = refl
one_required true false r = refl
one_required false true r = refl
one_required false false r = refl

one_prohibited : (h p r : Bool) → (not (h || p) && r) ≡ (not h && (not p && r))
one_prohibited true p r = refl
one_prohibited false p r = refl

and_swaps : (a b : Bool) → (a && b) ≡ (b && a)
and_swaps true true = refl
and_swaps true false = refl
and_swaps false true = refl
and_swaps false false = refl

and_true_left : (a b : Bool) → ((a && true) && b) ≡ (a && b)
and_true_left true b = refl
and_true_left false b = refl

swapped : (a b : Bool) → (a && (b || false)) ≡ (b && a)
swapped true true = refl
swapped true false = refl
swapped false true = refl
swapped false false = refl

module _ (row : List (List Value)) where
  and_free : (cs : List Part) → (not (one_holds (lists row And (clauses_of cs)).prohibited) && all_hold (lists row And (clauses_of cs)).required) ≡ list_all (agrees row) cs
  and_free [] = refl
  and_free (c ∷ cs) = by c.negated (atom_holds row c.atom) (and_free cs) where
    by : (n h : Bool) → (not (one_holds (lists row And (clauses_of cs)).prohibited) && all_hold (lists row And (clauses_of cs)).required) ≡ list_all (agrees row) cs
        → (not (one_holds (listed And n h (lists row And (clauses_of cs))).prohibited) && all_hold (listed And n h (lists row And (clauses_of cs))).required)
        ≡ ((if n then not h else h) && list_all (agrees row) cs)
    by true h more = one_prohibited h (one_holds (lists row And (clauses_of cs)).prohibited) (all_hold (lists row And (clauses_of cs)).required) ∙ ap (λ (b : Bool). not h && b) more
    by false h more = one_required (one_holds (lists row And (clauses_of cs)).prohibited) h (all_hold (lists row And (clauses_of cs)).required) ∙ ap (λ (b : Bool). h && b) more

  and_asked : (cs : List Part) → (not (is_none (lists row And (clauses_of cs)).required) || one_holds (lists row And (clauses_of cs)).optional) ≡ list_any is_asked cs
  and_asked [] = refl
  and_asked (c ∷ cs) = by c.negated (atom_holds row c.atom) (and_asked cs) where
    by : (n h : Bool) → (not (is_none (lists row And (clauses_of cs)).required) || one_holds (lists row And (clauses_of cs)).optional) ≡ list_any is_asked cs
        → (not (is_none (listed And n h (lists row And (clauses_of cs))).required) || one_holds (listed And n h (lists row And (clauses_of cs))).optional)
        ≡ (not n || list_any is_asked cs)
    by true h more = more
    by false h more = refl

  pub and_selected : (cs : List Part) → selected (lists row And (clauses_of cs)) ≡ (list_any is_asked cs && list_all (agrees row) cs)
  and_selected cs = ap (λ (b : Bool). b && (not (is_none (lists row And (clauses_of cs)).required) || one_holds (lists row And (clauses_of cs)).optional)) (and_free cs)
      ∙ (ap (λ (b : Bool). list_all (agrees row) cs && b) (and_asked cs) ∙ and_swaps (list_all (agrees row) cs) (list_any is_asked cs))

  record IsOr (l : Lists) (p o : Bool) : Type 0 where
    required : l.required ≡ []
    prohibited : one_holds l.prohibited ≡ p
    optional : one_holds l.optional ≡ o

  or_lists : (cs : List Part) → IsOr (lists row Or (clauses_of cs)) (list_any (is_hit row true) cs) (list_any (is_hit row false) cs)
  or_lists [] = record { required = refl; prohibited = refl; optional = refl }
  or_lists (c ∷ cs) = by c.negated (atom_holds row c.atom) (or_lists cs) where
    by : (n h : Bool) → IsOr (lists row Or (clauses_of cs)) (list_any (is_hit row true) cs) (list_any (is_hit row false) cs)
        → IsOr (listed Or n h (lists row Or (clauses_of cs))) ((n && h) || list_any (is_hit row true) cs) ((not n && h) || list_any (is_hit row false) cs)
    by true h i = record { required = i.required; prohibited = ap (λ (b : Bool). h || b) i.prohibited; optional = i.optional }
    by false h i = record { required = i.required; prohibited = i.prohibited; optional = ap (λ (b : Bool). h || b) i.optional }

  pub or_selected : (cs : List Part) → selected (lists row Or (clauses_of cs)) ≡ (not (list_any (is_hit row true) cs) && list_any (is_hit row false) cs)
  or_selected cs =
      let i = or_lists cs in
      let r = i.required in
      let p = i.prohibited in
      let o = i.optional in
      rw (r, p, o) (and_true_left (not (list_any (is_hit row true) cs)) (list_any (is_hit row false) cs))

-- ---- groups of the crate's types

group_is : (g : code.Group) → group_view g ≡ a_group ((out-Group g).word) (clauses_of (parts_view (out-Group g).clauses.items))
group_is g = fold_out-Group query.Atom Part query.Group atom_step clause_step group_step g

module _ (row : List (List Value)) (g : code.Group) (cs : List code_clause.Clause) (same : cs ≡ (out-Group g).clauses.items) where
  view_is : (w : Joint) → (out-Group g).word ≡ w → selects row (group_view g) ≡ selected (lists row w (clauses_of (parts_view cs)))
  view_is w is = ap (selects row) (group_is g)
      ∙ (ap (λ (v : Joint). selected (lists row v (clauses_of (parts_view (out-Group g).clauses.items)))) is
      ∙ ap (λ (ds : List code_clause.Clause). selected (lists row w (clauses_of (parts_view ds)))) (sym same))

  pub selects_and : (out-Group g).word ≡ And → selects row (group_view g) ≡ (list_any is_asked (parts_view cs) && list_all (agrees row) (parts_view cs))
  selects_and is = view_is And is ∙ and_selected row (parts_view cs)

  pub selects_or : (out-Group g).word ≡ Or
      → selects row (group_view g) ≡ (not (list_any (is_hit row true) (parts_view cs)) && list_any (is_hit row false) (parts_view cs))
  selects_or is = view_is Or is ∙ or_selected row (parts_view cs)

-- a test before another
pub both_here : (a b x y s : Bool) → s ≡ (x && y) → a ≡ x → b ≡ y → a ≡ true → b ≡ s
both_here a b x y s is first second so = second ∙ (ap (λ (z : Bool). z && y) (sym so ∙ first) ∙ sym is)

pub none_here : (a x y s : Bool) → s ≡ (x && y) → a ≡ x → a ≡ false → a ≡ s
none_here a x y s is first so = so ∙ (ap (λ (z : Bool). z && y) (sym so ∙ first) ∙ sym is)
