-- Walks over clauses, a turn at a time.
use Rattle.std.proofs.Common.{◌≡◌, ℕ, ◌+◌, ◌<◌, ◌≤◌, Bool, true, false, ◌&&◌, List, ◌∷◌, length, get_or, drop, refl, sym, ap, ◌∙◌}
use Rattle.std.specs.Prelude.{◌||◌, not}
use Rattle.std.specs.List.{list_any, list_all}
use Rattle.std.proofs.lemmas.List.{drop_more, at_drop_all}
use Rattle.lucene_lang.specs.declared.query.Clause.{Clause}
use Rattle.lucene_lang.specs.declared.query.Atom.TheFolds.{fold_out-Clause}
use Rattle.lucene_lang.specs.Query as query
use Rattle.lucene_lang.specs.View.{Part, group_step, clause_step, atom_step, clause_view, atom_view, parts_view}
use Rattle.lucene_eval.specs.Joined.{is_asked}

abbrev pub part_of : Clause → Part
part_of c = record { negated = c.negated; atom = atom_view c.atom }

pub view-Clause : (c : Clause) → clause_view c ≡ part_of c
view-Clause c = fold_out-Clause query.Atom Part query.Group atom_step clause_step group_step c

drop_at : {X : Type 0} (xs : List X) (i : ℕ) (x : X) → i < length xs → x ≡ get_or xs i x → drop i xs ≡ x ∷ drop (i + 1) xs
drop_at xs i x h is = drop_more xs i x h ∙ ap (λ y. y ∷ drop (i + 1) xs) (sym is)

module _ (p : Part → Bool) (cs : List Clause) (i : ℕ) where
  abbrev one_from : List Clause → Bool
  one_from ds = list_any p (parts_view ds)

  abbrev all_from : List Clause → Bool
  all_from ds = list_all p (parts_view ds)

  one_more : (c : Clause) → i < length cs → c ≡ get_or cs i c → p (part_of c) ≡ false → one_from (drop i cs) ≡ one_from (drop (i + 1) cs)
  one_more c h is e = ap one_from (drop_at cs i c h is) ∙ ap (λ (b : Bool). b || one_from (drop (i + 1) cs)) (ap p (view-Clause c) ∙ e)

  one_here : (c : Clause) → i < length cs → c ≡ get_or cs i c → p (part_of c) ≡ true → one_from (drop i cs) ≡ true
  one_here c h is e = ap one_from (drop_at cs i c h is) ∙ ap (λ (b : Bool). b || one_from (drop (i + 1) cs)) (ap p (view-Clause c) ∙ e)

  one_end : length cs ≤ i → one_from (drop i cs) ≡ false
  one_end h = at_drop_all one_from cs i h

  all_more : (c : Clause) → i < length cs → c ≡ get_or cs i c → p (part_of c) ≡ true → all_from (drop i cs) ≡ all_from (drop (i + 1) cs)
  all_more c h is e = ap all_from (drop_at cs i c h is) ∙ ap (λ (b : Bool). b && all_from (drop (i + 1) cs)) (ap p (view-Clause c) ∙ e)

  all_here : (c : Clause) → i < length cs → c ≡ get_or cs i c → p (part_of c) ≡ false → all_from (drop i cs) ≡ false
  all_here c h is e = ap all_from (drop_at cs i c h is) ∙ ap (λ (b : Bool). b && all_from (drop (i + 1) cs)) (ap p (view-Clause c) ∙ e)

  all_end : length cs ≤ i → all_from (drop i cs) ≡ true
  all_end h = at_drop_all all_from cs i h

not_so : (b : Bool) → not b ≡ false → b ≡ true
not_so true h = refl
not_so false h = absurd cc

not_not_so : (b : Bool) → not b ≡ true → b ≡ false
not_not_so false h = refl
not_not_so true h = absurd cc

-- ---- a clause without NOT

pub asked_more : (cs : List Clause) (i : ℕ) (c : Clause) → i < length cs → c ≡ get_or cs i c → not c.negated ≡ false
    → list_any is_asked (parts_view (drop i cs)) ≡ list_any is_asked (parts_view (drop (i + 1) cs))
asked_more cs i c h is e = one_more is_asked cs i c h is e

pub asked_here : (cs : List Clause) (i : ℕ) (c : Clause) → i < length cs → c ≡ get_or cs i c → not c.negated ≡ true
    → list_any is_asked (parts_view (drop i cs)) ≡ true
asked_here cs i c h is e = one_here is_asked cs i c h is e

pub asked_end : (cs : List Clause) (i : ℕ) → length cs ≤ i → list_any is_asked (parts_view (drop i cs)) ≡ false
asked_end cs i h = one_end is_asked cs i h
