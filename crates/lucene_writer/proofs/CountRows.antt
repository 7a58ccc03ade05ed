-- What is counted of the parts of a vector, one by one.
use Rattle.std.proofs.Common.{ℕ, ◌+◌, ◌≡◌, ◌≤◌, refl, sym, ◌∙◌, ap, List, [], ◌∷◌, length, drop, arith}
use Rattle.std.specs.Prelude.{min, max, not}
use Rattle.std.specs.declared.alloc.Global.{Global}
use Rattle.std.specs.declared.vec.Vec.{Vec}
use Rattle.std.proofs.lemmas.List.{drop_all}
use Rattle.backend_core.specs.View.{tree_view, plains_of}
use Rattle.backend_core.specs.declared.tree.Tree.{Tree}
use Rattle.backend_core.specs.declared.tree.Tree as trees
use Rattle.lucene_writer.specs.declared.place.Standing.{Standing}
use Rattle.lucene_writer.specs.declared.place.Standing.TheVariants.{Alone, InAnd}
use Rattle.lucene_writer.specs.Counts.{one_if, add, tree_opens, parts_opens, items_opens, tree_clauses, parts_clauses, items_clauses}
use Rattle.lucene_writer.specs.Pieces.{is_whole, all_denied}
use Rattle.backend_core.proofs.Joining.{view-All, view-Any}
use Rattle.lucene_writer.proofs.Rows.{denied_are}

module _ (most : ℕ) where
  -- ---- parentheses

  items_open : (at : Standing) (ts : List Tree) → parts_opens most at (plains_of ts) ≡ items_opens most at ts
  items_open at [] = refl
  items_open at (t ∷ ts) = ap (λ (n : ℕ). max (tree_opens most at (tree_view t)) n) (items_open at ts)

  pub opens_of_all : (at : Standing) (v : Vec Tree Global) (tree : Tree) (ts : List Tree) (result inside around : ℕ) → tree ≡ trees.All v → ts ≡ v.items
      → result ≡ add most inside around → inside ≡ items_opens most InAnd ts → around ≡ one_if (not (is_whole at))
      → result ≡ tree_opens most at (tree_view tree)
  opens_of_all at v tree ts result inside around is same sum opens one =
      sum
      ∙ (ap (λ (n : ℕ). add most n around) (opens ∙ (ap (items_opens most InAnd) same ∙ sym (items_open InAnd v.items)))
      ∙ (ap (λ (n : ℕ). add most (parts_opens most InAnd (plains_of v.items)) n) one
      ∙ (sym (ap (tree_opens most at) (view-All v)) ∙ ap (λ (t : Tree). tree_opens most at (tree_view t)) (sym is))))

  pub opens_of_any : (at : Standing) (v : Vec Tree Global) (tree : Tree) (ts : List Tree) (result inside around : ℕ) → tree ≡ trees.Any v → ts ≡ v.items
      → result ≡ add most inside around → inside ≡ items_opens most Alone ts → around ≡ one_if (not (is_whole at))
      → result ≡ tree_opens most at (tree_view tree)
  opens_of_any at v tree ts result inside around is same sum opens one =
      sum
      ∙ (ap (λ (n : ℕ). add most n around) (opens ∙ (ap (items_opens most Alone) same ∙ sym (items_open Alone v.items)))
      ∙ (ap (λ (n : ℕ). add most (parts_opens most Alone (plains_of v.items)) n) one
      ∙ (sym (ap (tree_opens most at) (view-Any v)) ∙ ap (λ (t : Tree). tree_opens most at (tree_view t)) (sym is))))

  pub opens_end : (at : Standing) (ts : List Tree) (i : ℕ) (before whole : ℕ) → length ts ≤ i → max before (items_opens most at (drop i ts)) ≡ whole → before ≡ whole
  opens_end at ts i before whole past h =
      let none = ap (items_opens most at) (drop_all i ts past) in
      omega (arith, h, none)

  -- ---- clauses

  items_count : (at : Standing) (ts : List Tree) → parts_clauses most at (plains_of ts) ≡ items_clauses most at ts
  items_count at [] = refl
  items_count at (t ∷ ts) = ap (λ (n : ℕ). add most (tree_clauses most at (tree_view t)) n) (items_count at ts)

  pub clauses_of_all : (at : Standing) (v : Vec Tree Global) (tree : Tree) (ts : List Tree) (result inside before : ℕ) → tree ≡ trees.All v → ts ≡ v.items
      → result ≡ add most inside before → inside ≡ items_clauses most InAnd ts → before ≡ one_if (all_denied ts)
      → result ≡ tree_clauses most at (tree_view tree)
  clauses_of_all at v tree ts result inside before is same sum clauses one =
      sum
      ∙ (ap (λ (n : ℕ). add most n before) (clauses ∙ (ap (items_clauses most InAnd) same ∙ sym (items_count InAnd v.items)))
      ∙ (ap (λ (n : ℕ). add most (parts_clauses most InAnd (plains_of v.items)) n) (one ∙ ap one_if (ap all_denied same ∙ sym (denied_are v.items)))
      ∙ (sym (ap (tree_clauses most at) (view-All v)) ∙ ap (λ (t : Tree). tree_clauses most at (tree_view t)) (sym is))))

  pub clauses_of_any : (at : Standing) (v : Vec Tree Global) (tree : Tree) (ts : List Tree) (result : ℕ) → tree ≡ trees.Any v → ts ≡ v.items
      → result ≡ items_clauses most Alone ts → result ≡ tree_clauses most at (tree_view tree)
  clauses_of_any at v tree ts result is same clauses =
      clauses
      ∙ (ap (items_clauses most Alone) same
      ∙ (sym (items_count Alone v.items)
      ∙ (sym (ap (tree_clauses most at) (view-Any v)) ∙ ap (λ (t : Tree). tree_clauses most at (tree_view t)) (sym is))))

  -- a count that is up to the most that can be counted
  pub clauses_end : (at : Standing) (ts : List Tree) (i : ℕ) (before : ℕ) → length ts ≤ i → before ≤ most
      → min (before + items_clauses most at (drop i ts)) most ≡ min (items_clauses most at ts) most → before ≡ items_clauses most at ts
  clauses_end at ts i before past small h =
      let none = ap (items_clauses most at) (drop_all i ts past) in
      let few = within_most ts in
      omega (arith, h, none, small, few) where
        within_most : (us : List Tree) → items_clauses most at us ≤ most
        within_most [] = omega arith
        within_most (u ∷ us) = omega arith
