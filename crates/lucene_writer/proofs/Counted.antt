-- What is counted of a tree is its layout's: parentheses and leaf clauses.
use Rattle.std.proofs.Common.{ℕ, suc, ◌+◌, ◌≡◌, refl, sym, ◌∙◌, ap, Bool, true, false, ◌&&◌, List, [], ◌∷◌, arith, subst}
use Rattle.std.specs.Prelude.{min, max, if◌then◌else◌}
use Rattle.event_schema.specs.declared.schema.Field.{Field}
use Rattle.sig_strings.specs.declared.part.Part.{Part}
use Rattle.sig_strings.specs.declared.part.Part.TheVariants as parts
use Rattle.lucene_lang.specs.declared.query.Word.TheVariants.{And}
use Rattle.lucene_lang.specs.Grammar.{Group, joined}
use Rattle.lucene_layout.specs.Trees.{Tree, all, Trees, no_trees, a_tree, form, some_of, each_of, layout, all_forbidden, with_everything, behind_everything, group_depth, clause_depth, atom_depth, group_clauses, clause_clauses, atom_clauses}
use Rattle.backend_core.specs.FieldAt.{kind_at, name_at}
use Rattle.backend_core.specs.Sound.{IsSoundPattern, IsSoundTest, IsSound, AreSound}
use Rattle.backend_core.specs.Trees.{Plain, Plains, no_parts, a_part}
use Rattle.backend_core.specs.Trees as trees
use Rattle.backend_core.specs.declared.tree.LeafTest.{LeafTest}
use Rattle.backend_core.specs.declared.tree.LeafTest.TheVariants as tests
use Rattle.lucene_writer.specs.declared.place.Standing.TheVariants.{Whole, Alone, InAnd}
use Rattle.lucene_writer.specs.Counts.{one_if, tree_opens, parts_opens, tree_clauses, parts_clauses}
use Rattle.lucene_writer.specs.Pieces.{is_denied, are_denied}
use Rattle.lucene_writer.specs.Told.{test_parts, joined_trees, Told, told, told_parts, each_told, some_told}
use Rattle.lucene_writer.proofs.Texts.{denied, denied_behind, each_denied, joined_denied, IsSome, a_tree_of, assoc}

-- ---- parentheses

abbrev part_depth : Tree → ℕ
part_depth t = clause_depth (form t).part

abbrev depth_behind : Trees → ℕ
depth_behind no_trees = 0
depth_behind (a_tree t ts) = max (part_depth t) (depth_behind ts)

abbrev or_depth : Trees → ℕ
or_depth no_trees = 0
or_depth (a_tree t ts) = max (atom_depth (form t).alone) (or_depth ts)

each_depth : (u : Tree) (ts : Trees) → group_depth (each_of (form u) ts) ≡ max (part_depth u) (depth_behind ts)
each_depth u no_trees = omega arith
each_depth u (a_tree t ts) = ap (λ (n : ℕ). max (part_depth u) n) (each_depth t ts)

some_depth : (u : Tree) (ts : Trees) → group_depth (some_of (form u) ts) ≡ max (atom_depth (form u).alone) (or_depth ts)
some_depth u no_trees = omega arith
some_depth u (a_tree t ts) = ap (λ (n : ℕ). max (atom_depth (form u).alone) n) (some_depth t ts)

joined_depth : (a b : Trees) → depth_behind (joined_trees a b) ≡ max (depth_behind a) (depth_behind b)
joined_depth no_trees b = omega arith
joined_depth (a_tree t a) b = ap (λ (n : ℕ). max (part_depth t) n) (joined_depth a b) ∙ omega arith

with_depth : (g : Group) → group_depth (with_everything g) ≡ group_depth g
with_depth g = by (all_forbidden g) where
  by : (b : Bool) → group_depth (if b then behind_everything g else g) ≡ group_depth g
  by true = omega arith
  by false = refl

abbrev AllDepths : Tree → Trees → ℕ → Type 0
AllDepths t ts d = (group_depth (form (all t ts)).whole ≡ d) × (atom_depth (form (all t ts)).alone ≡ suc d) × (part_depth (all t ts) ≡ suc d)

-- an all of two clauses or more
all_depth : (t : Tree) (ts : Trees) → IsSome ts → AllDepths t ts (max (part_depth t) (depth_behind ts))
all_depth t ts (u, more, is) = subst (λ (us : Trees). AllDepths t us (max (part_depth t) (depth_behind us))) (sym is) (
    let group = joined (form t).part And (each_of (form u) more) in
    let whole : group_depth (with_everything group) ≡ max (part_depth t) (max (part_depth u) (depth_behind more))
    = with_depth group ∙ ap (λ (n : ℕ). max (part_depth t) n) (each_depth u more) in
    (whole, ap (λ (n : ℕ). suc n) whole, ap (λ (n : ℕ). suc n) whole)
    )

module _ (fields : List Field) (most : ℕ) where
  record Depths (t : Plain) (x : Told) : Type 0 where
    whole : tree_opens most Whole t ≡ min (group_depth (form x.alone).whole) most
    alone : tree_opens most Alone t ≡ min (atom_depth (form x.alone).alone) most
    in_and : tree_opens most InAnd t ≡ min (max (part_depth x.parts.first) (depth_behind x.parts.others)) most

  fits_depths : (n : List ℕ) (k : ℕ) (place : _) (ps : List Part) (cased : Bool) → IsSoundPattern ps
      → Depths (trees.leaf (record { field = k; test = tests.Fits ps cased; place = place })) (told_parts (test_parts n (tests.Fits ps cased)))
  fits_depths n k place [] cased s = record { whole = refl; alone = refl; in_and = refl }
  fits_depths n k place (parts.Char c ∷ ps) cased s = record { whole = refl; alone = refl; in_and = refl }
  fits_depths n k place (parts.One ∷ ps) cased s = record { whole = refl; alone = refl; in_and = refl }
  fits_depths n k place (parts.Run ∷ ps) cased s = record { whole = refl; alone = refl; in_and = refl }
  fits_depths n k place (parts.Dash ∷ ps) cased s = let h = s.written in absurd cc
  fits_depths n k place (parts.Hole name ∷ ps) cased s = let h = s.written in absurd cc

  mutual
    depths : (t : Plain) → IsSound fields t → Depths t (told fields t)
    depths (trees.leaf l) s = by l.test s.1 where
      by : (test : LeafTest) → IsSoundTest fields (kind_at fields l.field) test
          → Depths (trees.leaf (record { field = l.field; test = test; place = l.place })) (told_parts (test_parts (name_at fields l.field) test))
      by tests.Has x = record { whole = refl; alone = refl; in_and = refl }
      by tests.Absent x = record { whole = refl; alone = refl; in_and = refl }
      by (tests.Fits ps cased) x = fits_depths (name_at fields l.field) l.field l.place ps cased x.0
      by (tests.Equals z) x = record { whole = refl; alone = refl; in_and = refl }
      by (tests.Compare op z) x = record { whole = refl; alone = refl; in_and = refl }
      by (tests.SameAs other) x = record { whole = refl; alone = refl; in_and = refl }
      by (tests.Finds expression) x = record { whole = refl; alone = refl; in_and = refl }
    depths trees.never s = record { whole = refl; alone = refl; in_and = refl }
    depths (trees.negated t) s =
        let x = (depths t s).alone in
        record { whole = omega (arith, x); alone = omega (arith, x); in_and = omega (arith, x) }
    depths (trees.any no_parts) s = absurd s.0
    depths (trees.any (a_part t no_parts)) s = absurd s.0
    depths (trees.any (a_part t (a_part u ts))) s =
        let x = (depths t s.1.0).alone in
        let more = or_depths (a_part u ts) s.1.1 in
        let row = some_depth (told fields u).alone (some_told fields ts) in
        record { whole = omega (arith, x, more, row); alone = omega (arith, x, more, row); in_and = omega (arith, x, more, row) }
    depths (trees.all no_parts) s = absurd s.0
    depths (trees.all (a_part t no_parts)) s = absurd s.0
    depths (trees.all (a_part t (a_part u ts))) s =
        let x = (depths t s.1.0).in_and in
        let more = and_depths (a_part u ts) s.1.1 in
        let p = (told fields t).parts in
        let rest = each_told fields (a_part u ts) in
        let row = joined_depth p.others rest in
        let d = all_depth p.first (joined_trees p.others rest)
        (a_tree_of p.others (told fields u).parts.first (joined_trees (told fields u).parts.others (each_told fields ts))) in
        let whole = d.0 in
        let alone = d.1 in
        let part = d.2 in
        record { whole = omega (arith, x, more, row, whole); alone = omega (arith, x, more, row, alone); in_and = omega (arith, x, more, row, part) }

    or_depths : (ts : Plains) → AreSound fields ts → parts_opens most Alone ts ≡ min (or_depth (some_told fields ts)) most
    or_depths no_parts s = omega arith
    or_depths (a_part t ts) s =
        let x = (depths t s.0).alone in
        let more = or_depths ts s.1 in
        omega (arith, x, more)

    and_depths : (ts : Plains) → AreSound fields ts → parts_opens most InAnd ts ≡ min (depth_behind (each_told fields ts)) most
    and_depths no_parts s = omega arith
    and_depths (a_part t ts) s =
        let x = (depths t s.0).in_and in
        let more = and_depths ts s.1 in
        let row = joined_depth (told fields t).parts.others (each_told fields ts) in
        omega (arith, x, more, row)

  pub opens_are : (t : Plain) → IsSound fields t → tree_opens most Whole t ≡ min (group_depth (layout (told fields t).alone)) most
  opens_are t s = (depths t s).whole

-- ---- leaf clauses

abbrev part_clauses : Tree → ℕ
part_clauses t = clause_clauses (form t).part

abbrev clauses_behind : Trees → ℕ
clauses_behind no_trees = 0
clauses_behind (a_tree t ts) = part_clauses t + clauses_behind ts

abbrev or_clauses : Trees → ℕ
or_clauses no_trees = 0
or_clauses (a_tree t ts) = atom_clauses (form t).alone + or_clauses ts

each_clauses : (u : Tree) (ts : Trees) → group_clauses (each_of (form u) ts) ≡ part_clauses u + clauses_behind ts
each_clauses u no_trees = omega arith
each_clauses u (a_tree t ts) = ap (λ (n : ℕ). part_clauses u + n) (each_clauses t ts)

some_clauses : (u : Tree) (ts : Trees) → group_clauses (some_of (form u) ts) ≡ atom_clauses (form u).alone + or_clauses ts
some_clauses u no_trees = omega arith
some_clauses u (a_tree t ts) = ap (λ (n : ℕ). atom_clauses (form u).alone + n) (some_clauses t ts)

joined_clauses : (a b : Trees) → clauses_behind (joined_trees a b) ≡ clauses_behind a + clauses_behind b
joined_clauses no_trees b = omega arith
joined_clauses (a_tree t a) b = ap (λ (n : ℕ). part_clauses t + n) (joined_clauses a b) ∙ omega arith

with_clauses : (g : Group) → group_clauses (with_everything g) ≡ one_if (all_forbidden g) + group_clauses g
with_clauses g = by (all_forbidden g) where
  by : (b : Bool) → group_clauses (if b then behind_everything g else g) ≡ one_if b + group_clauses g
  by true = omega arith
  by false = omega arith

abbrev AllClauses : Tree → Trees → ℕ → Type 0
AllClauses t ts n = (group_clauses (form (all t ts)).whole ≡ n) × (atom_clauses (form (all t ts)).alone ≡ n) × (part_clauses (all t ts) ≡ n)

all_clauses : (t : Tree) (ts : Trees) → IsSome ts → AllClauses t ts (one_if (denied t && denied_behind ts) + (part_clauses t + clauses_behind ts))
all_clauses t ts (u, more, is) =
    subst (λ (us : Trees). AllClauses t us (one_if (denied t && denied_behind us) + (part_clauses t + clauses_behind us))) (sym is) (
    let group = joined (form t).part And (each_of (form u) more) in
    let whole : group_clauses (with_everything group)
    ≡ one_if (denied t && (denied u && denied_behind more)) + (part_clauses t + (part_clauses u + clauses_behind more))
    = with_clauses group
    ∙ (ap (λ (b : Bool). one_if (denied t && b) + group_clauses group) (each_denied u more)
    ∙ ap (λ (n : ℕ). one_if (denied t && (denied u && denied_behind more)) + (part_clauses t + n)) (each_clauses u more)) in
    (whole, whole, whole)
    )

module _ (fields : List Field) (most : ℕ)
    (denies : (t : Plain) → IsSound fields t → is_denied t ≡ (denied (told fields t).parts.first && denied_behind (told fields t).parts.others))
    (each_denies : (ts : Plains) → AreSound fields ts → are_denied ts ≡ denied_behind (each_told fields ts))
  where
    record Counted (t : Plain) (x : Told) : Type 0 where
      whole : tree_clauses most Whole t ≡ min (group_clauses (form x.alone).whole) most
      alone : tree_clauses most Alone t ≡ min (atom_clauses (form x.alone).alone) most
      in_and : tree_clauses most InAnd t ≡ min (part_clauses x.parts.first + clauses_behind x.parts.others) most

    fits_counted : (n : List ℕ) (k : ℕ) (place : _) (ps : List Part) (cased : Bool) → IsSoundPattern ps
        → Counted (trees.leaf (record { field = k; test = tests.Fits ps cased; place = place })) (told_parts (test_parts n (tests.Fits ps cased)))
    fits_counted n k place [] cased s = record { whole = refl; alone = refl; in_and = refl }
    fits_counted n k place (parts.Char c ∷ ps) cased s = record { whole = refl; alone = refl; in_and = refl }
    fits_counted n k place (parts.One ∷ ps) cased s = record { whole = refl; alone = refl; in_and = refl }
    fits_counted n k place (parts.Run ∷ ps) cased s = record { whole = refl; alone = refl; in_and = refl }
    fits_counted n k place (parts.Dash ∷ ps) cased s = let h = s.written in absurd cc
    fits_counted n k place (parts.Hole name ∷ ps) cased s = let h = s.written in absurd cc

    mutual
      counted : (t : Plain) → IsSound fields t → Counted t (told fields t)
      counted (trees.leaf l) s = by l.test s.1 where
        by : (test : LeafTest) → IsSoundTest fields (kind_at fields l.field) test
            → Counted (trees.leaf (record { field = l.field; test = test; place = l.place })) (told_parts (test_parts (name_at fields l.field) test))
        by tests.Has x = record { whole = refl; alone = refl; in_and = refl }
        by tests.Absent x = record { whole = refl; alone = refl; in_and = refl }
        by (tests.Fits ps cased) x = fits_counted (name_at fields l.field) l.field l.place ps cased x.0
        by (tests.Equals z) x = record { whole = refl; alone = refl; in_and = refl }
        by (tests.Compare op z) x = record { whole = refl; alone = refl; in_and = refl }
        by (tests.SameAs other) x = record { whole = refl; alone = refl; in_and = refl }
        by (tests.Finds expression) x = record { whole = refl; alone = refl; in_and = refl }
      counted trees.never s = record { whole = refl; alone = refl; in_and = refl }
      counted (trees.negated t) s =
          let x = (counted t s).alone in
          record { whole = omega (arith, x); alone = omega (arith, x); in_and = omega (arith, x) }
      counted (trees.any no_parts) s = absurd s.0
      counted (trees.any (a_part t no_parts)) s = absurd s.0
      counted (trees.any (a_part t (a_part u ts))) s =
          let x = (counted t s.1.0).alone in
          let more = or_counted (a_part u ts) s.1.1 in
          let row = some_clauses (told fields u).alone (some_told fields ts) in
          record { whole = omega (arith, x, more, row); alone = omega (arith, x, more, row); in_and = omega (arith, x, more, row) }
      counted (trees.all no_parts) s = absurd s.0
      counted (trees.all (a_part t no_parts)) s = absurd s.0
      counted (trees.all (a_part t (a_part u ts))) s =
          let x = (counted t s.1.0).in_and in
          let more = and_counted (a_part u ts) s.1.1 in
          let p = (told fields t).parts in
          let rest = each_told fields (a_part u ts) in
          let row = joined_clauses p.others rest in
          let none : one_if (are_denied (a_part t (a_part u ts))) ≡ one_if (denied p.first && denied_behind (joined_trees p.others rest))
          = ap one_if (ap (λ (b : Bool). b && are_denied (a_part u ts)) (denies t s.1.0)
          ∙ (ap (λ (b : Bool). (denied p.first && denied_behind p.others) && b) (each_denies (a_part u ts) s.1.1)
          ∙ (sym (assoc (denied p.first) (denied_behind p.others) (denied_behind rest)) ∙ ap (λ (b : Bool). denied p.first && b) (sym (joined_denied p.others rest))))) in
          let d = all_clauses p.first (joined_trees p.others rest)
          (a_tree_of p.others (told fields u).parts.first (joined_trees (told fields u).parts.others (each_told fields ts))) in
          let whole = d.0 in
          let alone = d.1 in
          let part = d.2 in
          record { whole = omega (arith, x, more, row, none, whole); alone = omega (arith, x, more, row, none, alone); in_and = omega (arith, x, more, row, none, part) }

      or_counted : (ts : Plains) → AreSound fields ts → parts_clauses most Alone ts ≡ min (or_clauses (some_told fields ts)) most
      or_counted no_parts s = omega arith
      or_counted (a_part t ts) s =
          let x = (counted t s.0).alone in
          let more = or_counted ts s.1 in
          omega (arith, x, more)

      and_counted : (ts : Plains) → AreSound fields ts → parts_clauses most InAnd ts ≡ min (clauses_behind (each_told fields ts)) most
      and_counted no_parts s = omega arith
      and_counted (a_part t ts) s =
          let x = (counted t s.0).in_and in
          let more = and_counted ts s.1 in
          let row = joined_clauses (told fields t).parts.others (each_told fields ts) in
          omega (arith, x, more, row)

    pub clauses_are : (t : Plain) → IsSound fields t → tree_clauses most Whole t ≡ min (group_clauses (layout (told fields t).alone)) most
    clauses_are t s = (counted t s).whole
