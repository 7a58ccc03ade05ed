-- The depth of a tree with its guards is the depth of the layout's expression.
use Rattle.std.proofs.Common.{ℕ, ◌+◌, ◌≡◌, ◌≤◌, refl, ◌∙◌, ap, Bool, true, false, if◌then◌else◌, List, map, max, min, arith}
use Rattle.std.specs.Prelude.{Some}
use Rattle.event_schema.specs.declared.schema.Field.{Field}
use Rattle.event_schema.specs.declared.schema.FieldKind.{FieldKind}
use Rattle.event_schema.specs.declared.schema.FieldKind.TheVariants as kinds
use Rattle.sig_strings.specs.Edits.{has_wildcard}
use Rattle.sql_lang.specs.Grammar.{Ors, last_and, and_or, Ands, last_not, not_and, Nots, enclosed}
use Rattle.sql_lang.specs.Expression.{or_expr, or_exprs, and_expr, and_exprs, not_expr, test_of, test_depth, depth, chain_depth}
use Rattle.sql_layout.specs.Halves.{or_join, and_join, ors_in_halves, halved_ors, halved_ands}
use Rattle.sql_layout.specs.HalvedTrees.{layout}
use Rattle.sql_layout.proofs.InHalves.{last_part, and_last_part}
use Rattle.sql_layout.proofs.Chains.{or_parts, and_parts, ors_halved, ands_halved}
use Rattle.backend_core.specs.declared.tree.LeafTest.{LeafTest}
use Rattle.backend_core.specs.declared.tree.LeafTest.TheVariants as tests
use Rattle.backend_core.specs.Trees.{Plain}
use Rattle.backend_core.specs.FieldAt.{kind_at, name_at}
use Rattle.backend_core.specs.Sound.{IsSound}
use Rattle.sqlite_writer.specs.Guarded.{wildcard_test, plain_test, same_test, counts_case, written_test, sql_tree}
use Rattle.sqlite_writer.specs.Joined.{guarded}
use Rattle.sqlite_writer.specs.Depths.{one_more, two_depths, text_depth, same_depth, written_depth, or_zero, row_behind, row_depth, halved_depth, tree_depth, parts_depth}
use Rattle.sqlite_writer.proofs.Laid.{IsReckoned, reckoned}

module _ (fields : List Field) where
  test_is : (kind : FieldKind) (name : List ℕ) (test : LeafTest) → written_depth fields test ≡ test_depth (test_of fields (written_test fields kind name test))
  test_is kind name tests.Has = refl
  test_is kind name tests.Absent = refl
  test_is kind name (tests.Fits parts cased) = by (counts_case kind cased) cased (has_wildcard parts) where
    by : (counts cased wild : Bool) → text_depth wild cased ≡ test_depth (test_of fields (if wild then wildcard_test name counts parts else plain_test name cased parts))
    by true cased true = refl
    by false cased true = refl
    by counts true false = refl
    by counts false false = refl
  test_is kind name (tests.Equals n) = refl
  test_is kind name (tests.Compare op n) = refl
  test_is kind name (tests.SameAs other) = by (kind_at fields other) where
    by : (kind : FieldKind) → same_depth kind ≡ test_depth (test_of fields (same_test kind name (name_at fields other)))
    by kinds.Text = refl
    by kinds.Whole = refl
    by kinds.Address = refl
  test_is kind name (tests.Finds expression) = refl

  few_texts : (wild cased : Bool) → text_depth wild cased ≤ 3
  few_texts true cased = omega arith
  few_texts false true = omega arith
  few_texts false false = omega arith

  few_same : (kind : FieldKind) → same_depth kind ≤ 3
  few_same kinds.Text = omega arith
  few_same kinds.Whole = omega arith
  few_same kinds.Address = omega arith

  few_written : (test : LeafTest) → written_depth fields test ≤ 3
  few_written tests.Has = omega arith
  few_written tests.Absent = omega arith
  few_written (tests.Fits parts cased) = few_texts (has_wildcard parts) cased
  few_written (tests.Equals n) = omega arith
  few_written (tests.Compare op n) = omega arith
  few_written (tests.SameAs other) = few_same (kind_at fields other)
  few_written (tests.Finds expression) = omega arith

  module _ (most : ℕ) (some : 3 ≤ most) where
    -- at most the most
    or_depth : Ors → ℕ
    or_depth o = min (depth (or_expr fields o)) most

    and_depth : Ands → ℕ
    and_depth a = min (depth (and_expr fields a)) most

    not_depth : Nots → ℕ
    not_depth n = min (depth (not_expr fields n)) most

    leaf_is : (kind : FieldKind) (name : List ℕ) (test : LeafTest) → min (test_depth (test_of fields (written_test fields kind name test))) most ≡ written_depth fields test
    leaf_is kind name test = let same = test_is kind name test in let few = few_written test in omega (arith, same, few, some)

    not_is : (d e : ℕ) → min d most ≡ e → min (1 + d) most ≡ one_more most e
    not_is d e is = omega (arith, is)

    or_row_behind : (o : Ors) (d e : ℕ) → e ≡ min d most → min (chain_depth (or_exprs fields o) d) most ≡ or_zero (row_behind most (Some e) (map and_depth (or_parts o)))
    unfolding and_depth
    or_row_behind (last_and a) d e is = omega (arith, is)
    or_row_behind (and_or a o) d e is =
        or_row_behind o (1 + max d (depth (and_expr fields a))) (two_depths most e (min (depth (and_expr fields a)) most)) (omega (arith, is))

    or_row : (o : Ors) → or_depth o ≡ row_depth most (map and_depth (or_parts o))
    unfolding or_depth and_depth
    or_row (last_and a) = refl
    or_row (and_or a o) = or_row_behind o (depth (and_expr fields a)) (min (depth (and_expr fields a)) most) refl

    and_row_behind : (a : Ands) (d e : ℕ) → e ≡ min d most → min (chain_depth (and_exprs fields a) d) most ≡ or_zero (row_behind most (Some e) (map not_depth (and_parts a)))
    unfolding not_depth
    and_row_behind (last_not n) d e is = omega (arith, is)
    and_row_behind (not_and n a) d e is =
        and_row_behind a (1 + max d (depth (not_expr fields n))) (two_depths most e (min (depth (not_expr fields n)) most)) (omega (arith, is))

    and_row : (a : Ands) → and_depth a ≡ row_depth most (map not_depth (and_parts a))
    unfolding and_depth not_depth
    and_row (last_not n) = refl
    and_row (not_and n a) = and_row_behind a (depth (not_expr fields n)) (min (depth (not_expr fields n)) most) refl

    or_two : (o p : Ors) → or_depth (or_join o (last_and (last_not (enclosed p)))) ≡ two_depths most (or_depth o) (or_depth p)
    unfolding or_depth
    or_two o p =
        let h : depth (or_expr fields (or_join o (last_and (last_not (enclosed p))))) ≡ 1 + max (depth (or_expr fields o)) (depth (or_expr fields p))
        = last_part fields 0 o (last_not (enclosed p)) in
        omega (arith, h)

    and_two : (a b : Ands) → and_depth (and_join a (last_not (enclosed (last_and b)))) ≡ two_depths most (and_depth a) (and_depth b)
    unfolding and_depth
    and_two a b =
        let h : depth (and_expr fields (and_join a (last_not (enclosed (last_and b))))) ≡ 1 + max (depth (and_expr fields a)) (depth (and_expr fields b))
        = and_last_part fields 0 a (enclosed (last_and b)) in
        omega (arith, h)

    or_halved : (o : Ors) → or_depth (halved_ors o) ≡ halved_depth most (map and_depth (or_parts o))
    or_halved o = ors_halved (row_depth most) (two_depths most) and_depth or_depth or_row or_two o

    and_halved : (a : Ands) → and_depth (halved_ands a) ≡ halved_depth most (map not_depth (and_parts a))
    and_halved a = ands_halved (row_depth most) (two_depths most) not_depth and_depth and_row and_two a

    depths_reckoned : IsReckoned fields or_depth and_depth not_depth not_depth (λ at t. tree_depth most fields t) (λ at ts. parts_depth most fields ts)
    unfolding or_depth and_depth not_depth ors_in_halves
    depths_reckoned = record {
      none = λ at. refl;
      more = λ at t ts. refl;
      leaf_or = λ l. leaf_is (kind_at fields l.field) (name_at fields l.field) l.test;
      leaf_and = λ l. leaf_is (kind_at fields l.field) (name_at fields l.field) l.test;
      leaf_not = λ l. leaf_is (kind_at fields l.field) (name_at fields l.field) l.test;
      never_or = omega (arith, some);
      never_and = omega (arith, some);
      never_not = omega (arith, some);
      not_or = λ n t h. not_is (depth (not_expr fields n)) (tree_depth most fields t) h;
      not_and = λ n t h. not_is (depth (not_expr fields n)) (tree_depth most fields t) h;
      not_again = λ n t h. not_is (depth (not_expr fields n)) (tree_depth most fields t) h;
      any_whole = λ o ts h. or_halved o ∙ ap (halved_depth most) h;
      any_and = λ o ts h. or_halved o ∙ ap (halved_depth most) h;
      any_not = λ o ts h. or_halved o ∙ ap (halved_depth most) h;
      all_or = λ a ts h. and_halved a ∙ ap (halved_depth most) h;
      all_not = λ a ts h. and_halved a ∙ ap (halved_depth most) h;
      one_whole = λ a. refl;
    }

    pub depth_is : (odd : Bool) (t : Plain) → IsSound fields t → min (depth (or_expr fields (layout (sql_tree fields odd t)))) most ≡ tree_depth most fields (guarded odd t)
    unfolding or_depth
    depth_is odd t s = reckoned fields or_depth and_depth not_depth not_depth (λ at u. tree_depth most fields u) (λ at us. parts_depth most fields us) depths_reckoned odd t s
