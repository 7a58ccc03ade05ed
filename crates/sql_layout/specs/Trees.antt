-- Trees of tests: their value, and which of them can be written.
use Rattle.std.specs.Prelude.{◌≡◌, true, List, [], Option}
use Rattle.std.specs.List.{list_all}
use Rattle.query_tokens.specs.Places.{At}
use Rattle.sql_lang.specs.Grammar.{Leaf, spell_test}
use Rattle.event_schema.specs.declared.schema.Field.{Field}
use Rattle.event_schema.specs.declared.value.Value.{Value}
use Rattle.sql_lang.specs.Expression.{test_of}
use Rattle.sql_lang.specs.Faults.{test_faults}
use Rattle.sql_layout.specs.Layout.{has_text}
use Rattle.sql_lang.specs.Meaning.{Truth, Yes, No, both, either, negation, test_value}

mutual
  -- an all and an any have at least one part
  pub data Tree : Type 0 where
    leaf : Leaf → Tree
    all : Tree → Trees → Tree
    any : Tree → Trees → Tree
    negated : Tree → Tree

  pub data Trees : Type 0 where
    no_trees : Trees
    a_tree : Tree → Trees → Trees

-- ---- the value, and leaves that can be written

-- a leaf by its test, an all by AND, an any by OR, and a negated tree by NOT
module _ (fields : List Field) (row : List (Option Value)) where
  abbrev mutual
    pub tree_value : Tree → Truth
    tree_value (leaf l) = test_value (test_of fields l) row
    tree_value (all t ts) = both (tree_value t) (all_trees ts)
    tree_value (any t ts) = either (tree_value t) (any_tree ts)
    tree_value (negated t) = negation (tree_value t)

    pub all_trees : Trees → Truth
    all_trees no_trees = Yes
    all_trees (a_tree t ts) = both (tree_value t) (all_trees ts)

    pub any_tree : Trees → Truth
    any_tree no_trees = No
    any_tree (a_tree t ts) = either (tree_value t) (any_tree ts)

-- a test whose tokens have texts, and which has no faults wherever it stands
pub record IsSound (fields : List Field) (l : Leaf) : Type 0 where
  pub writable : list_all has_text (spell_test l) ≡ true
  pub faultless : (ps : List At) → test_faults fields [] l ps ≡ []

module _ (P : Leaf → Type 0) where
  abbrev mutual
    pub EachLeaf : Tree → Type 0
    EachLeaf (leaf l) = P l
    EachLeaf (all t ts) = EachLeaf t × EachOfTrees ts
    EachLeaf (any t ts) = EachLeaf t × EachOfTrees ts
    EachLeaf (negated t) = EachLeaf t

    pub EachOfTrees : Trees → Type 0
    EachOfTrees no_trees = Unit {0}
    EachOfTrees (a_tree t ts) = EachLeaf t × EachOfTrees ts
