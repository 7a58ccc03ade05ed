-- Trees of leaves, laid out as queries: their grammar, their text, their value and their size. Clauses with NOT alone select
-- nothing, so `*:*` stands before these, in a group with AND and wherever a NOT stands in none.
use Rattle.std.specs.Prelude.{ℕ, suc, ◌+◌, max, ◌≡◌, Bool, true, false, not, ◌&&◌, ◌||◌, if◌then◌else◌, List, [], ◌∷◌}
use Rattle.event_schema.specs.declared.schema.Field.{Field}
use Rattle.event_schema.specs.declared.value.Value.{Value}
use Rattle.query_tokens.specs.Places.{At}
use Rattle.lucene_lang.specs.declared.query.Word.TheVariants.{And, Or}
use Rattle.lucene_lang.specs.Tokens.{Sort, Colon}
use Rattle.lucene_lang.specs.Grammar.{Group, last, joined, Clause, asked, forbidden, Leaf, everything, Atom, a_leaf, enclosed, spell_leaf}
use Rattle.lucene_lang.specs.Query.{leaf_of}
use Rattle.lucene_lang.specs.Faults.{is_outside, ranged_behind, leaf_faults}
use Rattle.lucene_lang.specs.Meaning.{atom_holds}
use Rattle.lucene_layout.specs.Layout.{EachHasText, text_group}

mutual
  -- an all and an any have at least one part
  pub data Tree : Type 0 where
    leaf : Leaf → Tree
    all : Tree → Trees → Tree
    any : Tree → Trees → Tree
    negated : Tree → Tree

  pub data Trees : Type 0 where
    no_trees : Trees
    a_tree : Tree → Trees → Trees

-- ---- the layout

-- how a tree is written as the whole, as an atom, and as a clause of a group with AND
pub record Form : Type 0 where
  pub whole : Group
  pub alone : Atom
  pub part : Clause

abbrev pub form_of_leaf : Leaf → Form
form_of_leaf l = record { whole = last (asked (a_leaf l)); alone = a_leaf l; part = asked (a_leaf l) }

abbrev pub form_of_group : Group → Form
form_of_group g = record { whole = g; alone = enclosed g; part = asked (enclosed g) }

abbrev pub behind_everything : Group → Group
behind_everything g = joined (asked (a_leaf everything)) And g

abbrev pub form_of_not : Atom → Form
form_of_not a =
    record {
      whole = behind_everything (last (forbidden a));
      alone = enclosed (behind_everything (last (forbidden a)));
      part = forbidden a;
    }

abbrev pub is_forbidden : Clause → Bool
is_forbidden (asked a) = false
is_forbidden (forbidden a) = true

abbrev pub all_forbidden : Group → Bool
all_forbidden (last c) = is_forbidden c
all_forbidden (joined c w g) = is_forbidden c && all_forbidden g

-- *:* stands first where every clause is prohibited
abbrev pub with_everything : Group → Group
with_everything g = if all_forbidden g then behind_everything g else g

-- a list of one part is written as this part
abbrev mutual
  pub form : Tree → Form
  form (leaf l) = form_of_leaf l
  form (negated t) = form_of_not (form t).alone
  form (any t no_trees) = form t
  form (any t (a_tree u ts)) = form_of_group (joined (asked (form t).alone) Or (some_of (form u) ts))
  form (all t no_trees) = form t
  form (all t (a_tree u ts)) = form_of_group (with_everything (joined (form t).part And (each_of (form u) ts)))

  pub some_of : Form → Trees → Group
  some_of f no_trees = last (asked f.alone)
  some_of f (a_tree t ts) = joined (asked f.alone) Or (some_of (form t) ts)

  pub each_of : Form → Trees → Group
  each_of f no_trees = last f.part
  each_of f (a_tree t ts) = joined f.part And (each_of (form t) ts)

abbrev pub layout : Tree → Group
layout t = (form t).whole

abbrev pub layout_text : Tree → List ℕ
layout_text t = text_group (layout t)

-- ---- the value

-- a leaf by whether it holds, and the rest two-valued
module _ (fields : List Field) (row : List (List Value)) where
  abbrev pub leaf_value : Leaf → Bool
  leaf_value l = atom_holds row (leaf_of fields l)

  abbrev mutual
    pub tree_value : Tree → Bool
    tree_value (leaf l) = leaf_value l
    tree_value (all t ts) = tree_value t && all_trees ts
    tree_value (any t ts) = tree_value t || any_tree ts
    tree_value (negated t) = not (tree_value t)

    pub all_trees : Trees → Bool
    all_trees no_trees = true
    all_trees (a_tree t ts) = tree_value t && all_trees ts

    pub any_tree : Trees → Bool
    any_tree no_trees = false
    any_tree (a_tree t ts) = tree_value t || any_tree ts

-- ---- sizes

-- the most parentheses that are open at one place, and how many leaf clauses there are
abbrev mutual
  pub group_depth : Group → ℕ
  group_depth (last c) = clause_depth c
  group_depth (joined c w g) = max (clause_depth c) (group_depth g)

  pub clause_depth : Clause → ℕ
  clause_depth (asked a) = atom_depth a
  clause_depth (forbidden a) = atom_depth a

  pub atom_depth : Atom → ℕ
  atom_depth (a_leaf l) = 0
  atom_depth (enclosed g) = suc (group_depth g)

abbrev mutual
  pub group_clauses : Group → ℕ
  group_clauses (last c) = clause_clauses c
  group_clauses (joined c w g) = clause_clauses c + group_clauses g

  pub clause_clauses : Clause → ℕ
  clause_clauses (asked a) = atom_clauses a
  clause_clauses (forbidden a) = atom_clauses a

  pub atom_clauses : Atom → ℕ
  atom_clauses (a_leaf l) = 1
  atom_clauses (enclosed g) = group_clauses g

-- the signs : of a query's tokens, of which each leaf clause has one
abbrev pub colons : List Sort → ℕ
colons [] = 0
colons (Colon ∷ ss) = suc (colons ss)
colons (s ∷ ss) = colons ss

-- ---- leaves that can be written

-- some token is left out of the language; the flag says that they begin inside the brackets of a range
unfoldable pub has_outside : Bool → List Sort → Bool
has_outside ranged [] = false
has_outside ranged (s ∷ ss) = is_outside ranged s || has_outside (ranged_behind ranged s) ss

-- a leaf whose tokens have texts and are none that is left out, and which has no faults wherever it stands
pub record IsSound (fields : List Field) (l : Leaf) : Type 0 where
  pub writable : EachHasText (spell_leaf l)
  pub inside : has_outside false (spell_leaf l) ≡ false
  pub faultless : (ps : List At) → leaf_faults fields l ps ≡ []

module _ (P : Leaf → Type 0) where
  abbrev mutual
    pub EachLeaf : Tree → Type 0
    EachLeaf (leaf l) = P l
    EachLeaf (all t ts) = EachLeaf t × EachOfTrees ts
    EachLeaf (any t ts) = EachLeaf t × EachOfTrees ts
    EachLeaf (negated t) = EachLeaf t

    pub EachOfTrees : Trees → Type 0
    EachOfTrees no_trees = Unit {0}
    EachOfTrees (a_tree t ts) = EachLeaf t × EachOfTrees ts
