-- The text of a tree whose guards are tests of their own, part by part, where it stands.
use Rattle.std.specs.Prelude.{Bool, true, false, List, [], ◌∷◌, ◌++◌, codes, ℕ, map}
use Rattle.event_schema.specs.declared.schema.Field.{Field}
use Rattle.event_schema.specs.declared.schema.FieldKind.{FieldKind}
use Rattle.event_schema.specs.declared.schema.Schema.{Schema}
use Rattle.sql_lang.specs.Grammar.{spell_test}
use Rattle.sql_layout.specs.Leaves.{has_value}
use Rattle.sql_layout.specs.Layout.{spaced, in_quotes}
use Rattle.backend_core.specs.declared.tree.LeafTest.{LeafTest}
use Rattle.backend_core.specs.declared.tree.Tree.{Tree}
use Rattle.backend_core.specs.Trees.{Plain, Plains, no_parts, a_part, all, any, negated, leaf, never}
use Rattle.backend_core.specs.FieldAt.{kind_at, name_at}
use Rattle.backend_core.specs.View.{tree_view}
use Rattle.sqlite_writer.specs.declared.place.Kind.{Kind}
use Rattle.sqlite_writer.specs.declared.place.Kind.TheVariants.{All, Any}
use Rattle.sqlite_writer.specs.declared.place.Standing.{Standing}
use Rattle.sqlite_writer.specs.declared.place.Standing.TheVariants.{InOr, InAnd, BehindNot}
use Rattle.sqlite_writer.specs.Guarded.{written_test}
use Rattle.sql_layout.specs.Lists.{halved}

-- where the parts of a list stand
abbrev pub standing_in : Kind → Standing
standing_in All = InAnd
standing_in Any = InOr

-- parentheses stand around an any in an all, and around a list behind NOT
abbrev pub is_enclosed : Kind → Standing → Bool
is_enclosed All InOr = false
is_enclosed All InAnd = false
is_enclosed All BehindNot = true
is_enclosed Any InOr = false
is_enclosed Any InAnd = true
is_enclosed Any BehindNot = true

abbrev pub word_of : Kind → List ℕ
word_of All = codes " AND "
word_of Any = codes " OR "

abbrev pub piece_if : Bool → List ℕ → List ℕ
piece_if true piece = piece
piece_if false piece = []

-- in parentheses, or as it is
abbrev pub enclosed_if : Bool → List ℕ → List ℕ
enclosed_if so text = piece_if so (codes "(") ++ (text ++ piece_if so (codes ")"))

-- texts with a word before each, but for the first where nothing stands before it
abbrev pub row_text : List ℕ → Bool → List (List ℕ) → List ℕ
row_text word behind [] = []
row_text word behind (text ∷ texts) = piece_if behind word ++ (text ++ row_text word true texts)

-- the first half, the word, and the second half in parentheses
abbrev pub two_texts : List ℕ → List ℕ → List ℕ → List ℕ
two_texts word first second = first ++ (word ++ (codes "(" ++ (second ++ codes ")")))

abbrev pub halved_text : Kind → List (List ℕ) → List ℕ
halved_text kind texts = halved (row_text (word_of kind) false) (two_texts (word_of kind)) texts

abbrev pub test_text : List Field → FieldKind → List ℕ → LeafTest → List ℕ
test_text fields kind field test = spaced (spell_test (written_test fields kind field test))

abbrev pub has_text : List ℕ → List ℕ
has_text field = spaced (spell_test (has_value field))

module _ (fields : List Field) where
  abbrev mutual
    pub tree_text : Standing → Plain → List ℕ
    tree_text at (all ts) = enclosed_if (is_enclosed All at) (halved_text All (parts_text InAnd ts))
    tree_text at (any ts) = enclosed_if (is_enclosed Any at) (halved_text Any (parts_text InOr ts))
    tree_text at (negated t) = codes "NOT " ++ tree_text BehindNot t
    tree_text at (leaf l) = test_text fields (kind_at fields l.field) (name_at fields l.field) l.test
    tree_text at never = codes "0"

    pub parts_text : Standing → Plains → List (List ℕ)
    parts_text at no_parts = []
    parts_text at (a_part t ts) = tree_text at t ∷ parts_text at ts

  -- the same of the parts of a vector
  abbrev pub items_text : Standing → List Tree → List (List ℕ)
  items_text at ts = map (λ t. tree_text at (tree_view t)) ts

-- ---- the whole query

-- what stands before the condition
abbrev pub head_text : List ℕ → List ℕ
head_text table = codes "SELECT * FROM " ++ (in_quotes 34 table ++ codes " WHERE ")

-- with a tree whose guards are tests of their own
abbrev pub written_text : Schema → Plain → List ℕ
written_text schema t = head_text schema.table ++ tree_text schema.fields InOr t
