-- Which tests a tree is in SQL. Where a field has no value a test of its text or number is unknown, and unknown stays unknown
-- behind NOT; so below an odd number of words NOT such a test stands behind the test that there is a value, and one of two fields
-- behind both (SQLite, expressions: NULL and the operators).
use Rattle.std.specs.Prelude.{ℕ, Bool, true, false, not, ◌&&◌, if◌then◌else◌, List, Option, Some, None}
use Rattle.event_schema.specs.declared.schema.Field.{Field}
use Rattle.event_schema.specs.declared.schema.FieldKind.{FieldKind}
use Rattle.event_schema.specs.declared.schema.FieldKind.TheVariants as kinds
use Rattle.sig_strings.specs.declared.part.Part.{Part}
use Rattle.sig_strings.specs.Edits.{has_wildcard, plain_text}
use Rattle.sql_lang.specs.Grammar.{Unsaid, NoCase, Leaf, constant, regexp}
use Rattle.sql_lang.specs.Tokens as tokens
use Rattle.sql_lang.specs.Tokens.{Eq}
use Rattle.sql_layout.specs.Leaves.{has_value, has_no_value, equals_text, equals_field, compares_number, fits_like, fits_glob}
use Rattle.sql_layout.specs.Escaped.{like_text, glob_text}
use Rattle.sql_layout.specs.Trees.{Tree, leaf, all, any, negated, Trees, no_trees, a_tree}
use Rattle.sql_like.specs.Writable.{sql_parts}
use Rattle.backend_core.specs.declared.tree.LeafTest.{LeafTest}
use Rattle.backend_core.specs.declared.tree.LeafTest.TheVariants as tests
use Rattle.backend_core.specs.declared.tree.Op.{Op}
use Rattle.backend_core.specs.declared.tree.Op.TheVariants as ops
use Rattle.backend_core.specs.FieldAt.{name_at, kind_at}
use Rattle.backend_core.specs.Trees.{Plain, Plains, no_parts, a_part}
use Rattle.backend_core.specs.Trees as trees

-- whether case counts in a field of this kind where a test asks for it: in whole numbers stands no letter
abbrev pub counts_case : FieldKind → Bool → Bool
counts_case kinds.Text cased = cased
counts_case kinds.Whole cased = false
counts_case kinds.Address cased = cased

-- "field" GLOB 'pattern' by case, and "field" LIKE 'pattern' ESCAPE '\' in any case
abbrev pub wildcard_test : List ℕ → Bool → List Part → Leaf
wildcard_test field true parts = fits_glob field (glob_text (sql_parts parts))
wildcard_test field false parts = fits_like field (like_text (sql_parts parts))

-- "field" = 'text', and in any case with COLLATE NOCASE
abbrev pub plain_test : List ℕ → Bool → List Part → Leaf
plain_test field true parts = equals_text field (plain_text parts) Unsaid
plain_test field false parts = equals_text field (plain_text parts) NoCase

-- < <= > >=
abbrev pub sign_of : Op → tokens.Op
sign_of ops.Lt = tokens.Lt
sign_of ops.Lte = tokens.Lte
sign_of ops.Gt = tokens.Gt
sign_of ops.Gte = tokens.Gte

-- "field" = "other", and of texts in any case with COLLATE NOCASE; both are of whole numbers or none is
abbrev pub same_test : FieldKind → List ℕ → List ℕ → Leaf
same_test kinds.Text field other = equals_field field other NoCase
same_test kinds.Whole field other = equals_field field other Unsaid
same_test kinds.Address field other = equals_field field other NoCase

-- "field" REGEXP 'expression'
abbrev pub finds_test : List ℕ → List ℕ → Leaf
finds_test field expression = regexp field false expression

-- a test of a field of this kind and name, and of others of these fields
abbrev pub written_test : List Field → FieldKind → List ℕ → LeafTest → Leaf
written_test fields kind field tests.Has = has_value field
written_test fields kind field tests.Absent = has_no_value field
written_test fields kind field (tests.Fits pattern cased) =
    if has_wildcard pattern then wildcard_test field (counts_case kind cased) pattern else plain_test field cased pattern
written_test fields kind field (tests.Equals n) = compares_number field Eq n
written_test fields kind field (tests.Compare op n) = compares_number field (sign_of op) n
written_test fields kind field (tests.SameAs other) = same_test (kind_at fields other) field (name_at fields other)
written_test fields kind field (tests.Finds expression) = finds_test field expression

-- a test that is unknown where there is no value
abbrev pub is_unsure : LeafTest → Bool
is_unsure tests.Has = false
is_unsure tests.Absent = false
is_unsure (tests.Fits pattern cased) = true
is_unsure (tests.Equals n) = true
is_unsure (tests.Compare op n) = true
is_unsure (tests.SameAs other) = true
is_unsure (tests.Finds expression) = true

-- the further field that a test looks at
abbrev pub other_of : LeafTest → Option ℕ
other_of tests.Has = None
other_of tests.Absent = None
other_of (tests.Fits pattern cased) = None
other_of (tests.Equals n) = None
other_of (tests.Compare op n) = None
other_of (tests.SameAs other) = Some other
other_of (tests.Finds expression) = None

-- a test behind the guard of its further field, if it looks at one
abbrev pub behind_other : List Field → Option ℕ → Leaf → Trees
behind_other fields None l = a_tree (leaf l) no_trees
behind_other fields (Some other) l = a_tree (leaf (has_value (name_at fields other))) (a_tree (leaf l) no_trees)

abbrev pub guarded_test : List Field → Bool → FieldKind → List ℕ → LeafTest → Tree
guarded_test fields guarded kind field test =
    if guarded then all (leaf (has_value field)) (behind_other fields (other_of test) (written_test fields kind field test))
    else leaf (written_test fields kind field test)

-- the tests of a tree that stands below an odd number of words NOT, or below an even one; an all of no parts is 1, and an any
-- of none and what never holds are 0
module _ (fields : List Field) where
  abbrev mutual
    pub sql_tree : Bool → Plain → Tree
    sql_tree odd (trees.all no_parts) = leaf (constant true)
    sql_tree odd (trees.all (a_part t ts)) = all (sql_tree odd t) (sql_trees odd ts)
    sql_tree odd (trees.any no_parts) = leaf (constant false)
    sql_tree odd (trees.any (a_part t ts)) = any (sql_tree odd t) (sql_trees odd ts)
    sql_tree odd (trees.negated t) = negated (sql_tree (not odd) t)
    sql_tree odd (trees.leaf l) = guarded_test fields (odd && is_unsure l.test) (kind_at fields l.field) (name_at fields l.field) l.test
    sql_tree odd trees.never = leaf (constant false)

    pub sql_trees : Bool → Plains → Trees
    sql_trees odd no_parts = no_trees
    sql_trees odd (a_part t ts) = a_tree (sql_tree odd t) (sql_trees odd ts)
