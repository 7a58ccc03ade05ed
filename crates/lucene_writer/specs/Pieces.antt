-- The text of a tree, part by part, where it stands.
use Rattle.std.specs.Prelude.{ℕ, ℤ, Bool, true, false, not, ◌&&◌, if◌then◌else◌, List, [], ◌∷◌, ◌++◌, codes}
use Rattle.std.specs.Fmt.{signed_decimal}
use Rattle.std.specs.List.{flat_map}
use Rattle.event_schema.specs.declared.schema.Field.{Field}
use Rattle.sig_strings.specs.declared.part.Part.{Part}
use Rattle.sig_strings.specs.declared.part.Part.TheVariants.{Char, One, Run, Dash, Hole}
use Rattle.lucene_layout.specs.Escaped.{is_special, word_escaped}
use Rattle.backend_core.specs.declared.tree.LeafTest.{LeafTest}
use Rattle.backend_core.specs.declared.tree.LeafTest.TheVariants as tests
use Rattle.backend_core.specs.declared.tree.Op.{Op}
use Rattle.backend_core.specs.declared.tree.Op.TheVariants as ops
use Rattle.backend_core.specs.declared.tree.Tree.{Tree}
use Rattle.backend_core.specs.Trees.{Plain, Plains, no_parts, a_part, all, any, negated, leaf, never}
use Rattle.backend_core.specs.View.{tree_view}
use Rattle.lucene_writer.specs.declared.place.Standing.{Standing}
use Rattle.lucene_writer.specs.declared.place.Standing.TheVariants.{Whole, Alone, InAnd}
use Rattle.backend_core.specs.FieldAt.{name_at}
use Rattle.lucene_writer.specs.Told.{searched}

abbrev pub is_whole : Standing → Bool
is_whole Whole = true
is_whole Alone = false
is_whole InAnd = false

abbrev pub is_alone : Standing → Bool
is_alone Whole = false
is_alone Alone = true
is_alone InAnd = false

abbrev pub is_in_and : Standing → Bool
is_in_and Whole = false
is_in_and Alone = false
is_in_and InAnd = true

abbrev pub piece_if : Bool → List ℕ → List ℕ
piece_if true piece = piece
piece_if false piece = []

-- in parentheses, or as it is
abbrev pub enclosed_if : Bool → List ℕ → List ℕ
enclosed_if so text = piece_if so (codes "(") ++ (text ++ piece_if so (codes ")"))

-- ---- names and patterns

abbrev pub char_sign : ℕ → List ℕ
char_sign c = if is_special c then 92 ∷ c ∷ [] else c ∷ []

abbrev pub part_sign : Part → List ℕ
part_sign (Char c) = char_sign c
part_sign One = 63 ∷ []
part_sign Run = 42 ∷ []
part_sign Dash = []
part_sign (Hole name) = []

abbrev pub pattern_text : List Part → List ℕ
pattern_text parts = word_escaped (flat_map part_sign parts)

abbrev pub plain_text : List ℕ → List ℕ
plain_text cs = word_escaped (flat_map char_sign cs)

-- ---- tests

abbrev pub has_text : List ℕ → List ℕ
has_text name = plain_text name ++ codes ":*"

-- with NOT, behind *:* where it isn't in an all
abbrev pub not_text : Standing → List ℕ → List ℕ
not_text at text = enclosed_if (is_alone at) (piece_if (not (is_in_and at)) (codes "*:* AND ") ++ (codes "NOT " ++ text))

abbrev pub empty_text : Standing → List ℕ → List ℕ
empty_text at name = enclosed_if (is_alone at) (has_text name ++ (codes " AND NOT " ++ (plain_text name ++ codes ":?*")))

abbrev pub fits_text : Standing → List ℕ → List Part → List ℕ
fits_text at name [] = empty_text at name
fits_text at name (p ∷ ps) = plain_text name ++ (codes ":" ++ pattern_text (p ∷ ps))

-- what stands before the number of a range, and what behind it
abbrev pub range_start : Op → List ℕ
range_start ops.Lt = codes "[* TO "
range_start ops.Lte = codes "[* TO "
range_start ops.Gt = codes "{"
range_start ops.Gte = codes "["

abbrev pub range_end : Op → List ℕ
range_end ops.Lt = codes "}"
range_end ops.Lte = codes "]"
range_end ops.Gt = codes " TO *]"
range_end ops.Gte = codes " TO *]"

abbrev pub compare_text : List ℕ → Op → ℤ → List ℕ
compare_text name op n = plain_text name ++ (codes ":" ++ (range_start op ++ (signed_decimal n ++ range_end op)))

abbrev pub never_text : Standing → List ℕ
never_text at = enclosed_if (is_alone at) (codes "*:* AND NOT *:*")

-- a comparison with another field and a regular expression are lacking
abbrev pub test_text : Standing → List ℕ → LeafTest → List ℕ
test_text at name tests.Has = has_text name
test_text at name tests.Absent = not_text at (has_text name)
test_text at name (tests.Fits pattern cased) = fits_text at (searched cased name) pattern
test_text at name (tests.Equals n) = plain_text name ++ (codes ":" ++ plain_text (signed_decimal n))
test_text at name (tests.Compare op n) = compare_text name op n
test_text at name (tests.SameAs other) = never_text at
test_text at name (tests.Finds expression) = never_text at

-- ---- trees

-- a clause with NOT, where it stands in an all
abbrev pub is_denied_test : LeafTest → Bool
is_denied_test tests.Has = false
is_denied_test tests.Absent = true
is_denied_test (tests.Fits pattern cased) = false
is_denied_test (tests.Equals n) = false
is_denied_test (tests.Compare op n) = false
is_denied_test (tests.SameAs other) = false
is_denied_test (tests.Finds expression) = false

abbrev pub is_denied : Plain → Bool
is_denied (all ts) = false
is_denied (any ts) = false
is_denied (negated t) = true
is_denied (leaf l) = is_denied_test l.test
is_denied never = false

abbrev pub are_denied : Plains → Bool
are_denied no_parts = true
are_denied (a_part t ts) = is_denied t && are_denied ts

abbrev pub all_denied : List Tree → Bool
all_denied [] = true
all_denied (t ∷ ts) = is_denied (tree_view t) && all_denied ts

module _ (fields : List Field) where
  abbrev mutual
    pub tree_text : Standing → Plain → List ℕ
    tree_text at (all ts) = enclosed_if (not (is_whole at)) (piece_if (are_denied ts) (codes "*:* AND ") ++ parts_text InAnd (codes " AND ") false ts)
    tree_text at (any ts) = enclosed_if (not (is_whole at)) (parts_text Alone (codes " OR ") false ts)
    tree_text at (negated t) = not_text at (tree_text Alone t)
    tree_text at (leaf l) = test_text at (name_at fields l.field) l.test
    tree_text at never = never_text at

    -- with a word before each part, but for the first where none stands before it
    pub parts_text : Standing → List ℕ → Bool → Plains → List ℕ
    parts_text at word behind no_parts = []
    parts_text at word behind (a_part t ts) = piece_if behind word ++ (tree_text at t ++ parts_text at word true ts)

  -- the same of the parts of a vector
  abbrev pub items_text : Standing → List ℕ → Bool → List Tree → List ℕ
  items_text at word behind [] = []
  items_text at word behind (t ∷ ts) = piece_if behind word ++ (tree_text at (tree_view t) ++ items_text at word true ts)

  -- a list of these, that stands here
  abbrev pub all_text : Standing → List Tree → List ℕ
  all_text at ts = enclosed_if (not (is_whole at)) (piece_if (all_denied ts) (codes "*:* AND ") ++ items_text InAnd (codes " AND ") false ts)

  abbrev pub any_text : Standing → List Tree → List ℕ
  any_text at ts = enclosed_if (not (is_whole at)) (items_text Alone (codes " OR ") false ts)
