-- Which clauses a tree is in Lucene. What a leaf makes of itself is joined into an all around it.
use Rattle.std.specs.Prelude.{ℕ, ℤ, Bool, true, false, List, [], ◌∷◌, map, Option, Some, None}
use Rattle.std.specs.Fmt.{signed_decimal}
use Rattle.event_schema.specs.Schemas.{twin}
use Rattle.event_schema.specs.declared.schema.Field.{Field}
use Rattle.lucene_lang.specs.declared.query.Glyph.{Glyph}
use Rattle.lucene_lang.specs.declared.query.Glyph.TheVariants.{One, Run}
use Rattle.lucene_lang.specs.Grammar.{everything, sought, a_term, a_range}
use Rattle.lucene_layout.specs.Escaped.{name_for, term_for, end_for, as_char}
use Rattle.lucene_layout.specs.Trees.{Tree, leaf, all, any, negated, Trees, no_trees, a_tree}
use Rattle.backend_core.specs.FieldAt.{name_at}
use Rattle.backend_core.specs.declared.tree.LeafTest.{LeafTest}
use Rattle.backend_core.specs.declared.tree.LeafTest.TheVariants as tests
use Rattle.backend_core.specs.declared.tree.Op.{Op}
use Rattle.backend_core.specs.declared.tree.Op.TheVariants as ops
use Rattle.backend_core.specs.Trees.{Plain, Plains, no_parts, a_part}
use Rattle.backend_core.specs.Trees as trees
use Rattle.lucene_writer.specs.Glyphs.{glyphs_of}

-- the name that is sought in: the field's own, or by case that of its twin
abbrev pub searched : (cased : Bool) → List ℕ → List ℕ
searched true name = twin name
searched false name = name

-- the clauses of an all, of which there is one at least
pub record Parts : Type 0 where
  pub first : Tree
  pub others : Trees

abbrev pub one_part : Tree → Parts
one_part t = record { first = t; others = no_trees }

abbrev pub two_parts : Tree → Tree → Parts
two_parts t u = record { first = t; others = a_tree u no_trees }

-- name:pattern
abbrev pub term_leaf : List ℕ → List Glyph → Tree
term_leaf name gs = leaf (sought (name_for name) (a_term (term_for gs)))

-- name:* and name:?*
abbrev pub has_leaf : List ℕ → Tree
has_leaf name = term_leaf name (Run ∷ [])

abbrev pub some_leaf : List ℕ → Tree
some_leaf name = term_leaf name (One ∷ Run ∷ [])

-- the empty text is a value without a character
abbrev pub pattern_parts : List ℕ → List Glyph → Parts
pattern_parts name [] = two_parts (has_leaf name) (negated (some_leaf name))
pattern_parts name (g ∷ gs) = one_part (term_leaf name (g ∷ gs))

-- Numbers from an end to another, each end inside or outside, or open; an open one counts as inside.
pub record Span : Type 0 where
  pub low : Option ℤ
  pub low_in : Bool
  pub high : Option ℤ
  pub high_in : Bool

-- the numbers that stand so to this one
abbrev pub span_of : Op → ℤ → Span
span_of ops.Lt n = record { low = None; low_in = true; high = Some n; high_in = false }
span_of ops.Lte n = record { low = None; low_in = true; high = Some n; high_in = true }
span_of ops.Gt n = record { low = Some n; low_in = false; high = None; high_in = true }
span_of ops.Gte n = record { low = Some n; low_in = true; high = None; high_in = true }

-- name:[* TO n}, name:[* TO n], name:{n TO *] and name:[n TO *]
abbrev pub range_leaf : List ℕ → Span → Tree
range_leaf name s = leaf (sought (name_for name) (a_range s.low_in (end_for s.low) (end_for s.high) s.high_in))

-- everything, and not everything
abbrev pub never_parts : Parts
never_parts = two_parts (leaf everything) (negated (leaf everything))

-- of a test of the field of this name; for a comparison with another field and a regular expression, which are lacking, it's what never holds
abbrev pub test_parts : List ℕ → LeafTest → Parts
test_parts name tests.Has = one_part (has_leaf name)
test_parts name tests.Absent = one_part (negated (has_leaf name))
test_parts name (tests.Fits pattern cased) = pattern_parts (searched cased name) (glyphs_of pattern)
test_parts name (tests.Equals n) = one_part (term_leaf name (map as_char (signed_decimal n)))
test_parts name (tests.Compare op n) = one_part (range_leaf name (span_of op n))
test_parts name (tests.SameAs other) = never_parts
test_parts name (tests.Finds expression) = never_parts

abbrev pub joined_trees : Trees → Trees → Trees
joined_trees no_trees us = us
joined_trees (a_tree t ts) us = a_tree t (joined_trees ts us)

-- a tree by itself, and as clauses of an all around it
pub record Told : Type 0 where
  pub alone : Tree
  pub parts : Parts

abbrev pub told_tree : Tree → Told
told_tree t = record { alone = t; parts = one_part t }

abbrev pub told_parts : Parts → Told
told_parts p = record { alone = all p.first p.others; parts = p }

-- an all of no parts is *:*, and an any of none never holds
module _ (fields : List Field) where
  abbrev mutual
    pub told : Plain → Told
    told (trees.all no_parts) = told_tree (leaf everything)
    told (trees.all (a_part t ts)) = told_tree (all (told t).parts.first (joined_trees (told t).parts.others (each_told ts)))
    told (trees.any no_parts) = told_parts never_parts
    told (trees.any (a_part t ts)) = told_tree (any (told t).alone (some_told ts))
    told (trees.negated t) = told_tree (negated (told t).alone)
    told (trees.leaf l) = told_parts (test_parts (name_at fields l.field) l.test)
    told trees.never = told_parts never_parts

    pub each_told : Plains → Trees
    each_told no_parts = no_trees
    each_told (a_part t ts) = a_tree (told t).parts.first (joined_trees (told t).parts.others (each_told ts))

    pub some_told : Plains → Trees
    some_told no_parts = no_trees
    some_told (a_part t ts) = a_tree (told t).alone (some_told ts)

  abbrev pub lucene_tree : Plain → Tree
  lucene_tree t = (told t).alone
