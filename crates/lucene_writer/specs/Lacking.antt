-- What Lucene lacks: a regular expression, a comparison of two fields, a pattern by case of a field without a twin, a pattern of a field of whole numbers, and the
-- empty text in a field that may have several values, where NOT `f:?*` says that each value is empty, and not that one is.
use Rattle.std.specs.Prelude.{ℕ, zero, suc, Bool, true, false, not, ◌&&◌, List, [], ◌∷◌, Option}
use Rattle.event_schema.specs.declared.schema.Field.{Field}
use Rattle.sig_strings.specs.declared.part.Part.{Part}
use Rattle.backend_core.specs.FieldAt.{is_many}
use Rattle.backend_core.specs.Lacks.{Asks, first_lack}
use Rattle.backend_core.specs.declared.lack.Lack.{Lack}
use Rattle.backend_core.specs.declared.tree.Leaf.{Leaf}
use Rattle.backend_core.specs.declared.tree.LeafTest.{LeafTest}
use Rattle.backend_core.specs.declared.tree.LeafTest.TheVariants as tests
use Rattle.lucene_lang.specs.Faults.{is_whole_at}

-- whether field k keeps the case of its texts in a twin
abbrev pub is_cased : List Field → ℕ → Bool
is_cased [] k = false
is_cased (field ∷ fields) zero = field.cased
is_cased (field ∷ fields) (suc k) = is_cased fields k

abbrev pub is_empty : List Part → Bool
is_empty [] = true
is_empty (p ∷ ps) = false

abbrev pub nothing : Asks
nothing = record { many = false; regex = false; field_ref = false; cased = false; whole_pattern = false; empty_text = false }

abbrev pub a_regex : Asks
a_regex = record { many = false; regex = true; field_ref = false; cased = false; whole_pattern = false; empty_text = false }

abbrev pub other_field : Asks
other_field = record { many = false; regex = false; field_ref = true; cased = false; whole_pattern = false; empty_text = false }

abbrev pub pattern_asks : (cased whole empty : Bool) → Asks
pattern_asks cased whole empty = record { many = false; regex = false; field_ref = false; cased = cased; whole_pattern = whole; empty_text = empty }

-- of a field that has a twin, is of whole numbers, may have several values
abbrev pub test_asks : (twin whole many : Bool) → LeafTest → Asks
test_asks twin whole many tests.Has = nothing
test_asks twin whole many tests.Absent = nothing
test_asks twin whole many (tests.Fits pattern cased) = pattern_asks (cased && not twin) whole (many && is_empty pattern)
test_asks twin whole many (tests.Equals n) = nothing
test_asks twin whole many (tests.Compare op n) = nothing
test_asks twin whole many (tests.SameAs other) = other_field
test_asks twin whole many (tests.Finds expression) = a_regex

abbrev pub lucene_lacks : List Field → Leaf → Option Lack
lucene_lacks fields l = first_lack (test_asks (is_cased fields l.field) (is_whole_at fields l.field) (is_many fields l.field) l.test)
