-- Trees that fit a schema and can be written: no field is missing, no list is needless, patterns are of characters other than
-- U+0000, of single characters and of runs, and a field of whole numbers is compared with numbers and with fields of whole numbers
-- alone, by a pattern only where it has a wildcard. A regular expression, of a field of any kind, is one that the grammar reads, of
-- characters other than U+0000.
use Rattle.std.specs.Prelude.{◌≡◌, ◌<◌, ◌↔◌, true, List, length, ⊤}
use Rattle.event_schema.specs.declared.schema.Field.{Field}
use Rattle.event_schema.specs.declared.schema.FieldKind.{FieldKind}
use Rattle.event_schema.specs.declared.schema.FieldKind.TheVariants as kinds
use Rattle.event_schema.specs.Events.{IsPlainText, IsWholeNumber}
use Rattle.query_lang.specs.Patterns.{is_pattern}
use Rattle.sig_strings.specs.Edits.{all_written, has_wildcard, plain_text}
use Rattle.sig_strings.specs.declared.part.Part.{Part}
use Rattle.backend_core.specs.FieldAt.{kind_at}
use Rattle.backend_core.specs.declared.tree.LeafTest.{LeafTest}
use Rattle.backend_core.specs.declared.tree.LeafTest.TheVariants as tests
use Rattle.backend_core.specs.Trees.{Plain, all, any, negated, leaf, never, Plains, no_parts, a_part}

pub record IsSoundPattern (parts : List Part) : Type 0 where
  pub written : all_written parts ≡ true
  pub plain : IsPlainText (plain_text parts)

-- of a field of this kind, and of others of these fields
abbrev pub IsSoundTest : List Field → FieldKind → LeafTest → Type 0
IsSoundTest fields kind tests.Has = ⊤
IsSoundTest fields kind tests.Absent = ⊤
IsSoundTest fields kind (tests.Fits pattern cased) = IsSoundPattern pattern × (kind ≡ kinds.Whole → has_wildcard pattern ≡ true)
IsSoundTest fields kind (tests.Equals n) = (kind ≡ kinds.Whole) × IsWholeNumber n
IsSoundTest fields kind (tests.Compare op n) = (kind ≡ kinds.Whole) × IsWholeNumber n
IsSoundTest fields kind (tests.SameAs other) = (other < length fields) × ((kind ≡ kinds.Whole) ↔ (kind_at fields other ≡ kinds.Whole))
IsSoundTest fields kind (tests.Finds expression) = (is_pattern expression ≡ true) × IsPlainText expression

-- at least two parts
abbrev pub AreTwo : Plains → Type 0
AreTwo no_parts = ⊥
AreTwo (a_part t no_parts) = ⊥
AreTwo (a_part t (a_part u ts)) = ⊤

module _ (fields : List Field) where
  abbrev mutual
    pub IsSound : Plain → Type 0
    IsSound (all ts) = AreTwo ts × AreSound ts
    IsSound (any ts) = AreTwo ts × AreSound ts
    IsSound (negated t) = IsSound t
    IsSound (leaf l) = (l.field < length fields) × IsSoundTest fields (kind_at fields l.field) l.test
    IsSound never = ⊤

    pub AreSound : Plains → Type 0
    AreSound no_parts = ⊤
    AreSound (a_part t ts) = IsSound t × AreSound ts
