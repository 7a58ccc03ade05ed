-- The tests of a sound tree can be written and have no faults.
use Rattle.std.proofs.Common.{ℕ, ◌≡◌, ◌<◌, refl, sym, ◌∙◌, ap, Bool, true, false, not, if◌then◌else◌, List, length, subst}
use Rattle.std.specs.Prelude.{ℤ, Some, ◌↔◌}
use Rattle.std.specs.Str.{all_scalars}
use Rattle.event_schema.specs.declared.schema.Field.{Field}
use Rattle.event_schema.specs.declared.schema.FieldKind.{FieldKind}
use Rattle.event_schema.specs.declared.schema.FieldKind.TheVariants as kinds
use Rattle.event_schema.specs.Events.{IsPlainText, IsWholeNumber}
use Rattle.event_schema.specs.Schemas.{names_of}
use Rattle.sig_strings.specs.Edits.{has_wildcard, plain_text}
use Rattle.sig_strings.specs.declared.part.Part.{Part}
use Rattle.sql_lang.specs.Grammar.{Leaf, Collate, Unsaid, NoCase, constant}
use Rattle.sql_lang.specs.Names.{column_of, kind_of}
use Rattle.sql_lang.specs.Tokens.{Op, Eq}
use Rattle.sql_lang.specs.Faults.{whole, unknown, not_whole, is_not_whole, is_bad_like, is_bad_glob}
use Rattle.sql_layout.specs.Escaped.{like_text, glob_text, characters}
use Rattle.sql_layout.specs.Leaves.{has_value, has_no_value, equals_text, equals_field, compares_number, fits_like, fits_glob}
use Rattle.sql_layout.specs.Trees.{IsSound as IsSoundLeaf, EachLeaf, EachOfTrees}
use Rattle.sql_layout.proofs.Written.{like_is_good, glob_is_good, like_plain, glob_plain}
use Rattle.sql_like.specs.Writable.{sql_parts}
use Rattle.backend_core.specs.declared.tree.LeafTest.{LeafTest}
use Rattle.backend_core.specs.declared.tree.LeafTest.TheVariants as tests
use Rattle.backend_core.specs.Trees.{Plain, Plains, no_parts, a_part, all, any, negated, leaf, never}
use Rattle.backend_core.specs.FieldAt.{kind_at, name_at}
use Rattle.backend_core.specs.Sound.{IsSoundPattern, IsSoundTest, IsSound, AreSound}
use Rattle.sqlite_writer.specs.Guarded.{sign_of, wildcard_test, plain_test, same_test, finds_test, counts_case, written_test, is_unsure, other_of, behind_other, guarded_test, sql_tree, sql_trees}
use Rattle.sqlite_writer.specs.Schemas.{AreScalars}
use Rattle.sqlite_writer.proofs.FieldKinds.{name_scalars, kind_found, not_a_number}
use Rattle.sqlite_writer.proofs.LeafMeans.{same_characters}

sound_finds : (fields : List Field) (field expression : List ℕ) → all_scalars field ≡ true → IsPlainText expression → unknown fields field ≡ false
    → IsSoundLeaf fields (finds_test field expression)
sound_finds fields field expression named plain known =
    let letters = plain.0 in
    let above = plain.1 in
    record { writable = rw (named, letters, above) refl; faultless = λ ps. rw known refl }

module _ (fields : List Field)
    (sound_value : (field : List ℕ) → all_scalars field ≡ true → unknown fields field ≡ false → IsSoundLeaf fields (has_value field))
    (sound_no_value : (field : List ℕ) → all_scalars field ≡ true → unknown fields field ≡ false → IsSoundLeaf fields (has_no_value field))
    (sound_text : (field value : List ℕ) (c : Collate) → all_scalars field ≡ true → IsPlainText value → not_whole fields field ≡ true
    → IsSoundLeaf fields (equals_text field value c))
    (sound_number : (field : List ℕ) (op : Op) (n : ℤ) → all_scalars field ≡ true → IsWholeNumber n → whole fields field ≡ true
    → IsSoundLeaf fields (compares_number field op n))
    (sound_texts : (field other : List ℕ) (c : Collate) → all_scalars field ≡ true → all_scalars other ≡ true → not_whole fields field ≡ true
    → not_whole fields other ≡ true → IsSoundLeaf fields (equals_field field other c))
    (sound_wholes : (field other : List ℕ) → all_scalars field ≡ true → all_scalars other ≡ true → whole fields field ≡ true
    → whole fields other ≡ true → IsSoundLeaf fields (equals_field field other Unsaid))
    (sound_like : (field pattern : List ℕ) → all_scalars field ≡ true → IsPlainText pattern → unknown fields field ≡ false
    → is_bad_like 92 pattern ≡ false → IsSoundLeaf fields (fits_like field pattern))
    (sound_glob : (field pattern : List ℕ) → all_scalars field ≡ true → IsPlainText pattern → unknown fields field ≡ false
    → is_bad_glob pattern ≡ false → IsSoundLeaf fields (fits_glob field pattern))
  where
    module _ (name : List ℕ) (kind : FieldKind) (scalars : all_scalars name ≡ true) (of_kind : kind_of fields name ≡ Some kind) where
      known : unknown fields name ≡ false
      known = rw of_kind refl

      texts : (kind ≡ kinds.Whole → ⊥) → not_whole fields name ≡ true
      texts other = ap is_not_whole of_kind ∙ not_a_number kind other

      numbers : kind ≡ kinds.Whole → whole fields name ≡ true
      numbers is = rw (of_kind, is) refl

    plain_characters : (parts : List Part) → IsSoundPattern parts → IsPlainText (characters (sql_parts parts))
    plain_characters parts sound = subst IsPlainText (sym (same_characters parts)) sound.plain

    module _ (names : AreScalars (names_of fields)) (found : (k : ℕ) → k < length fields → column_of fields (name_at fields k) ≡ Some k) where
      module _ (name : List ℕ) (kind : FieldKind) (scalars : all_scalars name ≡ true) (of_kind : kind_of fields name ≡ Some kind) where
        -- with another field, of which both are of whole numbers or none is
        same_sound : (other : ℕ) → other < length fields → (kind ≡ kinds.Whole) ↔ (kind_at fields other ≡ kinds.Whole)
            → IsSoundLeaf fields (same_test (kind_at fields other) name (name_at fields other))
        same_sound other near both = by (kind_at fields other) refl where
          there : kind_of fields (name_at fields other) ≡ Some (kind_at fields other)
          there = kind_found fields (name_at fields other) other (found other near)

          letters : all_scalars (name_at fields other) ≡ true
          letters = name_scalars fields other names

          both_texts : (kind_at fields other ≡ kinds.Whole → ⊥) → IsSoundLeaf fields (equals_field name (name_at fields other) NoCase)
          both_texts none =
              sound_texts name (name_at fields other) NoCase scalars letters (texts name kind scalars of_kind (λ is. none (both.0 is)))
              (texts (name_at fields other) (kind_at fields other) letters there none)

          by : (k : FieldKind) → kind_at fields other ≡ k → IsSoundLeaf fields (same_test k name (name_at fields other))
          by kinds.Text is = both_texts (λ e. let bad : kinds.Text ≡ kinds.Whole = sym is ∙ e in absurd cc)
          by kinds.Whole is =
              sound_wholes name (name_at fields other) scalars letters (numbers name kind scalars of_kind (both.1 is))
              (numbers (name_at fields other) (kind_at fields other) letters there is)
          by kinds.Address is = both_texts (λ e. let bad : kinds.Address ≡ kinds.Whole = sym is ∙ e in absurd cc)

        sound_test : (test : LeafTest) → IsSoundTest fields kind test → IsSoundLeaf fields (written_test fields kind name test)
        sound_test tests.Has sound = sound_value name scalars (known name kind scalars of_kind)
        sound_test tests.Absent sound = sound_no_value name scalars (known name kind scalars of_kind)
        sound_test (tests.Fits parts cased) sound = by (counts_case kind cased) cased (has_wildcard parts) refl where
          other : has_wildcard parts ≡ false → kind ≡ kinds.Whole → ⊥
          other plain is = let wild : has_wildcard parts ≡ true = sound.1 is in absurd cc

          is_known : unknown fields name ≡ false
          is_known = known name kind scalars of_kind

          by : (counts cased wild : Bool) → has_wildcard parts ≡ wild
              → IsSoundLeaf fields (if wild then wildcard_test name counts parts else plain_test name cased parts)
          by true cased true is =
              sound_glob name (glob_text (sql_parts parts)) scalars (glob_plain (sql_parts parts) (plain_characters parts sound.0)) is_known (glob_is_good (sql_parts parts))
          by false cased true is =
              sound_like name (like_text (sql_parts parts)) scalars (like_plain (sql_parts parts) (plain_characters parts sound.0)) is_known (like_is_good (sql_parts parts))
          by counts true false is = sound_text name (plain_text parts) Unsaid scalars sound.0.plain (texts name kind scalars of_kind (other is))
          by counts false false is = sound_text name (plain_text parts) NoCase scalars sound.0.plain (texts name kind scalars of_kind (other is))
        sound_test (tests.Equals n) sound = sound_number name Eq n scalars sound.1 (numbers name kind scalars of_kind sound.0)
        sound_test (tests.Compare op n) sound = sound_number name (sign_of op) n scalars sound.1 (numbers name kind scalars of_kind sound.0)
        sound_test (tests.SameAs other) sound = same_sound other sound.0 sound.1
        sound_test (tests.Finds expression) sound = sound_finds fields name expression scalars sound.1 (known name kind scalars of_kind)

        -- behind the guard of a further field
        sound_behind : (test : LeafTest) → IsSoundTest fields kind test → EachOfTrees (IsSoundLeaf fields) (behind_other fields (other_of test) (written_test fields kind name test))
        sound_behind tests.Has sound = (sound_test tests.Has sound, tt)
        sound_behind tests.Absent sound = (sound_test tests.Absent sound, tt)
        sound_behind (tests.Fits parts cased) sound = (sound_test (tests.Fits parts cased) sound, tt)
        sound_behind (tests.Equals n) sound = (sound_test (tests.Equals n) sound, tt)
        sound_behind (tests.Compare op n) sound = (sound_test (tests.Compare op n) sound, tt)
        sound_behind (tests.SameAs other) sound =
            let letters = name_scalars fields other names in
            let there = kind_found fields (name_at fields other) other (found other sound.0) in
            (sound_value (name_at fields other) letters (known (name_at fields other) (kind_at fields other) letters there), (sound_test (tests.SameAs other) sound, tt))
        sound_behind (tests.Finds expression) sound = (sound_test (tests.Finds expression) sound, tt)

        sound_guarded : (guarded : Bool) (test : LeafTest) → IsSoundTest fields kind test → EachLeaf (IsSoundLeaf fields) (guarded_test fields guarded kind name test)
        sound_guarded true test sound = (sound_value name scalars (known name kind scalars of_kind), sound_behind test sound)
        sound_guarded false test sound = sound_test test sound

      pub named_sound : (guarded : Bool) (k : ℕ) (test : LeafTest) → k < length fields → IsSoundTest fields (kind_at fields k) test
          → EachLeaf (IsSoundLeaf fields) (guarded_test fields guarded (kind_at fields k) (name_at fields k) test)
      named_sound guarded k test in_range sound =
          sound_guarded (name_at fields k) (kind_at fields k) (name_scalars fields k names) (kind_found fields (name_at fields k) k (found k in_range)) guarded test sound

-- what each written test is and 0 is, each test of a tree is
module _ (fields : List Field) (P : Leaf → Type 0) (nothing : P (constant false))
    (each : (guarded : Bool) (k : ℕ) (test : LeafTest) → k < length fields → IsSoundTest fields (kind_at fields k) test
    → EachLeaf P (guarded_test fields guarded (kind_at fields k) (name_at fields k) test))
  where
    mutual
      pub tree_each : (odd : Bool) (t : Plain) → IsSound fields t → EachLeaf P (sql_tree fields odd t)
      tree_each odd (all no_parts) s = absurd s.0
      tree_each odd (all (a_part t ts)) s = (tree_each odd t s.1.0, trees_each odd ts s.1.1)
      tree_each odd (any no_parts) s = absurd s.0
      tree_each odd (any (a_part t ts)) s = (tree_each odd t s.1.0, trees_each odd ts s.1.1)
      tree_each odd (negated t) s = tree_each (not odd) t s
      tree_each true (leaf l) s = each (is_unsure l.test) l.field l.test s.0 s.1
      tree_each false (leaf l) s = each false l.field l.test s.0 s.1
      tree_each odd never s = nothing

      trees_each : (odd : Bool) (ts : Plains) → AreSound fields ts → EachOfTrees P (sql_trees fields odd ts)
      trees_each odd no_parts s = tt
      trees_each odd (a_part t ts) s = (tree_each odd t s.0, trees_each odd ts s.1)
