-- What a written tree's text is.
use Rattle.std.proofs.Common.{ℕ, ◌≡◌, ◌≤◌, refl, sym, ◌∙◌, ap, true, false, List, [], ◌++◌, subst}
use Rattle.std.specs.List.{list_all}
use Rattle.std.specs.Str.{all_scalars}
use Rattle.std.specs.Prelude.{encode_utf8_all}
use Rattle.std.proofs.lemmas.Str.{encodes_same}
use Rattle.std.proofs.lemmas.List.Folds.{list_all-append}
use Rattle.event_schema.specs.declared.schema.Field.{Field}
use Rattle.event_schema.specs.declared.schema.Schema.{Schema}
use Rattle.sql_lang.specs.Grammar.{Ors, spell_or, spell_query}
use Rattle.sql_lang.specs.Tokens.{tokens}
use Rattle.query_tokens.specs.Tokens.{sorts}
use Rattle.sql_lang.specs.Expression.{or_expr, depth}
use Rattle.sql_layout.specs.Layout.{has_text, is_writable, text_query}
use Rattle.sql_lang.specs.Reading.{opens_too_far, nots_too_many, nests_too_far, SqlReads, Reads, ReadsWithin}
use Rattle.sql_layout.specs.Trees.{Tree, EachLeaf}
use Rattle.sql_layout.specs.HalvedTrees.{layout, layout_query}
use Rattle.sqlite_writer.proofs.Nested.{IsCalm, GoodOr, good_layout, or_texts, or_opens, or_nots}

spelled_texts : (table : List ℕ) (o : Ors) → all_scalars table ≡ true → list_all has_text (spell_or o) ≡ true
    → is_writable (record { table = table; condition = o; ends = false }) ≡ true
spelled_texts table o scalars texts =
    let condition : list_all has_text (spell_or o ++ []) ≡ true = list_all-append has_text (spell_or o) [] ∙ rw texts refl in
    rw scalars condition

module _ (limit : ℕ) (fields : List Field) (table : List ℕ) (o : Ors) (good : GoodOr limit fields o) (deep : depth (or_expr fields o) ≤ limit) where
  spelled_nests : nests_too_far limit (spell_query (record { table = table; condition = o; ends = false })) ≡ false
  unfolding opens_too_far nots_too_many
  spelled_nests =
      let a = or_opens limit fields o good deep in
      let b = or_nots limit fields o good deep in
      rw (a, b) refl

pub writable_layout : (limit : ℕ) (fields : List Field) (table : List ℕ) (t : Tree) → all_scalars table ≡ true → EachLeaf (IsCalm limit) t
    → is_writable (layout_query table t) ≡ true
writable_layout limit fields table t scalars calm =
    spelled_texts table (layout t) scalars (or_texts limit fields (layout t) (good_layout limit fields t calm))

pub within : (limit : ℕ) (schema : Schema) (t : Tree) → EachLeaf (IsCalm limit) t → depth (or_expr schema.fields (layout t)) ≤ limit
    → sorts (tokens (text_query (layout_query schema.table t))) ≡ spell_query (layout_query schema.table t)
    → Reads schema (encode_utf8_all (text_query (layout_query schema.table t))) (or_expr schema.fields (layout t))
    → ReadsWithin limit schema (text_query (layout_query schema.table t)) (or_expr schema.fields (layout t))
within limit schema t calm deep scanned r =
    let text = text_query (layout_query schema.table t) in
    let e = or_expr schema.fields (layout t) in
    record {
      reads = subst (λ (cs : List ℕ). SqlReads schema cs e) (encodes_same r.characters text (sym r.encoded)) r.reads;
      nests = ap (nests_too_far limit) scanned
          ∙ spelled_nests limit schema.fields schema.table (layout t) (good_layout limit schema.fields t calm) deep;
      deep = deep;
    }
