-- The query that a tree is, and what bytes have to say to be one.
use Rattle.std.specs.Prelude.{ℕ, ◌≡◌, ◌↔◌, false, true, List, encode_utf8_all}
use Rattle.std.specs.Str.{all_scalars}
use Rattle.event_schema.specs.declared.schema.Schema.{Schema}
use Rattle.event_schema.specs.declared.value.Value.{Value}
use Rattle.event_schema.specs.Events.{IsEvent}
use Rattle.event_schema.specs.Rows.{first_values}
use Rattle.sql_lang.specs.Expression.{Expr, or_expr}
use Rattle.sql_lang.specs.Meaning.{SqlSelects}
use Rattle.sql_lang.specs.Reading.{Reads, ReadsWithin}
use Rattle.sql_lang.specs.Grammar.{Query, spell_query}
use Rattle.sql_lang.specs.Tokens.{tokens}
use Rattle.query_tokens.specs.Tokens.{sorts}
use Rattle.sql_layout.specs.Trees.{Tree}
use Rattle.sql_layout.specs.HalvedTrees.{layout, layout_text, fine_or}
use Rattle.backend_core.specs.Trees.{Plain}
use Rattle.backend_core.specs.Holds.{TreeHolds}
use Rattle.sqlite_writer.specs.Guarded.{sql_tree}

-- the tests of a whole tree
abbrev pub query_tree : Schema → Plain → Tree
query_tree schema t = sql_tree schema.fields false t

abbrev pub query_text : Schema → Plain → List ℕ
query_text schema t = layout_text schema.table (query_tree schema t)

abbrev pub query_bytes : Schema → Plain → List ℕ
query_bytes schema t = encode_utf8_all (query_text schema t)

abbrev pub query_expr : Schema → Plain → Expr
query_expr schema t = or_expr schema.fields (layout (query_tree schema t))

-- The bytes are read as one query within this limit of depth, and it selects an event, by the first value of each field, exactly
-- where the tree holds. Their characters spell a query, and no query that they spell has a needless pair of parentheses, but for
-- those around halves.
pub record IsQueryOf (limit : ℕ) (schema : Schema) (t : Plain) (bytes : List ℕ) : Type 0 where
  pub characters : List ℕ
  pub scalars : all_scalars characters ≡ true
  pub encoded : bytes ≡ encode_utf8_all characters
  pub expr : Expr
  pub reads : ReadsWithin limit schema characters expr
  pub only : (other : Expr) → Reads schema bytes other → other ≡ expr
  pub query : Query
  pub spelled : spell_query query ≡ sorts (tokens characters)
  pub fine : (q : Query) → spell_query q ≡ sorts (tokens characters) → fine_or q.condition ≡ true
  pub selects : (row : List (List Value)) → IsEvent schema.fields row → (SqlSelects expr (first_values row) ↔ TreeHolds row t)
