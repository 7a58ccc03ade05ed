-- The query that a tree is, and what bytes have to say to be one.
use Rattle.std.specs.Prelude.{ℕ, ◌≡◌, ◌↔◌, true, List, encode_utf8_all}
use Rattle.std.specs.Str.{all_scalars}
use Rattle.event_schema.specs.Events.{IsEvent}
use Rattle.event_schema.specs.declared.schema.Schema.{Schema}
use Rattle.event_schema.specs.declared.value.Value.{Value}
use Rattle.lucene_lang.specs.Grammar as grammar
use Rattle.lucene_lang.specs.Query.{Group}
use Rattle.lucene_lang.specs.Meaning.{LuceneSelects}
use Rattle.lucene_lang.specs.Reading.{Reads, ReadsWithin}
use Rattle.lucene_layout.specs.Trees.{layout, layout_text, group_depth, group_clauses}
use Rattle.backend_core.specs.Trees.{Plain}
use Rattle.backend_core.specs.Holds.{TreeHolds}
use Rattle.lucene_writer.specs.Told.{lucene_tree}

abbrev pub query_layout : Schema → Plain → grammar.Group
query_layout schema t = layout (lucene_tree schema.fields t)

abbrev pub query_text : Schema → Plain → List ℕ
query_text schema t = layout_text (lucene_tree schema.fields t)

abbrev pub query_bytes : Schema → Plain → List ℕ
query_bytes schema t = encode_utf8_all (query_text schema t)

-- the most parentheses that are open at one place, and the leaf clauses, `*:*` included
abbrev pub query_depth : Schema → Plain → ℕ
query_depth schema t = group_depth (query_layout schema t)

abbrev pub query_clauses : Schema → Plain → ℕ
query_clauses schema t = group_clauses (query_layout schema t)

-- The bytes are read as one group within this limit of parentheses, and it selects an event exactly where the tree holds.
pub record IsQueryOf (limit : ℕ) (schema : Schema) (t : Plain) (bytes : List ℕ) : Type 0 where
  pub characters : List ℕ
  pub scalars : all_scalars characters ≡ true
  pub encoded : bytes ≡ encode_utf8_all characters
  pub query : Group
  pub reads : ReadsWithin limit schema characters query
  pub only : (other : Group) → Reads schema bytes other → other ≡ query
  pub selects : (row : List (List Value)) → IsEvent schema.fields row → (LuceneSelects query row ↔ TreeHolds row t)
