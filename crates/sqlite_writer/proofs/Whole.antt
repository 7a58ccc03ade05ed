-- A query's text, piece by piece, and what its bytes are.
use Rattle.std.proofs.Common.{ℕ, ◌+◌, ◌-◌, ◌^◌, arith, ◌≡◌, sym, ◌∙◌, ap, false, List, [], ◌++◌, append_assoc, append-nil, min}
use Rattle.std.specs.Prelude.{codes}
use Rattle.event_schema.specs.declared.schema.Schema.{Schema}
use Rattle.sql_lang.specs.Grammar.{Ors}
use Rattle.sql_lang.specs.Expression.{depth}
use Rattle.sql_layout.specs.Layout.{in_quotes, text_or, text_query}
use Rattle.sql_layout.specs.HalvedTrees.{layout}
use Rattle.backend_core.specs.Trees.{Plain}
use Rattle.backend_core.specs.Sound.{IsSound}
use Rattle.sqlite_writer.specs.declared.place.Standing.TheVariants.{InOr}
use Rattle.sqlite_writer.specs.Depths.{tree_depth}
use Rattle.sqlite_writer.specs.Joined.{guarded}
use Rattle.sqlite_writer.specs.Pieces.{tree_text, head_text, written_text}
use Rattle.sqlite_writer.specs.Sizes.{bytes_in}
use Rattle.sqlite_writer.specs.Queries.{query_tree, query_text, query_expr}
use Rattle.sqlite_writer.proofs.TextRows.{bytes_joined}
use Rattle.sqlite_writer.proofs.Texts.{text_is}
use Rattle.sqlite_writer.proofs.DepthLemmas.{depth_is}

five_pieces : (a q w s x : List ℕ) → (a ++ (q ++ (w ++ s))) ++ x ≡ (a ++ (q ++ w)) ++ (s ++ (x ++ []))
five_pieces a q w s x = simp (append_assoc, append-nil)

-- the head and a condition are a query's text
query_pieces : (table : List ℕ) (o : Ors) (tree : List ℕ) → tree ≡ text_or o
    → head_text table ++ tree ≡ text_query (record { table = table; condition = o; ends = false })
query_pieces table o tree is =
    ap (λ (x : List ℕ). head_text table ++ x) is ∙ five_pieces (codes "SELECT * FROM ") (in_quotes 34 table) (codes " WHERE") (codes " ") (text_or o)

-- the pieces of a sound tree with its guards are its query
pub whole_is : (schema : Schema) (w t : Plain) → w ≡ guarded false t → IsSound schema.fields t → written_text schema w ≡ query_text schema t
whole_is schema w t is sound =
    ap (written_text schema) is
    ∙ query_pieces schema.table (layout (query_tree schema t)) (tree_text schema.fields InOr (guarded false t)) (sym (text_is schema.fields false t sound))

pub deep_is : (schema : Schema) (w t : Plain) → w ≡ guarded false t → IsSound schema.fields t → tree_depth (2 ^ 64 - 1) schema.fields w ≡ min (depth (query_expr schema t)) (2 ^ 64 - 1)
deep_is schema w t is sound = ap (tree_depth (2 ^ 64 - 1) schema.fields) is ∙ sym (depth_is schema.fields (2 ^ 64 - 1) (omega arith) false t sound)

pub three_pieces : (out a q w first second third : List ℕ) → first ≡ out ++ a → second ≡ first ++ q → third ≡ second ++ w → third ≡ out ++ (a ++ (q ++ w))
three_pieces out a q w first second third one two three = rw (three, two, one) (simp append_assoc)

pub two_sizes : (first sum : ℕ) (a b : List ℕ) → first ≡ bytes_in a → sum ≡ first + bytes_in b → sum ≡ bytes_in (a ++ b)
two_sizes first sum a b one two = let joined = bytes_joined a b in omega (arith, one, two, joined)
