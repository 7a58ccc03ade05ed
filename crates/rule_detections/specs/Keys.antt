-- The keys of items: a field's name and modifiers, each behind a `|` (Sigma specification 2.0, field names and modifiers).
use Rattle.std.specs.Prelude.{ℕ, Bool, true, false, not, ◌&&◌, ◌||◌, ◌==◌, if◌then◌else◌, List, [], ◌∷◌}
use Rattle.event_schema.specs.Names.{is_legal}
pub use Rattle.yaml_tree.specs.Nodes.{is_empty}

-- the text before the first `|`, and the texts behind each `|`
abbrev pub pieces : List ℕ → List ℕ × List (List ℕ)
pieces [] = ([], [])
pieces (c ∷ cs) = if c == 124 then ([], (pieces cs).0 ∷ (pieces cs).1) else (c ∷ (pieces cs).0, (pieces cs).1)

abbrev pub name_in : List ℕ → List ℕ
name_in key = (pieces key).0

abbrev pub words_in : List ℕ → List (List ℕ)
words_in key = (pieces key).1

-- no name, and at least one modifier: the values are keywords
abbrev pub is_keyword_key : List ℕ → Bool
is_keyword_key key = is_empty (name_in key) && not (is_empty (words_in key))

abbrev pub is_item_key : List ℕ → Bool
is_item_key key = is_keyword_key key || is_legal (name_in key)
