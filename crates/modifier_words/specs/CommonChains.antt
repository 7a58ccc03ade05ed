-- Chains without encodings, dashes, placeholders, networks, orders, references and regular expressions.
use Rattle.std.specs.Prelude.{Bool, ◌&&◌, ◌||◌, not, List}
use Rattle.std.specs.List.{list_all}
use Rattle.modifier_words.specs.Chains.{is_empty, is_presence, at_most_one}
use Rattle.modifier_words.specs.Kinds.{is_position, is_all, is_cased, is_exists}
use Rattle.modifier_words.specs.declared.modifier.Modifier.{Modifier}

abbrev pub is_common_text_word : Modifier → Bool
is_common_text_word modifier = is_position modifier || is_all modifier || is_cased modifier

-- a position, `all`, `cased` or `exists`
abbrev pub is_common_word : Modifier → Bool
is_common_word modifier = is_common_text_word modifier || is_exists modifier

-- no modifier, `exists` alone at a field, or at most one position, one `all` and one `cased`, in any order
abbrev pub is_common_chain : Bool → List Modifier → Bool
is_common_chain keyword modifiers =
    is_empty modifiers
    || (is_presence modifiers && not keyword)
    || (list_all is_common_text_word modifiers && at_most_one is_position modifiers && at_most_one is_all modifiers && at_most_one is_cased modifiers)
