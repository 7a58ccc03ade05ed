-- The regular expressions of a document's detections: one for each text that the chain of its item takes for one (modifier `re`).
use Rattle.std.specs.Prelude.{ℕ, nat_le, if◌then◌else◌, is_none, List, [], ◌∷◌, length, Option, Some, None}
use Rattle.std.specs.List.{flat_map}
use Rattle.modifier_words.specs.Chains.{chain_refusal}
use Rattle.modifier_words.specs.Written.{Written}
use Rattle.sig_base.specs.Judged.{must, first}
use Rattle.sig_base.specs.declared.limits.Limits.{Limits}
use Rattle.sig_base.specs.declared.refusal.Place.{Place}
use Rattle.sig_base.specs.declared.refusal.Refusal.{Refusal}
use Rattle.rule_detections.specs.TestsOf.{use_of}
use Rattle.modifier_values.specs.Uses.{Use, text_of, expression_in}
use Rattle.yaml_tree.specs.Nodes.{parts_in, place_of, entered, key_place}
use Rattle.yaml_tree.specs.Tree.{Tree, scalar, list, map, Member}
use Rattle.rule_detections.specs.Detections.{detection_entries}
use Rattle.rule_detections.specs.Items.{key_chain}
use Rattle.rule_detections.specs.Keys.{words_in, is_keyword_key, is_item_key}
use Rattle.rule_detections.specs.declared.expression.Expression.{Expression}

abbrev pub expression_at : Place → Option (List ℕ) → List Expression
expression_at place None = []
expression_at place (Some text) = record { place = place; text = text } ∷ []

-- of a value at a place that is taken so, unless its text has too many characters
abbrev pub use_expressions : ℕ → Place → Use → List Expression
use_expressions most place u = if nat_le (length (text_of u)) most then expression_at place (expression_in u) else []

abbrev pub value_expressions : ℕ → Written → Tree → List Expression
value_expressions most chain value = use_expressions most (place_of value) (use_of chain value)

-- why the key of an entry is none of an item: its name, or its modifiers
abbrev pub key_refusal : Member → Option Refusal
key_refusal e = first (
    must 71 (key_place e) (is_item_key e.key)
    ∷ chain_refusal (is_keyword_key e.key) (key_place e) (words_in e.key)
    ∷ [])

-- of an entry's values, where its key is one of an item
abbrev pub item_expressions : Limits → Member → List Expression
item_expressions limits e =
    if is_none (key_refusal e) then flat_map (value_expressions limits.value_chars (key_chain e)) (parts_in e.value) else []

-- of an alternative; a keyword that is a scalar by itself has no modifiers
abbrev pub alternative_expressions : Limits → Tree → List Expression
alternative_expressions limits (scalar a s) = []
alternative_expressions limits (list a es) = []
alternative_expressions limits (map a ms) = flat_map (item_expressions limits) (entered ms)

abbrev pub detection_expressions : Limits → Member → List Expression
detection_expressions limits e = flat_map (alternative_expressions limits) (parts_in e.value)

-- of all detections, in their order
abbrev pub detections_expressions : Limits → Tree → List Expression
detections_expressions limits t = flat_map (detection_expressions limits) (detection_entries t)
