-- What holds of each type of a step that a word names, and of none, holds of a step's type.
use Rattle.std.proofs.Common.{◌≡◌, Bool, true, false, subst}
use Rattle.std.specs.Prelude.{ℕ, List, codes, Option, Some, None, IfSome, if◌then◌else◌}
use Rattle.std.specs.Str.{bytes_eq}
use Rattle.yaml_tree.specs.Nodes.{is_text, text_in}
use Rattle.yaml_tree.specs.Tree.{Tree}
use Rattle.pipeline_model.specs.Checks.{kind_if, kind_at}
use Rattle.pipeline_check.specs.Shapes.{type_in}
use Rattle.pipeline_check.specs.Words.{either_kind, kind_of, other_kind_of}

choose : {K : Type 0} (P : K → Type 0) (b : Bool) (x y : K) → P x → P y → P (if b then x else y)
choose P true x y p q = p
choose P false x y p q = q

-- what holds of a step's type, if it has one, holds where it has this one
pub at_type : {K : Type 0} (o : Option K) (P : K → Type 0) (kind : K) → o ≡ Some kind → IfSome o P → P kind
at_type o P kind is h = subst (λ o. IfSome o P) is h

-- ---- by the words that name types, since the types themselves have no names here

module _ (P : _ → Type 0) (none : P None)
    (map_names : P (kind_of (codes "field_name_mapping")))
    (prefix : P (kind_of (codes "field_name_prefix")))
    (suffix : P (kind_of (codes "field_name_suffix")))
    (map_prefixes : P (kind_of (codes "field_name_prefix_mapping")))
    (drop : P (kind_of (codes "drop_detection_item")))
    (add : P (kind_of (codes "add_condition")))
    (source : P (kind_of (codes "change_logsource")))
    (map_texts : P (kind_of (codes "map_string")))
    (fill_holes : P (kind_of (codes "value_placeholders")))
    (wild_holes : P (kind_of (codes "wildcard_placeholders")))
    (fail_rule : P (kind_of (codes "rule_failure")))
    (fail_item : P (kind_of (codes "detection_item_failure"))) where
  by_other : (word : List ℕ) → P (other_kind_of word)
  by_other word =
      choose P (bytes_eq word (codes "add_condition")) _ _ add
      (choose P (bytes_eq word (codes "change_logsource")) _ _ source
      (choose P (bytes_eq word (codes "map_string")) _ _ map_texts
      (choose P (bytes_eq word (codes "value_placeholders")) _ _ fill_holes
      (choose P (bytes_eq word (codes "wildcard_placeholders")) _ _ wild_holes
      (choose P (bytes_eq word (codes "rule_failure")) _ _ fail_rule
      (choose P (bytes_eq word (codes "detection_item_failure")) _ _ fail_item none))))))

  by_word : (word : List ℕ) → P (kind_of word)
  by_word word =
      let Q : _ → Type 0 = λ kind. P (either_kind kind (other_kind_of word)) in
      choose Q (bytes_eq word (codes "field_name_mapping")) _ _ map_names
      (choose Q (bytes_eq word (codes "field_name_prefix")) _ _ prefix
      (choose Q (bytes_eq word (codes "field_name_suffix")) _ _ suffix
      (choose Q (bytes_eq word (codes "field_name_prefix_mapping")) _ _ map_prefixes
      (choose Q (bytes_eq word (codes "drop_detection_item")) _ _ drop (by_other word)))))

  by_value : (o : Option Tree) → P (kind_if o)
  by_value None = none
  by_value (Some t) = choose P (is_text t) (kind_of (text_in t)) None (by_word (text_in t)) none

  pub by_type : (t : Tree) → P (kind_at t)
  by_type t = by_value (type_in t)
