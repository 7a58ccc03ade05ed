-- The conditions of a rule (Sigma specification 2.0, condition).
use Rattle.std.specs.Prelude.{ℕ, ◌≡◌, not, nat_le, List, [], ◌∷◌, map as list_map, codes, is_some, Some, None}
use Rattle.std.specs.List.{AllZip}
use Rattle.std.specs.declared.option.Option.{Option}
use Rattle.sig_base.specs.declared.limits.Limits.{Limits}
use Rattle.sig_base.specs.declared.refusal.Place.{Place}
use Rattle.sig_base.specs.declared.refusal.Refusal.{Refusal}
use Rattle.sig_conditions.specs.Conditions.{Cond}
use Rattle.sig_conditions.specs.Formulas.{PlainFormula, Why, formula_of, faults}
use Rattle.sig_conditions.specs.Grammar.{ConditionReads}
use Rattle.sig_conditions.specs.Reader.{condition_in}
use Rattle.sig_conditions.specs.Refusals.{refusal_of}
use Rattle.sig_conditions.specs.Words.{has_bar, nesting, words}
use Rattle.sig_base.specs.Judged.{must, first}
use Rattle.yaml_tree.specs.Nodes.{place_of}
use Rattle.yaml_tree.specs.Tree.{Tree}
use Rattle.rule_detections.specs.Detections.{detection_entries}
use Rattle.yaml_tree.specs.Nodes.{is_empty}
use Rattle.yaml_tree.specs.Nodes.{is_text, text_in, parts_in, required, refused_at, value_in, entries_in}

-- the condition that a text is, of at most so many words that nest; there is one where the grammar has one
abbrev pub condition_of : ℕ → List ℕ → Option Cond
condition_of most text = condition_in most (words text)

-- the first name or selector that takes no detection
abbrev pub first_fault : Place → List Why → Option Refusal
first_fault place [] = None
first_fault place (why ∷ whys) = Some (refusal_of place why)

abbrev pub unresolved : Place → List (List ℕ) → Option Cond → Option Refusal
unresolved place names None = None
unresolved place names (Some c) = first_fault place (faults names c)

-- Why a node is no condition over detections of these names: it is no text, it has a `|`, too many words that nest, no
-- reading, or a name or selector that takes no detection.
abbrev pub condition_refusal : Limits → List (List ℕ) → Tree → Option Refusal
condition_refusal limits names t = first (
    must 71 (place_of t) (is_text t)
    ∷ must 61 (place_of t) (not (has_bar (text_in t)))
    ∷ must 62 (place_of t) (nat_le (nesting (words (text_in t))) limits.condition_words)
    ∷ must 60 (place_of t) (is_some (condition_of limits.condition_words (text_in t)))
    ∷ unresolved (place_of t) names (condition_of limits.condition_words (text_in t))
    ∷ [])

-- the formula over the detections that a condition is
pub record IsFormula (names : List (List ℕ)) (t : Tree) (f : PlainFormula) : Type 0 where
  pub condition : Cond
  pub reads : ConditionReads (words (text_in t)) condition
  pub formula : formula_of names condition ≡ Some f

-- the names of the detections, in their order
abbrev pub names_of : Tree → List (List ℕ)
names_of t = list_map (λ e. e.key) (detection_entries t)

-- the value of `condition` is one condition or a list of them, each of which is judged before the next
abbrev pub listed_refusal : Limits → List (List ℕ) → Tree → Option Refusal
listed_refusal limits names t = first (
    must 78 (place_of t) (not (is_empty (parts_in t)))
    ∷ first (list_map (condition_refusal limits names) (parts_in t))
    ∷ [])

abbrev pub conditions_refusal : Limits → Tree → Option Refusal
conditions_refusal limits t = first (
    required (codes "condition") 70 t
    ∷ refused_at (codes "condition") (listed_refusal limits (names_of t)) t
    ∷ [])

abbrev pub conditions_in : Option Tree → List Tree
conditions_in None = []
conditions_in (Some t) = parts_in t

abbrev pub AreConditions : Tree → List PlainFormula → Type 0
AreConditions t fs = AllZip (IsFormula (names_of t)) (conditions_in (value_in (codes "condition") (entries_in t))) fs
