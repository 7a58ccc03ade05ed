-- Which rule a document's node is, or the first cause for which it is none (Sigma specification 2.0, rules).
use Rattle.std.specs.Prelude.{◌≡◌, not, List, [], ◌∷◌, codes, Some, None}
use Rattle.std.specs.declared.option.Option.{Option}
use Rattle.sig_base.specs.declared.limits.Limits.{Limits}
use Rattle.sig_base.specs.declared.refusal.Place.{Place}
use Rattle.sig_base.specs.declared.refusal.Refusal.{Refusal}
use Rattle.sig_base.specs.Judged.{must, first}
use Rattle.yaml_tree.specs.Tree.{Tree}
use Rattle.rule_model.specs.Conditions.{conditions_refusal, AreConditions}
use Rattle.rule_detections.specs.Detections.{detections_refusal, AreDetections}
use Rattle.rule_head.specs.Heads.{head_checks, IsHead}
use Rattle.yaml_tree.specs.Nodes.{entries_in, value_in, has_key, place_of, required, refused_at}
use Rattle.rule_model.specs.Plain.{PlainRule}
use Rattle.rule_head.specs.Sources.{source_refusal, source_of}

-- the head, then the log source, then the detections by place, and then the condition; where a regular expression isn't built at
-- each of these places
abbrev pub rule_refusal : List Place → Limits → Tree → Option Refusal
rule_refusal unbuilt limits t = first (
    first (head_checks t)
    ∷ required (codes "logsource") 70 t
    ∷ refused_at (codes "logsource") source_refusal t
    ∷ required (codes "detection") 70 t
    ∷ refused_at (codes "detection") (detections_refusal unbuilt limits) t
    ∷ refused_at (codes "detection") (conditions_refusal limits) t
    ∷ [])

-- a document with the key `correlation` is a correlation, and no rule that has a query or is run (Sigma correlations specification 2.0)
abbrev pub correlation_refusal : Tree → Option Refusal
correlation_refusal t = must 146 (place_of t) (not (has_key (codes "correlation") t))

-- why a document has no rule that has a query or is run: it's a correlation, or no rule
abbrev pub lone_refusal : List Place → Limits → Tree → Option Refusal
lone_refusal unbuilt limits t = first (correlation_refusal t ∷ rule_refusal unbuilt limits t ∷ [])

pub record IsRule (t : Tree) (r : PlainRule) : Type 0 where
  pub head : IsHead t r.head
  pub logsource : Tree
  pub source_there : value_in (codes "logsource") (entries_in t) ≡ Some logsource
  pub source : r.source ≡ source_of logsource
  pub detection : Tree
  pub detection_there : value_in (codes "detection") (entries_in t) ≡ Some detection
  pub detections : AreDetections detection r.detections
  pub conditions : AreConditions detection r.conditions

-- the document is this rule, and no correlation
pub record IsLoneRule (unbuilt : List Place) (limits : Limits) (t : Tree) (rule : PlainRule) : Type 0 where
  pub taken : lone_refusal unbuilt limits t ≡ None
  pub is : IsRule t rule
