use Rattle.std.proofs.Common.{◌≡◌, ◌∙◌, List, sym, subst, refl, ap}
use Rattle.std.specs.Prelude.{Result, None}
use Rattle.std.specs.List.{AllZip}
use Rattle.sig_base.specs.declared.limits.Limits.{Limits}
use Rattle.sig_base.specs.declared.refusal.Fault.{Fault}
use Rattle.sig_base.specs.declared.refusal.Place.{Place}
use Rattle.sig_base.specs.Judged.{Judged, must}
use Rattle.yaml_tree.specs.Tree.{Member}
use Rattle.yaml_tree.specs.View.{node_view}
use Rattle.rule_detections.specs.Detections.{IsAlternative, IsDetection, content_refusal, detection_refusal, is_detection_key}
use Rattle.yaml_tree.specs.Nodes.{parts_in}
use Rattle.rule_detections.specs.declared.detection.Detection.{Detection}
use Rattle.sig_base.proofs.Firsts.{hands_on}
use Rattle.sig_base.proofs.Checks.{skips, stops, first_one}
use Rattle.yaml_tree.proofs.NodeViews.{member_of, view-Entry}
use Rattle.rule_detections.proofs.detection.Detection.read.Goals as goal

abbrev Answered : List Place → Limits → Result Detection Fault → Member → Type 0
Answered unbuilt limits r e = Judged (IsDetection e) (detection_refusal unbuilt limits e) r

pub returns-in_err-must-clause-judged : goal.returns-in_err-must-clause-judged
returns-in_err-must-clause-judged c =
    let entry = c.args.entry.now in
    let named : c.is_detection_key.result ≡ is_detection_key (member_of entry) = c.is_detection_key.ensures ∙ ap is_detection_key (view-Entry entry) in
    subst (Answered c.args.unbuilt.now c.args.limits.now _) (sym (view-Entry entry))
    (hands_on (IsDetection (member_of entry)) (λ (done : Unit {0}). Unit {0}) c.from_residual.result c.in_err-must.field-0.0 _
    (detection_refusal c.args.unbuilt.now c.args.limits.now (member_of entry)) (must 71 entry.place c.is_detection_key.result)
    c.from_residual.ensures.1 (λ y p. p) c.in_err-must.ensures.judged (λ r p. stops _ _ r (ap (must 71 entry.place) (sym named) ∙ p)))

pub returns-in_err-alternatives-clause-judged : goal.returns-in_err-alternatives-clause-judged
returns-in_err-alternatives-clause-judged c =
    let entry = c.args.entry.now in
    let limits = c.args.limits.now in
    let named : c.is_detection_key.result ≡ is_detection_key (member_of entry) = c.is_detection_key.ensures ∙ ap is_detection_key (view-Entry entry) in
    subst (Answered c.args.unbuilt.now limits _) (sym (view-Entry entry))
    (hands_on (IsDetection (member_of entry)) (λ all. AllZip IsAlternative (parts_in (node_view entry.value)) all) c.from_residual-in_err-alternatives.result c.in_err-alternatives.field-0.0 _
    (detection_refusal c.args.unbuilt.now limits (member_of entry)) (content_refusal c.args.unbuilt.now limits entry.place (node_view entry.value))
    c.from_residual-in_err-alternatives.ensures.1 (λ y p. p) c.in_err-alternatives.ensures.judged
    (λ r p. skips _ _ (ap (must 71 entry.place) (sym named) ∙ c.in_ok-must.ensures.judged.0) ∙ (first_one _ ∙ p)))

pub returns-clause-judged : goal.returns-clause-judged
returns-clause-judged c =
    let entry = c.args.entry.now in
    let limits = c.args.limits.now in
    let named : c.is_detection_key.result ≡ is_detection_key (member_of entry) = c.is_detection_key.ensures ∙ ap is_detection_key (view-Entry entry) in
    let d : Detection = record { name = c.in_ok-name.name; alternatives = c.in_ok-alternatives.alternatives; place = entry.place } in
    subst (λ (e : Member). (detection_refusal c.args.unbuilt.now limits e ≡ None) × IsDetection e d) (sym (view-Entry entry)) (
      skips _ _ (ap (must 71 entry.place) (sym named) ∙ c.in_ok-must.ensures.judged.0) ∙ (first_one _ ∙ c.in_ok-alternatives.ensures.judged.0),
      record { name = c.in_ok-name.ensures.ok ∙ c.as_str.ensures.chars; alternatives = c.in_ok-alternatives.ensures.judged.1; place = refl },
    )
