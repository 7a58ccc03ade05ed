use Rattle.std.proofs.Common.{List, sym, subst}
use Rattle.std.specs.Prelude.{Result}
use Rattle.sig_base.specs.declared.limits.Limits.{Limits}
use Rattle.sig_base.specs.declared.refusal.Fault.{Fault}
use Rattle.sig_base.specs.declared.refusal.Place.{Place}
use Rattle.yaml_tree.specs.Tree.{Tree}
use Rattle.sig_base.specs.Judged.{Judged}
use Rattle.rule_detections.specs.TestsOf.{TestsOf, value_refusal}
use Rattle.modifier_words.specs.Written.{Written}
use Rattle.rule_detections.specs.declared.test.Test.{Test}
use Rattle.rule_detections.proofs.ViewLemmas.{view-Null, view-Truth, view-Whole, view-Text}
use Rattle.rule_detections.proofs.value_tests.resolve.Goals as goal

abbrev Answered : List Place → Written → Limits → Result (List Test) Fault → Tree → Type 0
Answered unbuilt chain limits r v = Judged (TestsOf chain v) (value_refusal unbuilt limits.value_chars limits.dashes chain v) r

pub returns-in-Null-clause-judged : goal.returns-in-Null-clause-judged
returns-in-Null-clause-judged c =
    subst (Answered c.args.unbuilt.now c.args.chain.now c.args.limits.now c.resolve_null.result)
    (sym (view-Null c.args.value.now c.in-Null.is)) (c.resolve_null.ensures.judged c.args.unbuilt.now)

pub returns-in-Truth-clause-judged : goal.returns-in-Truth-clause-judged
returns-in-Truth-clause-judged c =
    subst (Answered c.args.unbuilt.now c.args.chain.now c.args.limits.now c.resolve_truth.result)
    (sym (view-Truth c.args.value.now c.in-Truth.truth c.in-Truth.is)) (c.resolve_truth.ensures.judged c.args.unbuilt.now)

pub returns-in-Whole-clause-judged : goal.returns-in-Whole-clause-judged
returns-in-Whole-clause-judged c =
    subst (Answered c.args.unbuilt.now c.args.chain.now c.args.limits.now c.resolve_whole.result)
    (sym (view-Whole c.args.value.now c.in-Whole.number c.in-Whole.is)) (c.resolve_whole.ensures.judged c.args.unbuilt.now)

pub returns-in-Text-clause-judged : goal.returns-in-Text-clause-judged
returns-in-Text-clause-judged c =
    subst (Answered c.args.unbuilt.now c.args.chain.now c.args.limits.now c.resolve_string.result)
    (sym (view-Text c.args.value.now c.in-Text.text c.in-Text.is)) c.resolve_string.ensures.judged
