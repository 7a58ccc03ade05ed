-- What is answered for the values of a chain, by what they are taken for.
use Rattle.std.specs.Prelude.{List, Result}
use Rattle.modifier_words.specs.Chains.{form_of}
use Rattle.modifier_words.specs.Written.{Written}
use Rattle.sig_base.specs.declared.limits.Limits.{Limits}
use Rattle.sig_base.specs.declared.refusal.Fault.{Fault}
use Rattle.sig_base.specs.declared.refusal.Place.{Place}
use Rattle.sig_base.specs.Judged.{Judged}
use Rattle.yaml_tree.specs.Tree.{Scalar}
use Rattle.modifier_values.specs.Uses.{Use, use_refusal}
use Rattle.rule_detections.specs.TestsOf.{UseTests, scalar_use}
use Rattle.rule_detections.specs.declared.test.Test.{Test}

abbrev pub UseJudged : List Place → Written → Limits → Place → Use → Result (List Test) Fault → Type 0
UseJudged unbuilt chain limits place u result = Judged (UseTests chain u) (use_refusal unbuilt limits.value_chars limits.dashes chain place u) result

abbrev pub ScalarJudged : List Place → Written → Limits → Place → Scalar → Result (List Test) Fault → Type 0
ScalarJudged unbuilt chain limits place s result = UseJudged unbuilt chain limits place (scalar_use (form_of chain) s) result
