-- A document that is neither a correlation nor refused as a rule is one rule.
use Rattle.std.proofs.Common.{◌≡◌, List, [], ◌∷◌, Option, Some, None, refl}
use Rattle.rule_model.specs.Plain.{PlainRule}
use Rattle.rule_model.specs.Rules.{rule_refusal, correlation_refusal, lone_refusal, IsRule, IsLoneRule}
use Rattle.sig_base.specs.Judged.{first}
use Rattle.sig_base.specs.declared.limits.Limits.{Limits}
use Rattle.sig_base.specs.declared.refusal.Place.{Place}
use Rattle.sig_base.specs.declared.refusal.Refusal.{Refusal}
use Rattle.yaml_tree.specs.Tree.{Tree}

pub some_none : (r : Refusal) → Some r ≡ None → ⊥
some_none r e = cc

-- where no line of a table of two refuses, neither does the second
second_none : (a b : Option Refusal) → first (a ∷ b ∷ []) ≡ None → b ≡ None
second_none None None e = refl
second_none None (Some r) e = absurd (some_none r e)
second_none (Some r) b e = absurd (some_none r e)

pub each_lone : (unbuilt : List Place) → ((limits : Limits) (t : Tree) → rule_refusal unbuilt limits t ≡ None → (rule : PlainRule) × IsRule t rule)
    → (limits : Limits) (t : Tree) → lone_refusal unbuilt limits t ≡ None → (rule : PlainRule) × IsLoneRule unbuilt limits t rule
each_lone unbuilt each limits t taken =
    let rule = each limits t (second_none (correlation_refusal t) (rule_refusal unbuilt limits t) taken) in (rule.0, record { taken = taken; is = rule.1 })
