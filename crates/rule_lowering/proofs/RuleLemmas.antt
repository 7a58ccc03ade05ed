-- Whether a rule is refused, and what its tree is.
use Rattle.std.proofs.Common.{ℕ, ◌≡◌, ◌-◌, ◌^◌, ◌≤◌, ◌<◌, min, nat_le, Bool, true, false, if◌then◌else◌, refl, sym, ap, subst, ◌∙◌, List, length, IfOk, IfErr, Ok, Err, Result, arith}
use Rattle.std.specs.Prelude.{Option, Some, None}
use Rattle.std.proofs.lemmas.Bool.Decides.{nat_tests}
use Rattle.backend_core.specs.Trees.{Plain}
use Rattle.backend_core.specs.View.{tree_view}
use Rattle.backend_core.specs.declared.tree.Tree.{Tree}
use Rattle.event_schema.specs.declared.schema.Field.{Field}
use Rattle.event_schema.specs.declared.schema.Schema.{Schema}
use Rattle.rule_model.specs.Plain.{PlainRule, rule_view}
use Rattle.rule_detections.specs.declared.detection.Detection.{Detection}
use Rattle.rule_model.specs.declared.rule.Rule.{Rule}
use Rattle.sig_base.specs.declared.refusal.Fault.{Fault}
use Rattle.sig_base.specs.declared.refusal.Fault.TheVariants.{Memory, Refused}
use Rattle.sig_base.specs.declared.refusal.Place.{Place}
use Rattle.sig_base.specs.declared.refusal.Refusal.{Refusal}
use Rattle.sig_conditions.specs.Formulas.{forms_of, forms_view}
use Rattle.sig_conditions.specs.declared.formula.Formula.{Formula}
use Rattle.sig_base.specs.Judged.{Judged}
use Rattle.sig_strings.specs.declared.part.Part.{Part}
use Rattle.modifier_windash.specs.Choices.{choices, dash_count}
use Rattle.sig_encode.specs.Networks.{Net, pattern_count, patterns_of}
use Rattle.modifier_words.specs.declared.modifier.Joined.TheVariants.{Any}
use Rattle.rule_lowering.specs.Counts.{rule_count}
use Rattle.rule_lowering.specs.Joining.{join}
use Rattle.rule_lowering.specs.Leaves.{leaves}
use Rattle.rule_lowering.specs.Refused.{told, count_refusal}
use Rattle.rule_lowering.specs.TreeOf.{form_trees, tree_of}
use Rattle.schema_index.specs.Numbers.{searched}
use Rattle.rule_lowering.proofs.LeafCounts.{form_trees_are, rule_leaves}

-- ---- refusals

more : (b : Bool) (count limit : ℕ) (place : Place) (least : ℕ) → nat_le count limit ≡ b → limit < count → least ≡ min count (2 ^ 127 - 1)
    → (if b then None else Some (told place (min count (2 ^ 127 - 1)) limit)) ≡ Some (told place least limit)
more true count limit place least e h is = absurd (grind (arith, nat_tests))
more false count limit place least e h is = ap (λ n. Some (told place n limit)) (sym is)

pub refuses : (place : Place) (count limit least : ℕ) → limit < least → least ≡ min count (2 ^ 127 - 1) → count_refusal place count limit ≡ Some (told place least limit)
refuses place count limit least h is = more (nat_le count limit) count limit place least refl (omega arith) is

fewer : (b : Bool) (count limit : ℕ) (r : Option Refusal) → nat_le count limit ≡ b → count ≤ limit → (if b then None else r) ≡ None
fewer true count limit r e h = refl
fewer false count limit r e h = absurd (grind (arith, nat_tests))

pub passes : (place : Place) (count limit least : ℕ) → limit ≤ 16384 → least ≤ limit → least ≡ min count (2 ^ 127 - 1) → count_refusal place count limit ≡ None
passes place count limit least small h is = fewer (nat_le count limit) count limit _ refl (omega arith)

-- ---- the count and the tree

pub count_is : (counted : (parts : List Part) → length (choices parts) ≡ 5 ^ dash_count parts) (networks_counted : (n : Net) → length (patterns_of n) ≡ pattern_count n) (most n wide : ℕ) (schema : Schema) (rule : PlainRule) (found : List ℕ) (fields : List Field) → n ≡ rule_count most wide rule → wide ≡ length found
    → found ≡ searched fields → fields ≡ schema.fields → n ≡ min (leaves (tree_of schema rule)) most
count_is counted networks_counted most n wide schema rule found fields is w f e =
    is ∙ (ap (λ k. rule_count most k rule) (w ∙ ap (λ (ns : List ℕ). length ns) (f ∙ ap searched e)) ∙ rule_leaves counted networks_counted most schema rule)

pub tree_is : (schema : Schema) (rule : Rule) (fields : List Field) (ds : List Detection) (formulas : List Formula)
    → fields ≡ schema.fields → ds ≡ rule.detections → formulas ≡ rule.conditions.items
    → join Any (form_trees fields ds (forms_of (forms_view formulas))) ≡ tree_of schema (rule_view rule)
tree_is schema rule fields ds formulas e f g =
    ap (λ (fs : List Field). join Any (form_trees fs ds (forms_of (forms_view formulas)))) e
    ∙ (ap (λ (us : List Detection). join Any (form_trees schema.fields us (forms_of (forms_view formulas)))) f
    ∙ (ap (λ (cs : List Formula). join Any (form_trees schema.fields rule.detections (forms_of (forms_view cs)))) g
    ∙ ap (join Any) (form_trees_are schema.fields rule.detections (forms_view rule.conditions.items))))

pub judged : (cause : Option Refusal) (tree whole : Plain) (r : Result Tree Fault) → cause ≡ None → tree ≡ whole → IfOk r (λ t. tree_view t ≡ tree)
    → IfErr r (λ e. e ≡ Memory) → Judged (λ t. tree_view t ≡ whole) cause r
judged cause tree whole (Ok t) none same ok err = (none, ok ∙ same)
judged cause tree whole (Err Memory) none same ok err = tt
judged cause tree whole (Err (Refused x)) none same ok err = absurd (cc)

pub kept : (P : Plain → Type 0) (tree whole : Plain) (r : Result Tree Fault) → tree ≡ whole → P whole → IfOk r (λ t. tree_view t ≡ tree) → IfOk r (λ t. P (tree_view t))
kept P tree whole (Ok t) same h ok = subst P (sym (ok ∙ same)) h
kept P tree whole (Err e) same h ok = tt

pub refused_so : (P : Tree → Type 0) (cause : Option Refusal) (e : Fault) (x : Refusal) → e ≡ Refused x → cause ≡ Some x → Judged P cause (Err e)
refused_so P cause Memory x is h = tt
refused_so P cause (Refused y) x is h =
    let same : x ≡ y = cc in
    h ∙ ap (λ z. Some z) same
