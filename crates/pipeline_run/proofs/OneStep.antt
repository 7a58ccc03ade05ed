-- A document is one pipeline, if any.
use Rattle.std.proofs.Common.{◌≡◌, List, Bool, sym, ap, ◌∙◌, subst}
use Rattle.std.specs.Prelude.{ℕ, ℤ, Option, Some, IfSome, codes}
use Rattle.std.specs.List.{AllZip}
use Rattle.modifier_words.specs.Written.{Written}
use Rattle.sig_base.specs.declared.refusal.Place.{Place}
use Rattle.rule_detections.specs.TestsOf.{TestsOf}
use Rattle.rule_detections.specs.declared.test.Test.{Test}
use Rattle.yaml_tree.specs.Tree.{Tree}
use Rattle.yaml_tree.specs.Nodes.{entries_at}
use Rattle.rule_head.specs.declared.source.LogSource.{LogSource}
use Rattle.rule_detections.specs.Items.{IsItem}
use Rattle.rule_detections.specs.declared.item.Item.{Item}
use Rattle.pipeline_model.specs.Checks.{kind_at, steps_in}
use Rattle.pipeline_model.specs.Pipelines.{is_negated, IsAction, IsStep, IsPipeline}
use Rattle.pipeline_model.specs.declared.pipeline.Pipeline.{Pipeline}
use Rattle.pipeline_model.specs.declared.pipeline.Var.{Var}
use Rattle.pipeline_model.specs.declared.step.Action.{Action}
use Rattle.pipeline_model.specs.declared.step.Action.TheVariants as actions
use Rattle.pipeline_model.specs.declared.step.FieldCond.{FieldCond}
use Rattle.pipeline_model.specs.declared.step.Step.{Step}
use Rattle.pipeline_run.proofs.AddedItems.{item_one}
use Rattle.pipeline_run.proofs.ByType.{by_type, at_type}
use Rattle.pipeline_run.proofs.Lists.{zip_one}

some_same : {A : Type 0} (o : Option A) (x y : A) → o ≡ Some x → o ≡ Some y → x ≡ y
some_same o x y p q = cc

same_step : (s t : Step) → s.id ≡ t.id → s.action ≡ t.action → s.rule_conds ≡ t.rule_conds → s.rule_any ≡ t.rule_any → s.field_conds ≡ t.field_conds
    → s.field_any ≡ t.field_any → s.place ≡ t.place → s ≡ t
same_step s t i a c x f y p =
    let put : Option (List ℕ) → Action → List LogSource → Bool → List FieldCond → Bool → Place → Step =
    λ b d e g h j k. record { id = b; action = d; rule_conds = e; rule_any = g; field_conds = h; field_any = j; place = k } in
    ap (λ (z : Option (List ℕ)). put z s.action s.rule_conds s.rule_any s.field_conds s.field_any s.place) i
    ∙ (ap (λ (z : Action). put t.id z s.rule_conds s.rule_any s.field_conds s.field_any s.place) a
    ∙ (ap (λ (z : List LogSource). put t.id t.action z s.rule_any s.field_conds s.field_any s.place) c
    ∙ (ap (λ (z : Bool). put t.id t.action t.rule_conds z s.field_conds s.field_any s.place) x
    ∙ (ap (λ (z : List FieldCond). put t.id t.action t.rule_conds t.rule_any z s.field_any s.place) f
    ∙ (ap (λ (z : Bool). put t.id t.action t.rule_conds t.rule_any t.field_conds z s.place) y
    ∙ ap (put t.id t.action t.rule_conds t.rule_any t.field_conds t.field_any) p)))))

same_pipeline : (a b : Pipeline) → a.name ≡ b.name → a.priority ≡ b.priority → a.vars ≡ b.vars → a.steps ≡ b.steps → a ≡ b
same_pipeline a b n p v s =
    let put : List ℕ → ℤ → List Var → List Step → Pipeline = λ c d e f. record { name = c; priority = d; vars = e; steps = f } in
    ap (λ (z : List ℕ). put z a.priority a.vars a.steps) n
    ∙ (ap (λ (z : ℤ). put b.name z a.vars a.steps) p
    ∙ (ap (λ (z : List Var). put b.name b.priority z a.steps) v ∙ ap (put b.name b.priority b.vars) s))

module _ (tests_one : (chain : Written) (value : Tree) (a b : List Test) → TestsOf chain value a → TestsOf chain value b → a ≡ b) where
  items_one : (t : Tree) (is js : List Item) → AllZip IsItem (entries_at (codes "conditions") t) is → AllZip IsItem (entries_at (codes "conditions") t) js → is ≡ js
  items_one t is js p q = zip_one IsItem (item_one tests_one) (entries_at (codes "conditions") t) is js p q

  action_one : (t : Tree) (a b : Action) → IfSome (kind_at t) (λ kind. IsAction kind t a → IsAction kind t b → a ≡ b)
  action_one t a b =
      by_type (λ o. IfSome o (λ kind. IsAction kind t a → IsAction kind t b → a ≡ b)) tt
      (λ p q. p ∙ sym q) (λ p q. p ∙ sym q) (λ p q. p ∙ sym q) (λ p q. p ∙ sym q) (λ p q. p ∙ sym q)
      (λ p q. p.action_is ∙ (ap (λ (all : List Item). actions.Add all (is_negated t)) (items_one t p.items q.items p.are_items q.are_items) ∙ sym q.action_is))
      (λ p q. p ∙ sym q) (λ p q. p ∙ sym q) (λ p q. p ∙ sym q) (λ p q. p ∙ sym q) (λ p q. p ∙ sym q) (λ p q. p ∙ sym q) t

  step_one : (t : Tree) (a b : Step) → IsStep t a → IsStep t b → a ≡ b
  step_one t a b p q =
      let same : p.kind ≡ q.kind = some_same (kind_at t) p.kind q.kind p.kind_is q.kind_is in
      let own : IsAction q.kind t a.action = subst (λ kind. IsAction kind t a.action) same p.action in
      let left = p.conditions in
      let right = q.conditions in
      same_step a b (left.id ∙ sym right.id) (at_type (kind_at t) _ q.kind q.kind_is (action_one t a.action b.action) own q.action)
      (left.rule_conds ∙ sym right.rule_conds) (left.rule_any ∙ sym right.rule_any) (left.field_conds ∙ sym right.field_conds)
      (left.field_any ∙ sym right.field_any) (left.place ∙ sym right.place)

  pub pipeline_one : (t : Tree) (a b : Pipeline) → IsPipeline t a → IsPipeline t b → a ≡ b
  pipeline_one t a b p q =
      same_pipeline a b (p.name ∙ sym q.name) (p.priority ∙ sym q.priority) (p.vars ∙ sym q.vars)
      (zip_one IsStep step_one (steps_in t) a.steps b.steps p.steps q.steps)
