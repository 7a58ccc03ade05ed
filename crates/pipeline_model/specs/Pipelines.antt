-- Which pipeline a document is (pySigma, processing pipelines).
use Rattle.std.specs.Prelude.{ℕ, ℤ, pos, ◌≡◌, Bool, false, ◌&&◌, List, [], map as list_map, codes, Option, Some, None}
use Rattle.std.specs.Fmt.{signed_decimal}
use Rattle.std.specs.List.{AllZip}
use Rattle.std.specs.Str.{bytes_eq}
use Rattle.rule_detections.specs.TestsOf.{truth_text}
use Rattle.yaml_tree.specs.Tree.{Scalar, null, truth, whole, text, Tree, scalar, list, map, Member}
use Rattle.yaml_tree.specs.Nodes.{place_of, is_text, text_in, entries_in, entries_at, parts_in, value_in, text_at}
use Rattle.rule_head.specs.Sources.{source_of}
use Rattle.rule_head.specs.declared.source.LogSource.{LogSource}
use Rattle.rule_detections.specs.Items.{IsItem}
use Rattle.rule_detections.specs.declared.item.Item.{Item}
use Rattle.pipeline_model.specs.declared.pipeline.Pipeline.{Pipeline}
use Rattle.pipeline_model.specs.declared.pipeline.Var.{Var}
use Rattle.pipeline_model.specs.declared.step.Action.{Action}
use Rattle.pipeline_model.specs.declared.step.Action.TheVariants as actions
use Rattle.pipeline_model.specs.declared.step.Choice.{Choice}
use Rattle.pipeline_model.specs.declared.step.Choice.TheVariants as choices
use Rattle.pipeline_model.specs.declared.step.FieldCond.{FieldCond}
use Rattle.pipeline_model.specs.declared.step.FieldCond.TheVariants as conds
use Rattle.pipeline_model.specs.declared.step.Pair.{Pair}
use Rattle.pipeline_model.specs.declared.step.Step.{Step}
use Rattle.pipeline_check.specs.declared.words.Listing.{Listing}
use Rattle.pipeline_check.specs.declared.words.Listing.TheVariants.{Include, Exclude}
use Rattle.pipeline_check.specs.declared.words.StepKind.{StepKind}
use Rattle.pipeline_check.specs.declared.words.StepKind.TheVariants as kinds
use Rattle.pipeline_check.specs.Shapes.{listing_at}
use Rattle.pipeline_model.specs.Checks.{kind_at, chosen_in, parts_at, steps_in}

-- ---- single values; what is absent is the empty text, no list, 0 or false

abbrev pub text_if : Option Tree → List ℕ
text_if None = []
text_if (Some t) = text_in t

-- the text at a key, or the empty one
abbrev pub text_or_none : List ℕ → Tree → List ℕ
text_or_none key t = text_if (value_in key (entries_in t))

-- the texts of a list, or the one text
abbrev pub texts_in : Tree → List (List ℕ)
texts_in t = list_map text_in (parts_in t)

abbrev pub texts_at : List ℕ → Tree → List (List ℕ)
texts_at key t = list_map text_in (parts_at key t)

abbrev pub scalar_whole : Scalar → ℤ
scalar_whole null = pos 0
scalar_whole (truth b) = pos 0
scalar_whole (whole n) = n
scalar_whole (text t) = pos 0

abbrev pub whole_in : Tree → ℤ
whole_in (scalar at s) = scalar_whole s
whole_in (list at es) = pos 0
whole_in (map at ms) = pos 0

abbrev pub whole_if : Option Tree → ℤ
whole_if None = pos 0
whole_if (Some t) = whole_in t

-- of several pipelines those of the lowest priority are run first
abbrev pub priority_of : Tree → ℤ
priority_of t = whole_if (value_in (codes "priority") (entries_in t))

abbrev pub scalar_truth : Scalar → Bool
scalar_truth null = false
scalar_truth (truth b) = b
scalar_truth (whole n) = false
scalar_truth (text t) = false

abbrev pub truth_in : Tree → Bool
truth_in (scalar at s) = scalar_truth s
truth_in (list at es) = false
truth_in (map at ms) = false

abbrev pub truth_if : Option Tree → Bool
truth_if None = false
truth_if (Some t) = truth_in t

-- the items that a step adds are negated
abbrev pub is_negated : Tree → Bool
is_negated t = truth_if (value_in (codes "negated") (entries_in t))

-- conditions are joined by `or`
abbrev pub is_or : Tree → Bool
is_or t = is_text t && bytes_eq (text_in t) (codes "or")

abbrev pub is_or_if : Option Tree → Bool
is_or_if None = false
is_or_if (Some t) = is_or t

abbrev pub is_or_at : List ℕ → Tree → Bool
is_or_at key t = is_or_if (value_in key (entries_in t))

-- ---- variables: a number is its decimal, a truth value its word

abbrev pub scalar_value : Scalar → List ℕ
scalar_value null = []
scalar_value (truth b) = truth_text b
scalar_value (whole n) = signed_decimal n
scalar_value (text t) = t

abbrev pub value_text : Tree → List ℕ
value_text (scalar at s) = scalar_value s
value_text (list at es) = []
value_text (map at ms) = []

abbrev pub var_of : Member → Var
var_of e = record { name = e.key; values = list_map value_text (parts_in e.value) }

-- ---- what steps do

abbrev pub pair_of : Member → Pair
pair_of e = record { from = e.key; to = texts_in e.value }

abbrev pub pairs_at : Tree → List Pair
pairs_at t = list_map pair_of (entries_at (codes "mapping") t)

abbrev pub choice_by : Option Listing → Tree → Choice
choice_by None t = choices.Every
choice_by (Some Include) t = choices.Include (texts_at (codes "include") t)
choice_by (Some Exclude) t = choices.Exclude (texts_at (codes "exclude") t)

-- the placeholders that a step fills
abbrev pub choice_at : Tree → Choice
choice_at t = choice_by (chosen_in (entries_in t)) t

-- a step that adds the items of its entries
pub record IsAdded (t : Tree) (action : Action) : Type 0 where
  pub items : List Item
  pub are_items : AllZip IsItem (entries_at (codes "conditions") t) items
  pub action_is : action ≡ actions.Add items (is_negated t)

-- what a step of this type does
abbrev pub IsAction : StepKind → Tree → Action → Type 0
IsAction kinds.MapNames t action = action ≡ actions.MapNames (pairs_at t)
IsAction kinds.Prefix t action = action ≡ actions.Prefix (text_or_none (codes "prefix") t)
IsAction kinds.Suffix t action = action ≡ actions.Suffix (text_or_none (codes "suffix") t)
IsAction kinds.MapPrefixes t action = action ≡ actions.MapPrefixes (pairs_at t)
IsAction kinds.Drop t action = action ≡ actions.Drop
IsAction kinds.Add t action = IsAdded t action
IsAction kinds.Source t action = action ≡ actions.Source (source_of t)
IsAction kinds.MapTexts t action = action ≡ actions.MapTexts (pairs_at t)
IsAction kinds.FillHoles t action = action ≡ actions.FillHoles (choice_at t)
IsAction kinds.WildHoles t action = action ≡ actions.WildHoles (choice_at t)
IsAction kinds.FailRule t action = action ≡ actions.FailRule (text_or_none (codes "message") t)
IsAction kinds.FailItem t action = action ≡ actions.FailItem (text_or_none (codes "message") t)

-- ---- steps

abbrev pub cond_by : Option Listing → List (List ℕ) → FieldCond
cond_by None names = conds.Include names
cond_by (Some Include) names = conds.Include names
cond_by (Some Exclude) names = conds.Exclude names

-- a condition on a field's name
abbrev pub cond_of : Tree → FieldCond
cond_of t = cond_by (listing_at t) (texts_at (codes "fields") t)

abbrev pub sources_at : Tree → List LogSource
sources_at t = list_map source_of (parts_at (codes "rule_conditions") t)

abbrev pub conds_at : Tree → List FieldCond
conds_at t = list_map cond_of (parts_at (codes "field_name_conditions") t)

-- what steps of all types have
pub record HasConditions (t : Tree) (step : Step) : Type 0 where
  pub id : step.id ≡ text_at (codes "id") t
  pub rule_conds : step.rule_conds ≡ sources_at t
  pub rule_any : step.rule_any ≡ is_or_at (codes "rule_cond_op") t
  pub field_conds : step.field_conds ≡ conds_at t
  pub field_any : step.field_any ≡ is_or_at (codes "field_name_cond_op") t
  pub place : step.place ≡ place_of t

pub record IsStep (t : Tree) (step : Step) : Type 0 where
  pub kind : StepKind
  pub kind_is : kind_at t ≡ Some kind
  pub action : IsAction kind t step.action
  pub conditions : HasConditions t step

-- ---- the pipeline that a document is

pub record IsPipeline (t : Tree) (pipeline : Pipeline) : Type 0 where
  pub name : pipeline.name ≡ text_or_none (codes "name") t
  pub priority : pipeline.priority ≡ priority_of t
  pub vars : pipeline.vars ≡ list_map var_of (entries_at (codes "vars") t)
  pub steps : AllZip IsStep (steps_in t) pipeline.steps
