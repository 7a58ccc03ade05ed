-- What reading a file as the rule that is run answers.
use Rattle.std.specs.Prelude.{◌≡◌, ⊤, ℕ, Bool, List, [], ◌++◌, Result, Ok, Err}
use Rattle.pipeline_run.specs.Chained.{Makes}
use Rattle.rule_model.specs.Plain.{PlainRule, rule_view, rule_with}
use Rattle.rule_model.specs.declared.rule.Rule.{Rule}
use Rattle.sig_base.specs.declared.limits.Limits.{Limits}
use Rattle.sig_base.specs.declared.refusal.Fault.{Fault}
use Rattle.sig_base.specs.declared.refusal.Fault.TheVariants.{Memory, Refused}
use Rattle.sig_base.specs.declared.refusal.Place.{Place}
use Rattle.sig_base.specs.declared.refusal.Refusal.{Refusal}
use Rattle.yaml_tree.specs.Tree.{Tree, Answer, Member}
use Rattle.rule_regex.specs.Unbuilt.{Unbuilt, of_values, AreUnbuilt}
use Rattle.rule_run.specs.Files.{single_tree}
use Rattle.rule_run.specs.Runs.{AreOfTree, AreOfSingle}

-- a rule that is read without the other entries of its head, which decide nothing of what it matches
abbrev pub IsBare : (PlainRule → Type 0) → Rule → Type 0
IsBare IsRead rule = (rest : List Member) × IsRead (rule_with rest (rule_view rule))

-- something that is so is answered, or a cause for which nothing is; want of memory is free
abbrev pub Answers : {X : Type 0} → (X → Type 0) → (Refusal → Type 0) → Result X Fault → Type 0
Answers IsRead IsCause (Ok x) = IsRead x
Answers IsRead IsCause (Err (Refused r)) = IsCause r
Answers IsRead IsCause (Err Memory) = ⊤

-- For some places of values at which regular expressions aren't built it's so; `Are` says what they are. The builder had refused the texts
-- `before`, and then has refused the texts `after`: behind the former those at these places, and nothing else.
pub record ForPlaces (Are : Unbuilt → Type 0) (before after : List (List ℕ)) (Says : List Place → Type 0) : Type 0 where
  pub values : List Place
  pub refused : List (List ℕ)
  pub follows : after ≡ before ++ refused
  pub are : Are (of_values values refused)
  pub says : Says values

-- said of a tree, of the one tree of some documents, and of that of a file
abbrev pub ForTree : Limits → Tree → List (List ℕ) → List (List ℕ) → Bool → (List Place → Type 0) → Type 0
ForTree limits t before after ended = ForPlaces (AreUnbuilt (Makes limits []) limits t ended) before after

abbrev pub ForDocuments : Limits → List Answer → List (List ℕ) → List (List ℕ) → Bool → (List Place → Type 0) → Type 0
ForDocuments limits documents before after ended = ForPlaces (AreOfTree limits [] (single_tree documents) ended) before after

abbrev pub ForValues : Limits → List ℕ → List (List ℕ) → List (List ℕ) → Bool → (List Place → Type 0) → Type 0
ForValues limits bytes before after ended = ForPlaces (AreOfSingle limits [] bytes ended) before after
