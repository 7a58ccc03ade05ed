-- What the code keeps of the files that it read.
use Rattle.std.specs.Prelude.{◌≡◌, ◌≤◌, ℕ, List, ◌++◌, map, length}
use Rattle.std.specs.List.{AllZip}
use Rattle.correlation_read.specs.Binding.{Names, names_of_head, names_of_plain}
use Rattle.correlation_read.specs.Correlations.{PlainCorrelation, correlation_view, correlation_with, IsSpan}
use Rattle.correlation_read.specs.declared.correlation.Correlation.{Correlation}
use Rattle.detection_eval.specs.Ready as ready
use Rattle.event_schema.specs.declared.schema.Schema.{Schema}
use Rattle.rule_model.specs.Plain.{PlainRule}
use Rattle.rule_model.specs.declared.rule.Rule.{Rule}
use Rattle.rule_run.specs.Answers.{IsBare}
use Rattle.yaml_tree.specs.Tree.{Member}
use Rattle.correlation_files.specs.Outcomes.{Outcome, rules_in, correlations_in}
use Rattle.correlation_files.specs.declared.found.Found.{Found}
use Rattle.correlation_files.specs.declared.found.Sourced.{Sourced}

-- a correlation, behind the name of the file that it stands in
abbrev pub Named : Type 0
Named = List ℕ × PlainCorrelation

abbrev pub named : List ℕ → List PlainCorrelation → List Named
named file cs = map (λ c. (file, c)) cs

-- by what rules are meant
abbrev pub names_of_rules : List PlainRule → List Names
names_of_rules rules = map (λ rule. names_of_plain rule.head) rules

-- the rule, without the entries of its head that decide nothing
abbrev pub IsBareOf : PlainRule → Rule → Type 0
IsBareOf made rule = IsBare (λ whole. whole ≡ made) rule

-- the correlation, without the entries of its head that decide nothing
abbrev pub IsBareCorrelation : PlainCorrelation → Correlation → Type 0
IsBareCorrelation c x = (rest : List Member) × (correlation_with rest (correlation_view x) ≡ c)

-- the correlation with its file; it lists at most 64 rules, and its timespan is from 1 to 2^100 nanoseconds
pub record IsKept (c : Named) (s : Sourced) : Type 0 where
  pub file : s.file ≡ c.0
  pub bare : IsBareCorrelation c.1 s.correlation
  pub few : length s.correlation.rules ≤ 64
  pub span : IsSpan s.correlation.span

-- What was found are these rules, each made ready for the schema, and these correlations, each with its file.
pub record StandsFor (schema : Schema) (rules : List PlainRule) (correlations : List Named) (found : Found) : Type 0 where
  pub bare : AllZip IsBareOf rules found.rules.items
  pub ready : AllZip (ready.StandsFor schema.fields) rules found.ready.items
  pub names : map names_of_head found.heads.items ≡ names_of_rules rules
  pub kept : AllZip IsKept correlations found.correlations.items

-- it grew by the rules and the correlations of these outcomes of a file
abbrev pub Grows : Schema → List ℕ → List Outcome → Found → Found → Type 0
Grows schema file outcomes old new = (rules : List PlainRule) (correlations : List Named) → StandsFor schema rules correlations old
    → StandsFor schema (rules ++ rules_in outcomes) (correlations ++ named file (correlations_in outcomes)) new
