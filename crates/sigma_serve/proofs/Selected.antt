-- That each line of events is answered in one way by a rule that is run.
use Rattle.std.proofs.Common.{◌≡◌, ℕ, List}
use Rattle.std.specs.Prelude.{◌⊎◌}
use Rattle.answer_writer.specs.Parts.{Share}
use Rattle.event_schema.specs.declared.schema.Field.{Field}
use Rattle.event_schema.specs.declared.schema.Schema.{Schema}
use Rattle.event_schema.specs.declared.value.Value.{Value}
use Rattle.rule_model.specs.Matching.{Matches}
use Rattle.rule_model.specs.Plain.{PlainRule}
use Rattle.answer_writer.proofs.Selected.{each_selected, one_selected}
use Rattle.sigma_serve.specs.Laws.{EachSelected}
use Rattle.sigma_serve.specs.Ran.{RunGives}

abbrev pub MatchesOrNot : Type 0
MatchesOrNot = (fields : List Field) (row : List (List Value)) (rule : PlainRule) → Matches fields row rule ⊎ (Matches fields row rule → ⊥)

pub every_selected : MatchesOrNot → EachSelected
every_selected decided schema rule = each_selected schema (λ row. Matches schema.fields row rule) (λ row. decided schema.fields row rule)

pub every_one : (schema : Schema) (rule : PlainRule) (number : ℕ) (line : List ℕ) (a b : Share) → RunGives schema rule number line a → RunGives schema rule number line b → a ≡ b
every_one schema rule = one_selected schema (λ row. Matches schema.fields row rule)
