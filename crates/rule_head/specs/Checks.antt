-- What the keys of a rule ask of their values: a code, and the test that a value passes or is refused with it.
use Rattle.std.specs.Prelude.{ℕ, Bool}
use Rattle.yaml_tree.specs.Tree.{Tree}
use Rattle.rule_head.specs.Heads.{is_title, is_id, is_status, is_date, is_level}
use Rattle.yaml_tree.specs.Nodes.{is_text}
use Rattle.rule_head.specs.declared.checks.Check.{Check}
use Rattle.rule_head.specs.declared.checks.Check.TheVariants.{Text, Title, Id, Status, Date, Level}

abbrev pub code_of : Check → ℕ
code_of Text = 71
code_of Title = 72
code_of Id = 73
code_of Date = 74
code_of Status = 75
code_of Level = 76

abbrev pub is_of : Check → Tree → Bool
is_of Text = is_text
is_of Title = is_title
is_of Id = is_id
is_of Date = is_date
is_of Status = is_status
is_of Level = is_level
