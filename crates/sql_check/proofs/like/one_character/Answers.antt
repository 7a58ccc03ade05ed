use Rattle.sql_check.proofs.Patterned.{one_is, two_are, none_is}
use Rattle.std.proofs.Common.{sym, ◌∙◌}
use Rattle.sql_check.proofs.like.one_character.Goals as goal

pub returns-in_default : goal.returns-in_default
returns-in_default c = none_is c.args.text.now c.as_str.result.now c.as_str.ensures.chars c.in_default.ensures

pub returns-in-Some-first_char : goal.returns-in-Some-first_char
returns-in-Some-first_char c = two_are c.args.text.now _ _ _ _ (sym c.as_str.ensures.chars ∙ c.in-Some.ensures.0) c.in-Some-first_char.ensures.0

pub returns-in-None : goal.returns-in-None
returns-in-None c = one_is c.args.text.now _ _ (sym c.as_str.ensures.chars ∙ c.in-Some.ensures.0) c.in-None.ensures
