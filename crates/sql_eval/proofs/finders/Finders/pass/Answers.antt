use Rattle.std.proofs.Common.{◌∙◌, ap}
use Rattle.sql_eval.specs.Searches.{left_of}
use Rattle.sql_eval.proofs.Passed.{rest_is}
use Rattle.sql_eval.proofs.finders.Finders.pass.Goals as goal

pub returns-then-self-len-clause-passes : goal.returns-then-self-len-clause-passes
returns-then-self-len-clause-passes c = λ text rest e. rest_is _ c.self.inside.passed text rest (ap left_of c.self.view_is ∙ e)
