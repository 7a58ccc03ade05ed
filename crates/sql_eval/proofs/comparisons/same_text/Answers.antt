use Rattle.std.proofs.Common.{◌∙◌}
use Rattle.sig_base.proofs.TextLemmas.{bytes_eq-chars}
use Rattle.sql_eval.proofs.comparisons.same_text.Goals as goal

pub returns : goal.returns
returns c = c.eq.ensures ∙ bytes_eq-chars c.args.a.now c.args.b.now c.utf8.a c.utf8.b
