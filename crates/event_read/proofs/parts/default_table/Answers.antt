use Rattle.std.proofs.Common.{◌∙◌, refl}
use Rattle.std.specs.Prelude.{codes}
use Rattle.std.proofs.lemmas.Result.{IfOk-weaker}
use Rattle.sig_base.proofs.TextLemmas.{ascii_chars}
use Rattle.event_read.proofs.parts.default_table.Goals as goal

pub returns-clause-ok : goal.returns-clause-ok
returns-clause-ok c = IfOk-weaker c.copy.result _ _ (λ t e. e ∙ ascii_chars (codes "events") refl) c.copy.ensures.ok
