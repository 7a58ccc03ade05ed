use Rattle.std.proofs.Common.{◌∙◌}
use Rattle.sig_strings.proofs.EditsLemmas.{ends_with_run-last}
use Rattle.sig_strings.proofs.edits.ends_with_run.Goals as goal

pub returns-in-Some : goal.returns-in-Some
returns-in-Some c = c.is_run.ensures ∙ ends_with_run-last c.args.parts.now c.in-Some.part.now c.in-Some.ensures.value
