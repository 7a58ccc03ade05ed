use Rattle.std.proofs.Common.{refl}
use Rattle.std.specs.Prelude.{codes}
use Rattle.sig_base.proofs.TextLemmas.{ascii_chars}
use Rattle.rule_detections.proofs.value_tests.truth_text.Goals as goal

pub returns-then-value : goal.returns-then-value
returns-then-value c = rw c.if-value.true (ascii_chars (codes "true") refl)

pub returns-else-value : goal.returns-else-value
returns-else-value c = rw c.if-value.false (ascii_chars (codes "false") refl)
