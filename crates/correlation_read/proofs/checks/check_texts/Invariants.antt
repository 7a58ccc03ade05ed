use Rattle.std.proofs.Common.{◌≡◌, drop, map}
use Rattle.sig_base.specs.Judged.{first}
use Rattle.yaml_tree.specs.View.{nodes_view}
use Rattle.correlation_read.specs.Checks.{text_refusal}
use Rattle.correlation_read.proofs.checks.check_texts.Given as goal

abbrev pub invariant-loop-part : goal.invariant-loop-part
invariant-loop-part l = first (map text_refusal (nodes_view l.parts)) ≡ first (map text_refusal (nodes_view (drop l.part-index l.parts)))
