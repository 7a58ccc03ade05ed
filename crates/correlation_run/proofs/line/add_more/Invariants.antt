use Rattle.std.proofs.Common.{◌≡◌, ◌++◌}
use Rattle.std.specs.Prelude.{drop}
use Rattle.correlation_run.specs.Lines.{more_texts}
use Rattle.correlation_run.proofs.line.add_more.Given as goal

abbrev pub invariant-loop-text : goal.invariant-loop-text
invariant-loop-text l = l.line.items ++ more_texts (drop l.text-index l.texts) ≡ l.fn.line.items ++ more_texts l.texts
