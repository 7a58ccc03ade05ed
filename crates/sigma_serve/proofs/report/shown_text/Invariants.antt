use Rattle.std.proofs.Common.{◌≡◌, map}
use Rattle.sigma_serve.specs.Reports.{shown}
use Rattle.sigma_serve.proofs.report.shown_text.Given as goal

abbrev pub invariant-loop-c : goal.invariant-loop-c
invariant-loop-c l = l.all ≡ map shown l.yielded
