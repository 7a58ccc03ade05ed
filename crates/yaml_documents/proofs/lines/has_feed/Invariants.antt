use Rattle.std.proofs.Common.{◌≡◌, ◌||◌, ◌==◌, drop}
use Rattle.std.specs.List.{list_any}
use Rattle.yaml_documents.proofs.lines.has_feed.Given as goal

abbrev pub invariant-loop-c : goal.invariant-loop-c
invariant-loop-c l = (l.found || list_any (λ d. d == 10) (drop l.c-index l.block)) ≡ list_any (λ d. d == 10) l.block
