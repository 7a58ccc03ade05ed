use Rattle.std.proofs.Common.{◌≡◌, ◌||◌, drop}
use Rattle.std.specs.List.{list_any}
use Rattle.yaml_inline.specs.File.{is_forbidden}
use Rattle.yaml_documents.proofs.codes.has_forbidden.Given as goal

abbrev pub invariant-loop-c : goal.invariant-loop-c
invariant-loop-c l = (l.found || list_any is_forbidden (drop l.c-index l.text)) ≡ list_any is_forbidden l.text
