use Rattle.std.proofs.Common.{◌≡◌, ◌+◌, ◌≤◌, length, vec_len}
use Rattle.yaml_inline.specs.File.{lines_of}
use Rattle.yaml_documents.proofs.Numbers.{read_so_far}
use Rattle.yaml_documents.proofs.lines.lines_of.Given as goal

abbrev pub invariant-loop-rest : goal.invariant-loop-rest
invariant-loop-rest l = record {
  so_far : read_so_far l.lines.items l.rest ≡ lines_of l.fn.text;
  within : vec_len l.lines + length l.rest ≤ length l.fn.text;
}

abbrev pub decreases-loop-rest : goal.decreases-loop-rest
decreases-loop-rest l = length l.rest
