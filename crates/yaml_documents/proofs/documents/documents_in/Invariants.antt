use Rattle.std.proofs.Common.{length, ◌-◌, ◌≡◌, ◌≤◌, vec_len}
use Rattle.yaml_blocks.specs.Views.{lines_view}
use Rattle.yaml_inline.specs.File.{parted, with_content}
use Rattle.yaml_documents.proofs.Parts.{found_so_far}
use Rattle.yaml_documents.proofs.documents.documents_in.Given as goal

abbrev pub invariant-loop-at : goal.invariant-loop-at
invariant-loop-at l = record {
  so_far : found_so_far l.documents.items l.at l.lines ≡ with_content (parted (lines_view l.fn.lines));
  few : vec_len l.documents ≤ l.most;
}

abbrev pub decreases-loop-at : goal.decreases-loop-at
decreases-loop-at l = length l.lines - l.at
