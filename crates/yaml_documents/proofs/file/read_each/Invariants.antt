use Rattle.std.proofs.Common.{take}
use Rattle.std.specs.List.{All}
use Rattle.yaml_blocks.specs.Documents.{AreAnswers}
use Rattle.yaml_documents.specs.Views.{documents_view}
use Rattle.yaml_documents.specs.Given.{answers_view, IsPlain}
use Rattle.yaml_documents.proofs.file.read_each.Given as goal

abbrev pub invariant-loop-document : goal.invariant-loop-document
invariant-loop-document l = record {
  so_far : AreAnswers l.depth (documents_view (take l.document-index l.documents)) (answers_view l.answers.items);
  plain : All IsPlain l.answers.items;
}
