use Rattle.yaml_documents.proofs.Ready.{ready_at, answers_more, plain_more}
use Rattle.yaml_documents.proofs.file.read_each.Goals as goal

pub read_document-requires-clause-content : goal.read_document-requires-clause-content
read_document-requires-clause-content c =
    (ready_at c.args.documents.now c.loop-document.document-index c.document-item.result c.requires c.loop-document-test.true c.document-item.is).content

pub read_document-requires-clause-numbered : goal.read_document-requires-clause-numbered
read_document-requires-clause-numbered c =
    (ready_at c.args.documents.now c.loop-document.document-index c.document-item.result c.requires c.loop-document-test.true c.document-item.is).numbered

pub loop-document-preserved : goal.loop-document-preserved
loop-document-preserved c = record {
  so_far = rw c.in_ok-push.ensures.items
      (answers_more c.args.depth c.args.documents.now c.loop-document.document-index c.document-item.result c.loop-document.answers.items c.in_ok-read_document.field-0 c.loop-document-test.true c.document-item.is
      c.loop-document.invariant.so_far c.in_ok-read_document.ensures.answer);
  plain = rw c.in_ok-push.ensures.items (plain_more c.loop-document.answers.items c.in_ok-read_document.field-0 c.loop-document.invariant.plain c.in_ok-read_document.ensures.plain);
}
