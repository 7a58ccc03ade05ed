use Rattle.std.proofs.Common.{◌≡◌, ◌≤◌, ◌∙◌, sym, ap, subst, length, arith}
use Rattle.std.proofs.lemmas.Result.{IfOk-weaker}
use Rattle.yaml_inline.specs.File.{parted, with_content, lines_of}
use Rattle.yaml_blocks.specs.Views.{lines_view}
use Rattle.yaml_documents.specs.Call.{IsText, IsCallRefusal}
use Rattle.yaml_documents.specs.Views.{documents_view}
use Rattle.yaml_documents.proofs.Refusals.{refused_as, handed_on}
use Rattle.yaml_documents.proofs.Taking.{ready, taken, too_many}
use Rattle.yaml_documents.proofs.file.read_file.Goals as goal

pub returns-in_err-documents-clause-refused : goal.returns-in_err-documents-clause-refused
returns-in_err-documents-clause-refused c =
    let e = c.in_err-documents.field-0.0 in
    let file_bytes = c.args.limits.now.file_bytes in
    let documents = c.args.limits.now.documents in
    let text : IsText c.args.bytes.now c.deref.result.now = subst (IsText c.args.bytes.now) (sym c.deref.ensures.value) c.in_ok-text.ensures.text in
    let lines_are : lines_view c.deref-2.result.now ≡ lines_of c.deref.result.now = ap lines_view c.deref-2.ensures.value ∙ c.in_ok-lines.ensures in
    handed_on c.from_residual-in_err-documents.result e (IsCallRefusal file_bytes documents c.args.bytes.now) _ c.from_residual-in_err-documents.ensures.1 (λ y p. p)
    (refused_as e _ _ c.in_err-documents.ensures.refused
    (λ p h. too_many file_bytes documents c.args.bytes.now c.deref.result.now c.deref-2.result.now p c.in_ok-text.ensures.within text lines_are h))

pub read_each-requires : goal.read_each-requires
read_each-requires c =
    let lines_are : lines_view c.deref-2.result.now ≡ lines_of c.deref.result.now = ap lines_view c.deref-2.ensures.value ∙ c.in_ok-lines.ensures in
    let documents_are : documents_view c.deref-3.result.now ≡ with_content (parted (lines_view c.deref-2.result.now)) = ap documents_view c.deref-3.ensures.value ∙ c.in_ok-documents.ensures.documents in
    ready c.deref.result.now c.deref-2.result.now c.deref-3.result.now lines_are documents_are

pub returns-clause-taken : goal.returns-clause-taken
returns-clause-taken c =
    let text : IsText c.args.bytes.now c.deref.result.now = subst (IsText c.args.bytes.now) (sym c.deref.ensures.value) c.in_ok-text.ensures.text in
    let lines_are : lines_view c.deref-2.result.now ≡ lines_of c.deref.result.now = ap lines_view c.deref-2.ensures.value ∙ c.in_ok-lines.ensures in
    let documents_are : documents_view c.deref-3.result.now ≡ with_content (parted (lines_view c.deref-2.result.now)) = ap documents_view c.deref-3.ensures.value ∙ c.in_ok-documents.ensures.documents in
    let few : length c.deref-3.result.now ≤ c.args.limits.now.documents = omega (arith, c.deref-3.ensures.len, c.in_ok-documents.ensures.few) in
    IfOk-weaker c.read_each.result _ _
    (λ ds h. taken c.args.limits.now.file_bytes c.args.limits.now.documents c.args.limits.now.yaml_depth c.args.bytes.now c.deref.result.now c.deref-2.result.now c.deref-3.result.now ds.items
    c.in_ok-text.ensures.within text lines_are documents_are few h)
    c.read_each.ensures.answers
