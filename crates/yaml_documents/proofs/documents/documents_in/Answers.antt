use Rattle.std.proofs.Common.{◌≡◌, ◌∙◌, length, vec_len, rules}
use Rattle.yaml_inline.specs.File.{parted, with_content}
use Rattle.yaml_blocks.specs.Views.{lines_view}
use Rattle.yaml_documents.specs.Call.{IsTooMany}
use Rattle.yaml_documents.proofs.Parts.{too_many}
use Rattle.yaml_documents.proofs.Refusals.{refused_as, handed_on}
use Rattle.yaml_documents.proofs.documents.documents_in.Goals as goal

pub returns-in_err-add_document-clause-refused : goal.returns-in_err-add_document-clause-refused
returns-in_err-add_document-clause-refused c =
    let all = with_content (parted (lines_view c.args.lines.now)) in
    let e = c.in_err-add_document.field-0.0 in
    let count : length c.loop-at.documents.items ≡ vec_len c.loop-at.documents = search rules in
    handed_on c.from_residual.result e (IsTooMany c.args.most all) _ c.from_residual.ensures.1 (λ y p. p)
    (refused_as e _ _ c.in_err-add_document.ensures.refused
    (λ p h. too_many c.loop-at.documents.items c.args.most c.loop-at.at c.args.lines.now c.lines_behind.result.now c.first_document-document.result.now all p
    c.lines_behind.ensures c.first_document-document.ensures.front c.loop-at.invariant.so_far (count ∙ h.0, h.1, h.2)))
