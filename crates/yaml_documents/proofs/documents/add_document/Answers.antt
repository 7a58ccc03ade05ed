use Rattle.std.proofs.Common.{ap, ◌∙◌}
use Rattle.yaml_documents.specs.Views.{documents_view}
use Rattle.yaml_documents.proofs.Parts.{kept_whole}
use Rattle.yaml_documents.proofs.documents.add_document.Goals as goal

pub returns-in_ok-push-in-Some-clause-added : goal.returns-in_ok-push-in-Some-clause-added
returns-in_ok-push-in-Some-clause-added c =
    ap documents_view c.in_ok-push-in-Some.ensures.items ∙ kept_whole c.args.documents.now.items c.args.document _ c.in-Some.ensures
