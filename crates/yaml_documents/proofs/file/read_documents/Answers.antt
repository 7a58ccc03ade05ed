use Rattle.std.proofs.lemmas.Result.{IfOk-weaker}
use Rattle.yaml_documents.specs.Given.{answers_view}
use Rattle.yaml_documents.proofs.file.read_documents.Goals as goal

pub returns-clause-few : goal.returns-clause-few
returns-clause-few c =
    let limits = c.args.limits.now in
    IfOk-weaker c.read_file.result _ _
    (λ ds t. c.nodes_are_few.ensures.limit limits.file_bytes limits.documents limits.yaml_depth c.args.bytes.now (answers_view ds.items) t)
    c.read_file.ensures.taken
