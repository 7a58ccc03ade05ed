use Rattle.correlation_files.proofs.Filed.{slice_read, file_unread, file_refused}
use Rattle.correlation_files.proofs.rule_files.read_rules.Goals as goal

pub returns-in-Ok-clause-file : goal.returns-in-Ok-clause-file
returns-in-Ok-clause-file g c =
    slice_read c.args.limits.now c.args.pipelines.now c.args.schema.now c.args.file.now c.args.bytes.now c.args.found.now c.read_each.new.found c.verdicts.ensures.never_both c.one_verdict.ensures.list
    c.in-Ok.documents.items c.as_slice-all.result.now _ _ c.read_each.result c.as_slice-all.ensures.value c.in-Ok.ensures.taken c.read_each.ensures.read

pub returns-in-Err-Refused-clause-file : goal.returns-in-Err-Refused-clause-file
returns-in-Err-Refused-clause-file g c =
    let refused_so = rw c.in-Err-Refused.field-0-is at c.in-Err-Refused.ensures.refused in
    file_refused c.args.limits.now c.args.pipelines.now c.args.schema.now c.args.file.now c.args.bytes.now c.args.found.now c.in-Err-Refused.refusal refused_so c.verdicts.ensures.never_both _
    c.refuse_whole.result c.refuse_whole.ensures.ok

pub returns-in-Err-Memory-clause-file : goal.returns-in-Err-Memory-clause-file
returns-in-Err-Memory-clause-file g c =
    file_unread c.args.limits.now c.args.pipelines.now c.args.schema.now c.args.file.now c.args.bytes.now c.args.found.now c.args.found.now c.verdicts.ensures.never_both _
