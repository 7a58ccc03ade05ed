use Rattle.pipeline_files.proofs.Filed.{slice_read, file_unread, file_refused}
use Rattle.pipeline_files.proofs.files.read_pipelines.Goals as goal

pub returns-in-Ok : goal.returns-in-Ok
returns-in-Ok g c =
    slice_read c.args.limits.now c.args.bytes.now c.verdicts.ensures.never_both c.one_verdict.ensures.list c.in-Ok.documents.items c.as_slice.result.now _ _ c.read_each.result
    c.as_slice.ensures.value c.in-Ok.ensures.taken c.read_each.ensures

pub returns-in-Err-Refused : goal.returns-in-Err-Refused
returns-in-Err-Refused g c =
    let refused_so = rw c.in-Err-Refused.field-0-is at c.in-Err-Refused.ensures.refused in
    file_refused c.args.limits.now c.args.bytes.now c.verdicts.ensures.never_both _ c.in-Err-Refused.refusal c.refuse_whole.result refused_so c.refuse_whole.ensures

pub returns-in-Err-Memory : goal.returns-in-Err-Memory
returns-in-Err-Memory g c = file_unread c.args.limits.now c.args.bytes.now c.verdicts.ensures.never_both _
