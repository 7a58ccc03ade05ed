use Rattle.rule_run.proofs.Runs.{of_slice, of_no_file}
use Rattle.rule_run.proofs.file_rule.read_single_rule.Goals as goal

pub returns-in-Ok : goal.returns-in-Ok
returns-in-Ok g c =
    of_slice c.args.limits.now c.args.bytes.now _ _ c.verdicts.ensures.never_both c.one_verdict.ensures.list c.in-Ok.documents.items c.as_slice.result.now c.read_only.result c.as_slice.ensures.value c.in-Ok.ensures.taken
    c.read_only.ensures

pub returns-in-Err : goal.returns-in-Err
returns-in-Err g c = of_no_file c.args.limits.now c.args.bytes.now c.verdicts.ensures.never_both _ c.in-Err.fault c.in-Err.ensures.refused
