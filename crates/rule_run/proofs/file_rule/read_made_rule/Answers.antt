use Rattle.rule_run.proofs.Runs.{made_single, none_made}
use Rattle.rule_run.proofs.file_rule.read_made_rule.Goals as goal

pub returns-in-Ok : goal.returns-in-Ok
returns-in-Ok g c =
    let ps = c.args.pipelines.now in
    made_single c.args.limits.now ps c.args.bytes.now _ _ c.in-Ok.rule c.run_pipelines.result (c.heads_are_kept.ensures.made c.args.limits.now ps) (c.heads_are_kept.ensures.refused c.args.limits.now ps)
    c.run_pipelines.ensures c.in-Ok.ensures

pub returns-in-Err : goal.returns-in-Err
returns-in-Err g c = none_made c.args.limits.now c.args.pipelines.now c.args.bytes.now _ _ c.in-Err.fault c.in-Err.ensures
