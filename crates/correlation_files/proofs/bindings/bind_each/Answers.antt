use Rattle.std.proofs.Common.{map}
use Rattle.correlation_read.specs.Binding.{names_of_head}
use Rattle.correlation_files.proofs.Binds.{judged_next, judged_end}
use Rattle.correlation_files.proofs.bindings.bind_each.Goals as goal

pub loop-sourced-preserved : goal.loop-sourced-preserved
loop-sourced-preserved c = λ all zip.
    let at = c.loop-sourced in
    judged_next (map names_of_head c.args.heads.now) c.args.schema.now.fields c.args.correlations.now all zip at.sourced-index c.sourced-item.result at.bindings c.judge.new.self
    c.loop-sourced-test.true c.sourced-item.is (at.invariant all zip) c.in-Ok.ensures.judged

pub returns-clause-judged : goal.returns-clause-judged
returns-clause-judged c = λ all zip.
    let at = c.loop-sourced in
    judged_end (map names_of_head c.args.heads.now) c.args.schema.now.fields c.args.correlations.now all zip at.sourced-index at.bindings c.loop-sourced-test.false (at.invariant all zip)
