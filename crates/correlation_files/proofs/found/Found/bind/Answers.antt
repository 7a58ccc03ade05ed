use Rattle.std.proofs.Common.{arith}
use Rattle.correlation_files.proofs.Binds.{found_bound}
use Rattle.correlation_files.proofs.found.Found.bind.Goals as goal

pub returns-clause-judged : goal.returns-clause-judged
returns-clause-judged c = λ rules correlations is.
    let below = c.if-correlations.false in
    found_bound c.args.schema.now c.args.self.now c.as_slice-heads.result.now c.as_slice-correlations.result.now rules correlations c.bind_each.result
    c.as_slice-heads.ensures.value c.as_slice-correlations.ensures.value (omega (arith, below)) is c.bind_each.ensures.judged
