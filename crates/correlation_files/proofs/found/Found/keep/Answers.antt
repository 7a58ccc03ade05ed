use Rattle.correlation_files.proofs.Growing.{none_kept}
use Rattle.correlation_files.proofs.found.Found.keep.Goals as goal

pub returns-in-Err-Refused-clause-keeps : goal.returns-in-Err-Refused-clause-keeps
returns-in-Err-Refused-clause-keeps c = none_kept c.args.file.now c.args.taken _ c.args.self.now c.add_refusal.result c.in-Err-Refused.is
