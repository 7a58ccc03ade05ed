use Rattle.std.proofs.Common.{sym, ap}
use Rattle.sig_conditions.specs.Taken.{is_hidden}
use Rattle.sig_conditions.proofs.Fitting.{chars-none}
use Rattle.sig_conditions.proofs.taken_names.is_hidden_name.Goals as goal

pub returns-in-None : goal.returns-in-None
returns-in-None c = sym (ap is_hidden (chars-none c.args.name.now c.in-None.ensures))
