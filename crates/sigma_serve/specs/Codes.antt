-- The exit codes of the program.
use Rattle.std.specs.Prelude.{ℕ}
use Rattle.sigma_serve.specs.declared.status.Status.{Status}
use Rattle.sigma_serve.specs.declared.status.Status.TheVariants.{Done, Found, Usage, ReadFault, WriteFault, Memory}

abbrev pub status_code : Status → ℕ
status_code Done = 0
status_code Found = 1
status_code Usage = 2
status_code ReadFault = 3
status_code WriteFault = 4
status_code Memory = 5
