use Rattle.std.proofs.Common.{◌≡◌, ◌++◌}
use Rattle.sql_layout.specs.Layout.{doubled}
use Rattle.sqlite_writer.proofs.output.put_doubled.Given as goal

abbrev pub invariant-loop-c : goal.invariant-loop-c
invariant-loop-c l = l.out ≡ l.fn.out ++ doubled l.quote l.yielded
