use Rattle.std.proofs.Common.{◌≡◌, ◌++◌, drop}
use Rattle.std.specs.List.{flat_map}
use Rattle.sql_layout.specs.Layout.{doubled}
use Rattle.sqlite_writer.specs.Signs.{glob_sign}
use Rattle.sqlite_writer.proofs.patterns.put_glob_parts.Given as goal

abbrev pub invariant-loop-part : goal.invariant-loop-part
invariant-loop-part l = l.out ++ doubled 39 (flat_map glob_sign (drop l.part-index l.parts)) ≡ l.fn.out ++ doubled 39 (flat_map glob_sign l.parts)
