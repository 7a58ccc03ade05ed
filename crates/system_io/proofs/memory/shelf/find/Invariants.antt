use Rattle.std.proofs.Common.{◌≡◌, drop}
use Rattle.std.specs.Str.{chars}
use Rattle.sig_base.specs.Files.{file_at}
use Rattle.system_io.proofs.memory.shelf.find.Given as goal

abbrev pub invariant-loop-file : goal.invariant-loop-file
invariant-loop-file l = file_at l.files (chars l.name) ≡ file_at (drop l.file-index l.files) (chars l.name)
