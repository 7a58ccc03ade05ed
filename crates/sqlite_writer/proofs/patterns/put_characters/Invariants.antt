use Rattle.std.proofs.Common.{◌≡◌, ◌++◌, drop}
use Rattle.sig_strings.specs.Edits.{plain_text}
use Rattle.sql_layout.specs.Layout.{doubled}
use Rattle.sqlite_writer.proofs.patterns.put_characters.Given as goal

abbrev pub invariant-loop-part : goal.invariant-loop-part
invariant-loop-part l = l.out ++ doubled 39 (plain_text (drop l.part-index l.parts)) ≡ l.fn.out ++ doubled 39 (plain_text l.parts)
