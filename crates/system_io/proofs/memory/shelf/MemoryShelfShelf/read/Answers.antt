use Rattle.std.proofs.Common.{rules, ◌≡◌, true, false}
use Rattle.std.specs.Prelude.{is_none}
use Rattle.std.specs.Str.{chars}
use Rattle.std.proofs.lemmas.Bool.{or_left, or_from}
use Rattle.sig_base.specs.Files.{file_at}
use Rattle.system_io.specs.Memory.{is_failing}
use Rattle.system_io.proofs.Shelving.{failed_exact, worked_exact}
use Rattle.system_io.proofs.memory.shelf.MemoryShelfShelf.read.Goals as goal

pub returns-then-contains-clause-exact : goal.returns-then-contains-clause-exact
returns-then-contains-clause-exact c =
    let yes : is_failing c.args.self.now.failing c.args.self.now.calls ≡ true = search rules in
    failed_exact c.fail.result _ c.fail.ensures.err (or_left _ _ yes)

pub returns-in-Some-clause-exact : goal.returns-in-Some-clause-exact
returns-in-Some-clause-exact c =
    let no : is_failing c.args.self.now.failing c.args.self.now.calls ≡ false = search rules in
    let there : is_none (file_at c.args.self.now.files (chars c.args.name.now)) ≡ false = search rules in
    worked_exact c.front.result _ c.front.ensures.err (or_from _ _ no there)
