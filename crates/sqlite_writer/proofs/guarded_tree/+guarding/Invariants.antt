use Rattle.std.proofs.Common.{◌≡◌, drop}
use Rattle.backend_core.specs.View.{plains_of}
use Rattle.backend_core.specs.Joins.{append}
use Rattle.sqlite_writer.specs.Joined.{guarded_parts}
use Rattle.sqlite_writer.proofs.guarded_tree.+guarding.Given as goal

abbrev pub invariant-guarded_parts-loop-part : goal.invariant-guarded_parts-loop-part
invariant-guarded_parts-loop-part l =
    append (plains_of l.joined.items) (guarded_parts l.kind l.odd (plains_of (drop l.part-index l.parts))) ≡ guarded_parts l.kind l.odd (plains_of l.parts)
