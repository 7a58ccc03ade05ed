use Rattle.std.proofs.Common.{◌≤◌, vec_len}
use Rattle.system_io.proofs.real.shelf.read_front.Given as goal

abbrev pub invariant-loop-turn : goal.invariant-loop-turn
invariant-loop-turn g l = vec_len l.bytes ≤ l.at_most
