use Rattle.std.proofs.Common.{◌≡◌, length, is_some}
use Rattle.sig_base.proofs.Puts.{Putting}
use Rattle.sig_base.proofs.put.put_all.Given as goal

abbrev pub invariant-loop-rest : goal.invariant-loop-rest
invariant-loop-rest g l = record {
  putting : Putting (g.O.Sink.taken l.fn.sink) (g.O.Sink.taken l.sink) l.bytes l.rest;
  told : is_some (g.O.Sink.taken l.sink) ≡ is_some (g.O.Sink.taken l.fn.sink);
  faults : g.O.Sink.faults l.sink ≡ g.O.Sink.faults l.fn.sink;
}

abbrev pub decreases-loop-rest : goal.decreases-loop-rest
decreases-loop-rest g l = length l.rest
