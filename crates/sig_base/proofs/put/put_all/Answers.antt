use Rattle.std.proofs.Common.{List, ℕ, ◌∙◌, sym, subst}
use Rattle.sig_base.proofs.Puts.{Putting, Putting-step}
use Rattle.sig_base.proofs.put.put_all.Goals as goal

pub loop-rest-preserved : goal.loop-rest-preserved
loop-rest-preserved g c = record {
  putting =
      subst (λ (l : List ℕ). Putting (g.O.Sink.taken c.args.sink.now) (g.O.Sink.taken c.write.new.self) c.args.bytes.now l) (sym c.split_at.ensures.back)
      (Putting-step (g.O.Sink.taken c.args.sink.now) (g.O.Sink.taken c.loop-rest.sink) (g.O.Sink.taken c.write.new.self) c.args.bytes.now c.loop-rest.rest.now c.in_ok-count.count
      c.loop-rest.invariant.putting c.in_ok-count.ensures.bytes);
  told = c.write.ensures.told ∙ c.loop-rest.invariant.told;
  faults = c.in_ok-count.ensures.cause.same ∙ c.loop-rest.invariant.faults;
}
