use Rattle.std.proofs.Common.{rules, ◌∙◌, List, subst, sym, length, FitsSigned}
use Rattle.std.proofs.lemmas.Int.{to_z-of_z}
use Rattle.std.specs.Int.{w128}
use Rattle.std.specs.Prelude.{ℤ, ◌-ℤ◌}
use Rattle.correlation_windows.specs.Ready.{AllProvided, HasRoom}
use Rattle.correlation_windows.specs.declared.found.Found.{Found}
use Rattle.correlation_engine.proofs.watch.prepare.Goals as goal

pub returns-clause-prepared : goal.returns-clause-prepared
returns-clause-prepared c =
    let fits : FitsSigned w128 c.reached_from-after.result = search rules in
    let is = to_z-of_z w128 c.reached_from-after.result fits ∙ c.reached_from-after.ensures in
    let provided = subst (λ (a : ℤ). AllProvided a (length c.in_ok-founds.founds.items) c.args.watch.now.queues c.in_ok-founds.founds.items) is c.in_ok-founds.ensures.provided in
    record {
      matches = c.in_ok-founds.ensures.matches ∙ c.in_ok-matches.ensures.ok;
      room = subst (λ (fs : List Found). HasRoom (c.args.arrival.now.moment -ℤ c.args.watch.now.bound.span) c.make_room.new.self fs) c.deref.ensures.value
          (c.in_ok-make_room.ensures.ok (c.args.arrival.now.moment -ℤ c.args.watch.now.bound.span)
          (subst (λ (fs : List Found). AllProvided (c.args.arrival.now.moment -ℤ c.args.watch.now.bound.span) (length fs) c.args.watch.now.queues fs) (sym c.deref.ensures.value) provided));
    }
