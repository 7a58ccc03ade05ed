use Rattle.std.proofs.Common.{refl, sym, subst, length}
use Rattle.correlation_windows.specs.Queues.{Stored}
use Rattle.correlation_windows.specs.Ready.{AllProvided}
use Rattle.correlation_windows.proofs.Advancing.{room_made}
use Rattle.correlation_windows.proofs.store.Queues.make_room.Goals as goal

pub invariant_of-self : goal.invariant_of-self
invariant_of-self c = (c.make_places_for_all.ensures.orderly, c.make_places_for_all.ensures.fit c.self.inside.kind c.self.inside.rules c.self.invariant.1)

pub returns-clause-ok : goal.returns-clause-ok
returns-clause-ok c = λ after provided.
    room_made c.make_places_for_all.result after _ _ c.args.founds.now refl refl c.make_places_for_all.ensures.held c.make_places_for_all.ensures.room c.make_places_for_all.ensures.placed
    (subst (λ (s : Stored). AllProvided after (length c.args.founds.now) s c.args.founds.now) (sym c.self.view_is) provided)
