use Rattle.std.proofs.Common.{◌≡◌, ◌∙◌, ◌++◌, ℕ, ap, sym, subst, length, to_z, of_z}
use Rattle.std.proofs.lemmas.Int.{to_z-of_z}
use Rattle.std.specs.Int.{w128}
use Rattle.std.specs.Prelude.{ℤ}
use Rattle.correlation_windows.specs.Laws.{recent}
use Rattle.correlation_windows.specs.Queues.{Stored, AllFor, held}
use Rattle.correlation_windows.specs.Ready.{HasRoom}
use Rattle.correlation_windows.specs.declared.bound.CorrelationKind.{CorrelationKind}
use Rattle.correlation_windows.proofs.Advancing.{held_advanced, ready_now, still_next, on_over}
use Rattle.correlation_windows.proofs.store.Queues.advance.Goals as goal

pub put_all-requires-clause-fit : goal.put_all-requires-clause-fit
put_all-requires-clause-fit c =
    let kinds = ap (λ (s : Stored). s.kind) c.self.view_is ∙ c.requires.kind in
    let counts = ap (λ (s : Stored). s.rules) c.self.view_is ∙ c.requires.rules in
    subst (λ (k : CorrelationKind). AllFor k (length c.args.bound.now.rules) c.drop_old.new.map.entries) kinds
    (subst (λ (n : ℕ). AllFor c.self.inside.kind n c.drop_old.new.map.entries) counts (c.drop_old.ensures.fit c.self.inside.kind c.self.inside.rules c.self.invariant.1))

pub put_all-requires-clause-next : goal.put_all-requires-clause-next
put_all-requires-clause-next c =
    still_next c.args.after c.args.self.now c.drop_old.new.map.entries
    (λ g. subst (λ (a : ℤ). held c.drop_old.new.map.entries g ≡ recent a (held c.args.self.now.entries g)) (to_z-of_z w128 c.args.after c.ranges.after)
    (subst (λ (s : Stored). held c.drop_old.new.map.entries g ≡ recent (to_z w128 (of_z w128 c.args.after)) (held s.entries g)) c.self.view_is (c.drop_old.ensures.held g)))
    c.drop_old.ensures.orderly.unique c.args.founds.items c.requires.next

pub put_all-requires-clause-ready : goal.put_all-requires-clause-ready
put_all-requires-clause-ready c =
    let room : HasRoom c.args.after (record { entries = c.self.inside.map.entries; kind = c.self.inside.kind; rules = c.self.inside.rules; spare = _ }) c.args.founds.items = subst (λ (s : Stored). HasRoom c.args.after s c.args.founds.items) (sym c.self.view_is) c.requires.room in
    ready_now c.args.after _ c.drop_old.new.map.entries
    (λ g. subst (λ (a : ℤ). held c.drop_old.new.map.entries g ≡ recent a (held c.self.inside.map.entries g)) (to_z-of_z w128 c.args.after c.ranges.after) (c.drop_old.ensures.held g))
    c.args.bound.now.kind (length c.args.bound.now.rules) (ap (λ (s : Stored). s.kind) c.self.view_is ∙ c.requires.kind) (ap (λ (s : Stored). s.rules) c.self.view_is ∙ c.requires.rules) c.drop_old.ensures.places (length c.args.founds.items) c.args.founds.items room.placed room.provided

pub returns-clause-held : goal.returns-clause-held
returns-clause-held c = λ t at lt.
    held_advanced c.args.after t c.args.self.now.entries c.drop_old.new.map.entries c.put_all.new.map.entries c.args.founds.items lt at
    (λ g. subst (λ (a : ℤ). held c.drop_old.new.map.entries g ≡ recent a (held c.args.self.now.entries g)) (to_z-of_z w128 c.args.after c.ranges.after)
    (subst (λ (s : Stored). held c.drop_old.new.map.entries g ≡ recent (to_z w128 (of_z w128 c.args.after)) (held s.entries g)) c.self.view_is (c.drop_old.ensures.held g)))
    c.put_all.ensures.held

pub returns-clause-reports : goal.returns-clause-reports
returns-clause-reports c = λ t at until is lt.
    c.put_all.ensures.added ∙ ap (λ rs. c.args.reports.now.items ++ rs)
    (on_over c.args.number c.args.bound.now c.args.after t (held c.args.self.now.entries) (held c.drop_old.new.map.entries) is lt until
    (λ g. subst (λ (a : ℤ). held c.drop_old.new.map.entries g ≡ recent a (held c.args.self.now.entries g)) (to_z-of_z w128 c.args.after c.ranges.after)
    (subst (λ (s : Stored). held c.drop_old.new.map.entries g ≡ recent (to_z w128 (of_z w128 c.args.after)) (held s.entries g)) c.self.view_is (c.drop_old.ensures.held g)))
    c.args.founds.items at)
