use Rattle.std.proofs.Common.{rules, ◌≡◌, ◌<◌, ℕ, List, [], ◌∷◌, ◌++◌, Some, ap, sym, subst, ◌∙◌}
use Rattle.std.specs.Prelude.{cond, None, length}
use Rattle.std.specs.Map.{lookup}
use Rattle.indexmap.specs.IndexMap.{spare, insert_entry}
use Rattle.indexmap.proofs.CallerLemmas.{insert_entry-new}
use Rattle.correlation_windows.specs.Groups.{same_group}
use Rattle.correlation_windows.specs.Queues.{items_of}
use Rattle.correlation_windows.proofs.Ordering.{orderly_gain, until_gain, orderly_new, until_new, fit_found, fit_set, fit_new}
use Rattle.correlation_windows.proofs.Pushing.{held_push, use_ok, placed_new}
use Rattle.correlation_windows.proofs.growth.push.Goals as goal

pub enter-requires-clause-fit : goal.enter-requires-clause-fit
enter-requires-clause-fit c =
    fit_found c.args.bound.now.kind (length c.args.bound.now.rules) (same_group c.args.own.group) c.args.map.now.entries c.in-Some.queue.now (sym c.in-Some.ensures.value) c.requires.fit

pub returns-in-Some-clause-orderly : goal.returns-in-Some-clause-orderly
returns-in-Some-clause-orderly c =
    let writes = c.get_mut.follows.holds c.enter.new.queue in
    orderly_gain (same_group c.args.own.group) c.args.map.now.entries (c.get_mut.follows.lender c.enter.new.queue).entries c.in-Some.queue.now c.enter.new.queue c.args.own.found writes.0 writes.4 (sym c.in-Some.ensures.value) c.enter.ensures.items c.requires.next c.requires.orderly

pub returns-in-Some-clause-fit : goal.returns-in-Some-clause-fit
returns-in-Some-clause-fit c =
    fit_set c.args.bound.now.kind (length c.args.bound.now.rules) (same_group c.args.own.group) c.args.map.now.entries (c.get_mut.follows.lender c.enter.new.queue).entries c.enter.new.queue (c.get_mut.follows.holds c.enter.new.queue).0 c.enter.ensures.fit c.requires.fit

pub returns-in-Some-clause-until : goal.returns-in-Some-clause-until
returns-in-Some-clause-until c = λ t le until.
    until_gain (same_group c.args.own.group) c.args.map.now.entries (c.get_mut.follows.lender c.enter.new.queue).entries c.in-Some.queue.now c.enter.new.queue c.args.own.found t (c.get_mut.follows.holds c.enter.new.queue).0 (sym c.in-Some.ensures.value) c.enter.ensures.items le until

pub returns-in-Some-clause-held : goal.returns-in-Some-clause-held
returns-in-Some-clause-held c =
    let at : lookup (same_group c.args.own.group) c.args.map.now.entries ≡ Some c.in-Some.queue.now = sym c.in-Some.ensures.value in
    held_push c.args.map.now.entries (c.get_mut.follows.lender c.enter.new.queue).entries c.args.own.group c.enter.new.queue
    (((c.get_mut.follows.holds c.enter.new.queue).3 (search (rules, at))).0) c.args.own.found (c.enter.ensures.items ∙ ap (λ o. items_of o ++ c.args.own.found ∷ []) (sym at))

pub returns-in-Some-fresh-clause-orderly : goal.returns-in-Some-fresh-clause-orderly
returns-in-Some-fresh-clause-orderly c =
    let at : lookup (same_group c.args.own.group) c.args.map.now.entries ≡ None = sym c.in-None.ensures.value in
    let same = c.get_mut.follows.holds-at-none in
    let room = subst (λ m. 0 < spare m) (sym same) c.requires.room in
    let new = placed_new 1 c.args.bound.now.kind (length c.args.bound.now.rules) c.args.own.group c.args.own.fresh c.in-Some-fresh.new _ at c.in-Some-fresh.is c.requires.places in
    orderly_new c.args.map.now.entries c.insert-inserted.new.self.entries c.args.own.group c.enter-in-None.new.queue c.args.own.found
    (use_ok c.insert-inserted.result (c.insert-inserted.ensures.succeeds room) c.insert-inserted.ensures.entries
    ∙ subst (λ m. insert_entry same_group m.entries c.args.own.group c.enter-in-None.new.queue ≡ c.args.map.now.entries ++ (c.args.own.group, c.enter-in-None.new.queue) ∷ []) (sym same)
    (insert_entry-new same_group c.args.map.now c.args.own.group c.enter-in-None.new.queue at))
    c.insert-inserted.ensures.unique
    (c.enter-in-None.ensures.items ∙ ap (λ l. l ++ c.args.own.found ∷ []) new.empty)
    c.requires.next c.requires.orderly

pub returns-in-Some-fresh-clause-fit : goal.returns-in-Some-fresh-clause-fit
returns-in-Some-fresh-clause-fit c =
    let at : lookup (same_group c.args.own.group) c.args.map.now.entries ≡ None = sym c.in-None.ensures.value in
    let same = c.get_mut.follows.holds-at-none in
    let room = subst (λ m. 0 < spare m) (sym same) c.requires.room in
    fit_new c.args.bound.now.kind (length c.args.bound.now.rules) c.args.map.now.entries c.insert-inserted.new.self.entries c.args.own.group c.enter-in-None.new.queue
    (use_ok c.insert-inserted.result (c.insert-inserted.ensures.succeeds room) c.insert-inserted.ensures.entries
    ∙ subst (λ m. insert_entry same_group m.entries c.args.own.group c.enter-in-None.new.queue ≡ c.args.map.now.entries ++ (c.args.own.group, c.enter-in-None.new.queue) ∷ []) (sym same)
    (insert_entry-new same_group c.args.map.now c.args.own.group c.enter-in-None.new.queue at))
    c.enter-in-None.ensures.fit c.requires.fit

pub returns-in-Some-fresh-clause-until : goal.returns-in-Some-fresh-clause-until
returns-in-Some-fresh-clause-until c = λ t le until.
    let at : lookup (same_group c.args.own.group) c.args.map.now.entries ≡ None = sym c.in-None.ensures.value in
    let same = c.get_mut.follows.holds-at-none in
    let room = subst (λ m. 0 < spare m) (sym same) c.requires.room in
    let new = placed_new 1 c.args.bound.now.kind (length c.args.bound.now.rules) c.args.own.group c.args.own.fresh c.in-Some-fresh.new _ at c.in-Some-fresh.is c.requires.places in
    until_new c.args.map.now.entries c.insert-inserted.new.self.entries c.args.own.group c.enter-in-None.new.queue c.args.own.found t
    (use_ok c.insert-inserted.result (c.insert-inserted.ensures.succeeds room) c.insert-inserted.ensures.entries
    ∙ subst (λ m. insert_entry same_group m.entries c.args.own.group c.enter-in-None.new.queue ≡ c.args.map.now.entries ++ (c.args.own.group, c.enter-in-None.new.queue) ∷ []) (sym same)
    (insert_entry-new same_group c.args.map.now c.args.own.group c.enter-in-None.new.queue at))
    (c.enter-in-None.ensures.items ∙ ap (λ l. l ++ c.args.own.found ∷ []) new.empty)
    le until

pub returns-in-Some-fresh-clause-held : goal.returns-in-Some-fresh-clause-held
returns-in-Some-fresh-clause-held c =
    let at : lookup (same_group c.args.own.group) c.args.map.now.entries ≡ None = sym c.in-None.ensures.value in
    let same = c.get_mut.follows.holds-at-none in
    let room = subst (λ m. 0 < spare m) (sym same) c.requires.room in
    let new = placed_new 1 c.args.bound.now.kind (length c.args.bound.now.rules) c.args.own.group c.args.own.fresh c.in-Some-fresh.new _ at c.in-Some-fresh.is c.requires.places in
    held_push c.args.map.now.entries c.insert-inserted.new.self.entries c.args.own.group c.enter-in-None.new.queue
    (subst (λ m. (g : List (List ℕ)) → lookup (same_group g) c.insert-inserted.new.self.entries ≡ cond (same_group c.args.own.group g) (Some c.enter-in-None.new.queue) (lookup (same_group g) m.entries)) same
    ((use_ok c.insert-inserted.result (c.insert-inserted.ensures.succeeds room) c.insert-inserted.ensures.updates).0)) c.args.own.found
    (c.enter-in-None.ensures.items ∙ (ap (λ l. l ++ c.args.own.found ∷ []) new.empty ∙ ap (λ o. items_of o ++ c.args.own.found ∷ []) (sym at)))
