use Rattle.std.proofs.Common.{◌≡◌, ℕ, ◌-◌, ◌<◌, List, [], ◌∷◌, ◌++◌, length, drop, true, false, Ok, Err, sym, ap, ◌∙◌, subst, arith}
use Rattle.yaml_tree.specs.Tree.{Tree, list}
use Rattle.yaml_tree.specs.View.{place_view, node_view, entry_view, nodes_view, entries_view, elements_of, members_of}
use Rattle.yaml_inline.specs.File.{begins}
use Rattle.yaml_inline.specs.Line.{spot, refused, unclosed}
use Rattle.yaml_inline.specs.Flow.{Front, opened, is_bracket, map_from, flow_element, flow_elements, flow_entry, flow_members, flow_node}
use Rattle.yaml_inline.specs.SeenKeys.{Knows}
use Rattle.yaml_inline.specs.View.{line_view, node_front, elements_front, entries_front, Gives}
use Rattle.yaml_inline.proofs.Failing.{fails_as, fails_more, fails_open, gives_err}
use Rattle.yaml_inline.proofs.Flows.{ElementsSoFar, EntriesSoFar, keys_of, keys_of-push, map_push, length-tail, elements_start, elements_open, elements_close, elements_err, elements_more, entries_start, entries_open, entries_close, entries_err, entries_more, node_scalar, node_deep, node_list, node_map, collection_ok, collection_err, or_right}
use Rattle.yaml_inline.proofs.SeenLemmas.{knows_none}
use Rattle.yaml_inline.proofs.flow.+flow.Goals as goal

pub flow_elements-elements-init : goal.flow_elements-elements-init
flow_elements-elements-init t c =
    record {
      within = omega arith;
      far = λ n h. rw c.new-elements.ensures.items (elements_start (flow_node c.args.depth) (line_view c.args.line.now) n c.args.rest.now h);
    }

pub flow_elements-returns-in_default-clause-elements : goal.flow_elements-returns-in_default-clause-elements
flow_elements-returns-in_default-clause-elements t c = λ n h.
    let l = line_view c.args.line.now in
    fails_as c.runs_out.result (unclosed l.number []) (flow_elements (flow_node c.args.depth) n l c.args.rest.now) c.runs_out.ensures
    (elements_open (flow_node c.args.depth) l n c.args.rest.now _ c.elements.rest.now (c.elements.invariant.far n h) c.in_default.ensures)

pub flow_elements-returns-then-begins-clause-elements : goal.flow_elements-returns-then-begins-clause-elements
flow_elements-returns-then-begins-clause-elements t c = λ n h.
    let ts = nodes_view c.elements.elements.items in
    elements_close (flow_node c.args.depth) (line_view c.args.line.now) n c.args.rest.now ts c.elements.rest.now c.in-Some.next.now (c.elements.invariant.far n h) c.in-Some.ensures (sym c.begins.ensures ∙ c.if-begins.true)
    ∙ ap (λ (xs : List ℕ). Ok (elements_of ts, xs)) (sym c.behind.ensures)

pub flow_elements-returns-in_err-element-clause-elements : goal.flow_elements-returns-in_err-element-clause-elements
flow_elements-returns-in_err-element-clause-elements t c = λ n h.
    let l = line_view c.args.line.now in
    let node = flow_node c.args.depth in
    let e = c.in_err-element.field-0.0 in
    gives_err elements_front c.from_residual.result (flow_elements node n l c.args.rest.now) e _ c.from_residual.ensures.1 (λ y p. p)
    (fails_more e (flow_element node l c.in-Some.next.now) (flow_elements node n l c.args.rest.now) c.in_err-element.ensures.element
    (λ s p. elements_err node l n c.args.rest.now _ c.elements.rest.now c.in-Some.next.now s (c.elements.invariant.far n h) c.in-Some.ensures (sym c.begins.ensures ∙ c.if-begins.false) p))

pub flow_elements-elements-preserved : goal.flow_elements-elements-preserved
flow_elements-elements-preserved t c =
    let l = line_view c.args.line.now in
    let node = flow_node c.args.depth in
    let ts = nodes_view c.elements.elements.items in
    let after = c.in_ok-element.after.now in
    let u = node_view c.in_ok-element.element in
    let grown : ts ++ u ∷ [] ≡ nodes_view c.push_fitting.new.items.items = sym (ap nodes_view c.in_ok-push_fitting.ensures ∙ map_push node_view c.elements.elements.items c.in_ok-element.element) in
    record {
      within = omega (arith, c.in-Some.ensures.within, c.in_ok-element.ensures.shorter, c.elements.invariant.within);
      far = λ n h.
          subst (λ (us : List Tree). ElementsSoFar node l n c.args.rest.now us after) grown
          (elements_more node l n c.args.rest.now ts c.elements.rest.now c.in-Some.next.now u after (c.elements.invariant.far n h) c.in-Some.ensures (sym c.begins.ensures ∙ c.if-begins.false) c.in_ok-element.ensures.element c.in_ok-element.ensures.shorter);
    }

pub flow_entries-entries-init : goal.flow_entries-entries-init
flow_entries-entries-init t c =
    record {
      within = omega arith;
      far = λ n h. rw c.new-entries.ensures.items (entries_start (flow_node c.args.depth) (line_view c.args.line.now) n c.args.rest.now h);
      known = rw c.new-entries.ensures.items (knows_none c.new-seen.result c.new-seen.ensures);
    }

pub flow_entries-returns-in_default-clause-entries : goal.flow_entries-returns-in_default-clause-entries
flow_entries-returns-in_default-clause-entries t c = λ n h.
    let l = line_view c.args.line.now in
    fails_as c.runs_out.result (unclosed l.number []) (flow_members (flow_node c.args.depth) n [] l c.args.rest.now) c.runs_out.ensures
    (entries_open (flow_node c.args.depth) l n c.args.rest.now _ c.entries.rest.now (c.entries.invariant.far n h) c.in_default.ensures)

pub flow_entries-returns-then-begins-clause-entries : goal.flow_entries-returns-then-begins-clause-entries
flow_entries-returns-then-begins-clause-entries t c = λ n h.
    let us = entries_view c.entries.entries.items in
    entries_close (flow_node c.args.depth) (line_view c.args.line.now) n c.args.rest.now us c.entries.rest.now c.in-Some.next.now (c.entries.invariant.far n h) c.in-Some.ensures (sym c.begins.ensures ∙ c.if-begins.true)
    ∙ ap (λ (xs : List ℕ). Ok (members_of us, xs)) (sym c.behind.ensures)

pub flow_entries-returns-in_err-entry-clause-entries : goal.flow_entries-returns-in_err-entry-clause-entries
flow_entries-returns-in_err-entry-clause-entries t c = λ n h.
    let l = line_view c.args.line.now in
    let node = flow_node c.args.depth in
    let us = entries_view c.entries.entries.items in
    let e = c.in_err-entry.field-0.0 in
    gives_err entries_front c.from_residual.result (flow_members node n [] l c.args.rest.now) e _ c.from_residual.ensures.1 (λ y p. p)
    (fails_more e (flow_entry node (keys_of us) l c.in-Some.next.now) (flow_members node n [] l c.args.rest.now) (c.in_err-entry.ensures.entry (keys_of us) c.entries.invariant.known)
    (λ s p. entries_err node l n c.args.rest.now us c.entries.rest.now c.in-Some.next.now s (c.entries.invariant.far n h) c.in-Some.ensures (sym c.begins.ensures ∙ c.if-begins.false) p))

pub flow_entries-entries-preserved : goal.flow_entries-entries-preserved
flow_entries-entries-preserved t c =
    let l = line_view c.args.line.now in
    let node = flow_node c.args.depth in
    let us = entries_view c.entries.entries.items in
    let after = c.in_ok-entry.after.now in
    let m = entry_view c.in_ok-entry.entry in
    let known = c.entries.invariant.known in
    let grown : us ++ m ∷ [] ≡ entries_view c.push_fitting.new.items.items = sym (ap entries_view c.in_ok-push_fitting.ensures ∙ map_push entry_view c.entries.entries.items c.in_ok-entry.entry) in
    record {
      within = omega (arith, c.in-Some.ensures.within, c.in_ok-entry.ensures.shorter, c.entries.invariant.within);
      far = λ n h.
          subst (λ vs. EntriesSoFar node l n c.args.rest.now vs after) grown
          (entries_more node l n c.args.rest.now us c.entries.rest.now c.in-Some.next.now m after (c.entries.invariant.far n h) c.in-Some.ensures (sym c.begins.ensures ∙ c.if-begins.false) (c.in_ok-entry.ensures.entry (keys_of us) known) c.in_ok-entry.ensures.shorter);
      known =
          subst (λ (ks : List (List ℕ)). Knows c.flow_entry.new.seen ks) (sym (keys_of-push us m) ∙ ap keys_of grown) (c.in_ok-entry.ensures.seen (keys_of us) known);
    }

pub flow_node-returns-then-not-is_bracket-clause-node : goal.flow_node-returns-then-not-is_bracket-clause-node
flow_node-returns-then-not-is_bracket-clause-node t c =
    let l = line_view c.args.line.now in
    subst (λ (r : Front Tree). Gives node_front c.flow_scalar.result r) (sym (node_scalar c.args.depth l c.args.rest.now (sym c.is_bracket.ensures ∙ c.if-not-is_bracket.true))) c.flow_scalar.ensures.node

pub flow_node-returns-then-depth-eq0-clause-node : goal.flow_node-returns-then-depth-eq0-clause-node
flow_node-returns-then-depth-eq0-clause-node t c =
    let l = line_view c.args.line.now in
    fails_as c.refused.result (refused 6 (spot l c.args.rest.now)) (flow_node c.args.depth l c.args.rest.now) c.refused.ensures
    (node_deep c.args.depth l c.args.rest.now c.if-depth-eq0.true (sym c.is_bracket.ensures ∙ c.if-not-is_bracket.false))

pub flow_node-returns-in-Ok-clause-node : goal.flow_node-returns-in-Ok-clause-node
flow_node-returns-in-Ok-clause-node t c =
    let l = line_view c.args.line.now in
    let cs = c.args.rest.now in
    let bracket : begins 91 cs ≡ true = sym c.begins.ensures ∙ c.if-begins.true in
    let es = elements_of (nodes_view c.in-Ok.elements.items) in
    let room : length c.behind.result.now < length cs = subst (λ (xs : List ℕ). length xs < length cs) (sym c.behind.ensures) (length-tail 91 cs bracket) in
    let read : flow_elements (flow_node (c.args.depth - 1)) (length cs) l (drop 1 cs) ≡ Ok (es, c.in-Ok.after.now) = ap (flow_elements (flow_node (c.args.depth - 1)) (length cs) l) (sym c.behind.ensures) ∙ c.in-Ok.ensures.elements (length cs) room in
    collection_ok (list (spot l cs)) (spot l cs) 93 (flow_node c.args.depth l cs) _ es c.in-Ok.after.now (node_list c.args.depth (c.args.depth - 1) l cs (omega arith) bracket) read
    ∙ ap (λ (u : Tree). Ok (u, c.in-Ok.after.now)) (sym (c.list.ensures ∙ ap (λ a. list a es) c.spot-place.ensures))

pub flow_node-returns-in-Err-clause-node : goal.flow_node-returns-in-Err-clause-node
flow_node-returns-in-Err-clause-node t c =
    let l = line_view c.args.line.now in
    let cs = c.args.rest.now in
    let bracket : begins 91 cs ≡ true = sym c.begins.ensures ∙ c.if-begins.true in
    let room : length c.behind.result.now < length cs = subst (λ (xs : List ℕ). length xs < length cs) (sym c.behind.ensures) (length-tail 91 cs bracket) in
    let inner = flow_elements (flow_node (c.args.depth - 1)) (length cs) l in
    fails_open (place_view c.spot-place.result) 93 c.in-Err.halt c.inside_open.result (inner c.behind.result.now) (flow_node c.args.depth l cs) (c.in-Err.ensures.elements (length cs) room) c.inside_open.ensures.stop c.inside_open.ensures.memory
    (λ s p.
    collection_err (list (spot l cs)) (spot l cs) 93 (flow_node c.args.depth l cs) (inner (drop 1 cs)) s (node_list c.args.depth (c.args.depth - 1) l cs (omega arith) bracket) (ap inner (sym c.behind.ensures) ∙ p)
    ∙ ap (λ a. Err (opened a 93 s)) (sym c.spot-place.ensures))

pub flow_node-returns-in-Ok-flow_entries-clause-node : goal.flow_node-returns-in-Ok-flow_entries-clause-node
flow_node-returns-in-Ok-flow_entries-clause-node t c =
    let l = line_view c.args.line.now in
    let cs = c.args.rest.now in
    let bracket : is_bracket cs ≡ true = sym c.is_bracket.ensures ∙ c.if-not-is_bracket.false in
    let other : begins 91 cs ≡ false = sym c.begins.ensures ∙ c.if-begins.false in
    let ms = members_of (entries_view c.in-Ok-flow_entries.entries.items) in
    let room : length c.behind-else-begins.result.now < length cs = subst (λ (xs : List ℕ). length xs < length cs) (sym c.behind-else-begins.ensures) (length-tail 123 cs (or_right (begins 91 cs) (begins 123 cs) bracket other)) in
    let inner = flow_members (flow_node (c.args.depth - 1)) (length cs) [] l in
    let read : inner (drop 1 cs) ≡ Ok (ms, c.in-Ok-flow_entries.after.now) = ap inner (sym c.behind-else-begins.ensures) ∙ c.in-Ok-flow_entries.ensures.entries (length cs) room in
    collection_ok (map_from (spot l cs)) (spot l cs) 125 (flow_node c.args.depth l cs) _ ms c.in-Ok-flow_entries.after.now (node_map c.args.depth (c.args.depth - 1) l cs (omega arith) bracket other) read
    ∙ ap (λ (u : Tree). Ok (u, c.in-Ok-flow_entries.after.now)) (sym (c.map_from.ensures ∙ ap (λ a. map_from a ms) c.spot-place.ensures))

pub flow_node-returns-in-Err-flow_entries-clause-node : goal.flow_node-returns-in-Err-flow_entries-clause-node
flow_node-returns-in-Err-flow_entries-clause-node t c =
    let l = line_view c.args.line.now in
    let cs = c.args.rest.now in
    let bracket : is_bracket cs ≡ true = sym c.is_bracket.ensures ∙ c.if-not-is_bracket.false in
    let other : begins 91 cs ≡ false = sym c.begins.ensures ∙ c.if-begins.false in
    let room : length c.behind-else-begins.result.now < length cs = subst (λ (xs : List ℕ). length xs < length cs) (sym c.behind-else-begins.ensures) (length-tail 123 cs (or_right (begins 91 cs) (begins 123 cs) bracket other)) in
    let inner = flow_members (flow_node (c.args.depth - 1)) (length cs) [] l in
    let halt = c.in-Err-flow_entries.halt in
    let outer = c.inside_open-in-Err-flow_entries in
    fails_open (place_view c.spot-place.result) 125 halt outer.result (inner c.behind-else-begins.result.now) (flow_node c.args.depth l cs) (c.in-Err-flow_entries.ensures.entries (length cs) room) outer.ensures.stop outer.ensures.memory
    (λ s p.
    collection_err (map_from (spot l cs)) (spot l cs) 125 (flow_node c.args.depth l cs) (inner (drop 1 cs)) s (node_map c.args.depth (c.args.depth - 1) l cs (omega arith) bracket other) (ap inner (sym c.behind-else-begins.ensures) ∙ p)
    ∙ ap (λ a. Err (opened a 125 s)) (sym c.spot-place.ensures))
