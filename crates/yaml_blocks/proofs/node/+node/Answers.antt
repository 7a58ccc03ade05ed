use Rattle.std.proofs.Common.{◌≡◌, ℕ, ◌+◌, ◌-◌, Bool, List, [], ◌∷◌, ◌++◌, drop, true, false, sym, ap, ◌∙◌, subst, rules}
use Rattle.yaml_tree.specs.Tree.{At, Tree, scalar, text}
use Rattle.yaml_tree.specs.View.{place_view, node_view, entry_view, nodes_view, entries_view}
use Rattle.yaml_inline.specs.File.{blank_or_end, carries_nothing}
use Rattle.yaml_inline.specs.Line.{Read, spot}
use Rattle.yaml_inline.specs.Flow.{quoted}
use Rattle.yaml_inline.specs.Key.{keyed, colon_then, key_at}
use Rattle.yaml_inline.specs.Keys.{parts_view}
use Rattle.yaml_inline.specs.View.{line_view, Gives}
use Rattle.yaml_inline.proofs.Failing.{fails_more, gives_err}
use Rattle.yaml_inline.proofs.Flows.{keys_of, map_push}
use Rattle.yaml_inline.proofs.SeenLemmas.{knows_none}
use Rattle.yaml_blocks.specs.Blocks.{alone}
use Rattle.yaml_blocks.specs.Reading.{Item, items_of, offset, after_spaces, node_in, block_with}
use Rattle.yaml_blocks.specs.Views.{lines_view}
use Rattle.yaml_blocks.specs.Items.{item, mapping_in, element_at, entry_at, elements_at, entries_at, elements_given, entries_given, IsContent}
use Rattle.yaml_blocks.proofs.Contents.{body_solid}
use Rattle.yaml_blocks.proofs.NodeTurns.{first_item, next_item, outside_rest, outside_next, elements_first, elements_more, elements_stop_first, elements_stop, elements_end, entries_first, entries_more, entries_stop_first, entries_stop, entries_end, knows_grown, node_no, node_list, node_map, node_scalar_or_flow, node_stop, key_fails, dashed_is, behind_block, behind_node, first_solid, map_stop}
use Rattle.yaml_blocks.proofs.QuotedNodes.{quoted_stop, quoted_map, quoted_text, key_in_quotes}
use Rattle.yaml_blocks.proofs.node.+node.Goals as goal

pub block-node-requires : goal.block-node-requires
block-node-requires t c =
    let l = line_view c.in-Some.line.now in
    let shape = sym c.count_comments.ensures.rest ∙ (ap lines_view (sym c.lines_behind-rest.ensures) ∙ ap lines_view c.in-Some.ensures.cases.0) in
    let solid = body_solid l (first_solid l (lines_view c.args.lines.now) _ shape) (sym c.has_bad_start.ensures ∙ c.if-has_bad_start.false) in
    (search rules, (c.body.ensures.within, ap blank_or_end c.body.ensures.body ∙ solid))

pub element-returns-in-None : goal.element-returns-in-None
element-returns-in-None t c =
    let l = line_view c.args.line.now in
    let cs = c.args.rest.now in
    let i = c.args.level in
    let d = c.args.depth in
    let x : Item = item c.args.line.now cs c.args.inner.now in
    let comment : carries_nothing (drop 1 cs) ≡ true = ap carries_nothing (sym c.behind-after.ensures) ∙ c.in-None.ensures in
    let whole = dashed_is d i x (sym c.has_bad_start.ensures ∙ c.if-has_bad_start.false) (sym c.offset.ensures.offset ∙ c.if-offset-level.false) (sym c.is_dash.ensures ∙ c.if-not-is_dash.false)
    ∙ (behind_block d (after_spaces (drop 1 cs)) i (spot l cs) l (drop 1 cs) x.inner comment
    ∙ ap (λ (a : At). block_with (node_in d) (i + 1) a x.inner) (sym c.spot.ensures)) in
    subst (λ (r : Read Tree). Gives node_view c.block.result r) (sym whole) c.block.ensures

pub element-returns-in-Some : goal.element-returns-in-Some
element-returns-in-Some t c =
    let l = line_view c.args.line.now in
    let cs = c.args.rest.now in
    let i = c.args.level in
    let d = c.args.depth in
    let x : Item = item c.args.line.now cs c.args.inner.now in
    let next = c.in-Some.next.now in
    let is : IsContent (drop 1 cs) next = subst (λ (ts : List ℕ). IsContent ts next) c.behind-after.ensures c.in-Some.ensures in
    let may = ap after_spaces (sym c.behind-after.ensures) ∙ sym c.after_spaces.ensures in
    let whole = dashed_is d i x (sym c.has_bad_start.ensures ∙ c.if-has_bad_start.false) (sym c.offset.ensures.offset ∙ c.if-offset-level.false) (sym c.is_dash.ensures ∙ c.if-not-is_dash.false)
    ∙ (behind_node d (after_spaces (drop 1 cs)) i (spot l cs) l (drop 1 cs) next x.inner is
    ∙ ap (λ b. node_in d b (i + 1) l next x.inner) may) in
    subst (λ (r : Read Tree). Gives node_view c.node.result r) (sym whole) c.node.ensures

pub value-returns-in-None : goal.value-returns-in-None
value-returns-in-None t c =
    subst (λ (r : Read Tree). Gives node_view c.block.result r)
    (sym (behind_block c.args.depth false c.args.level (place_view c.args.home) (line_view c.args.line.now) c.args.after.now (lines_view c.args.inner.now) c.in-None.ensures)) c.block.ensures

pub value-returns-in-Some : goal.value-returns-in-Some
value-returns-in-Some t c =
    subst (λ (r : Read Tree). Gives node_view c.node.result r)
    (sym (behind_node c.args.depth false c.args.level (place_view c.args.home) (line_view c.args.line.now) c.args.after.now c.in-Some.next.now (lines_view c.args.inner.now) c.in-Some.ensures)) c.node.ensures

pub elements-returns-in_err-first : goal.elements-returns-in_err-first
elements-returns-in_err-first t c =
    let i = c.offset-level.result in
    let d = c.args.depth in
    let inner = c.lines_inside-inner.result.now in
    let k = c.lines_inside-inner.ensures in
    let x : Item = item c.args.line.now c.args.rest.now inner in
    let all = items_of false (line_view c.args.line.now) c.args.rest.now (lines_view c.args.lines.now) in
    let whole = elements_at d (offset (line_view c.args.line.now) c.args.rest.now) all in
    let e = c.in_err-first.field-0.0 in
    gives_err elements_given c.from_residual.result whole e _ c.from_residual.ensures.1 (λ y p. p)
    (fails_more e (element_at d i x) whole c.in_err-first.ensures
    (λ s p. elements_stop_first d i _ x _ all s c.offset-level.ensures.offset (first_item false i c.args.line.now c.args.rest.now c.args.lines.now inner c.offset-level.ensures.offset k.front k.rest) p))

pub elements-loop-at-init : goal.elements-loop-at-init
elements-loop-at-init t c =
    let i = c.offset-level.result in
    let inner = c.lines_inside-inner.result.now in
    let k = c.lines_inside-inner.ensures in
    let grown = ap nodes_view (c.in_ok-push_fitting.ensures ∙ ap (λ ns. ns ++ c.in_ok-first.first ∷ []) c.new-elements.ensures.items) in
    record {
      out = outside_rest false i (lines_view c.args.lines.now) _ k.rest;
      far =
          elements_first c.args.depth i _ _ (item c.args.line.now c.args.rest.now inner) _ _ (node_view c.in_ok-first.first) c.offset-level.ensures.offset
          (first_item false i c.args.line.now c.args.rest.now c.args.lines.now inner c.offset-level.ensures.offset k.front k.rest) c.in_ok-first.ensures grown;
    }

pub elements-returns-in_err-next : goal.elements-returns-in_err-next
elements-returns-in_err-next t c =
    let i = c.offset-level.result in
    let d = c.args.depth in
    let v = c.loop-at.invariant in
    let inner = c.lines_inside-inner-in-loop-at.result.now in
    let k = c.lines_inside-inner-in-loop-at.ensures in
    let x : Item = item c.index-lines-at.result c.body.result.now inner in
    let whole = elements_at d (offset (line_view c.args.line.now) c.args.rest.now) (items_of false (line_view c.args.line.now) c.args.rest.now (lines_view c.args.lines.now)) in
    let e = c.in_err-next.field-0.0 in
    gives_err elements_given c.from_residual-in_err-next.result whole e _ c.from_residual-in_err-next.ensures.1 (λ y p. p)
    (fails_more e (element_at d i x) whole c.in_err-next.ensures
    (λ s p.
    elements_stop d i _ x _ _ s whole v.far
    (next_item false i c.args.lines.now c.lines_behind-others.result.now inner c.loop-at.at c.index-lines-at.result c.body.result.now c.loop-at-test.true c.index-lines-at.is v.out c.lines_behind-others.ensures c.body.ensures.body k.front k.rest) p))

pub elements-loop-at-preserved : goal.elements-loop-at-preserved
elements-loop-at-preserved t c =
    let i = c.offset-level.result in
    let d = c.args.depth in
    let v = c.loop-at.invariant in
    let inner = c.lines_inside-inner-in-loop-at.result.now in
    let k = c.lines_inside-inner-in-loop-at.ensures in
    let x : Item = item c.index-lines-at.result c.body.result.now inner in
    let grown = ap nodes_view c.in_ok-push_fitting-2.ensures ∙ map_push node_view c.loop-at.elements.items c.in_ok-next.next in
    record {
      out = outside_next false i c.args.lines.now c.lines_behind-others.result.now inner c.loop-at.at c.lines_behind-others.ensures k.rest;
      far =
          elements_more d i _ _ x _ _ (node_view c.in_ok-next.next) _ v.far
          (next_item false i c.args.lines.now c.lines_behind-others.result.now inner c.loop-at.at c.index-lines-at.result c.body.result.now c.loop-at-test.true c.index-lines-at.is v.out c.lines_behind-others.ensures c.body.ensures.body k.front k.rest)
          c.in_ok-next.ensures grown;
    }

pub elements-returns : goal.elements-returns
elements-returns t c = elements_end c.args.depth c.offset-level.result _ c.args.lines.now c.loop-at.at _ c.loop-at.invariant.far c.loop-at-test.false

pub entries-returns-in_err-first : goal.entries-returns-in_err-first
entries-returns-in_err-first t c =
    let i = c.offset-level.result in
    let d = c.args.depth in
    let inner = c.lines_inside-inner.result.now in
    let k = c.lines_inside-inner.ensures in
    let x : Item = item c.args.line.now c.args.rest.now inner in
    let all = items_of true (line_view c.args.line.now) c.args.rest.now (lines_view c.args.lines.now) in
    let whole = entries_at d (offset (line_view c.args.line.now) c.args.rest.now) [] all in
    let e = c.in_err-first.field-0.0 in
    gives_err entries_given c.from_residual.result whole e _ c.from_residual.ensures.1 (λ y p. p)
    (fails_more e (entry_at d i [] x) whole (c.in_err-first.ensures.entry [] (knows_none c.new-seen.result c.new-seen.ensures))
    (λ s p. entries_stop_first d i _ x _ all s c.offset-level.ensures.offset (first_item true i c.args.line.now c.args.rest.now c.args.lines.now inner c.offset-level.ensures.offset k.front k.rest) p))

pub entries-loop-at-init : goal.entries-loop-at-init
entries-loop-at-init t c =
    let i = c.offset-level.result in
    let inner = c.lines_inside-inner.result.now in
    let k = c.lines_inside-inner.ensures in
    let none = knows_none c.new-seen.result c.new-seen.ensures in
    let grown = ap entries_view (c.in_ok-push_fitting.ensures ∙ ap (λ es. es ++ c.in_ok-first.first ∷ []) c.new-entries.ensures.items) in
    record {
      out = outside_rest true i (lines_view c.args.lines.now) _ k.rest;
      far =
          entries_first c.args.depth i _ _ (item c.args.line.now c.args.rest.now inner) _ _ (entry_view c.in_ok-first.first) c.offset-level.ensures.offset
          (first_item true i c.args.line.now c.args.rest.now c.args.lines.now inner c.offset-level.ensures.offset k.front k.rest) (c.in_ok-first.ensures.entry [] none) grown;
      known = knows_grown c.entry.new.seen [] _ (entry_view c.in_ok-first.first) (c.in_ok-first.ensures.seen [] none) grown;
    }

pub entries-returns-in_err-next : goal.entries-returns-in_err-next
entries-returns-in_err-next t c =
    let i = c.offset-level.result in
    let d = c.args.depth in
    let v = c.loop-at.invariant in
    let us = entries_view c.loop-at.entries.items in
    let inner = c.lines_inside-inner-in-loop-at.result.now in
    let k = c.lines_inside-inner-in-loop-at.ensures in
    let x : Item = item c.index-lines-at.result c.body.result.now inner in
    let whole = entries_at d (offset (line_view c.args.line.now) c.args.rest.now) [] (items_of true (line_view c.args.line.now) c.args.rest.now (lines_view c.args.lines.now)) in
    let e = c.in_err-next.field-0.0 in
    gives_err entries_given c.from_residual-in_err-next.result whole e _ c.from_residual-in_err-next.ensures.1 (λ y p. p)
    (fails_more e (entry_at d i (keys_of us) x) whole (c.in_err-next.ensures.entry (keys_of us) v.known)
    (λ s p.
    entries_stop d i us x _ _ s whole v.far
    (next_item true i c.args.lines.now c.lines_behind-others.result.now inner c.loop-at.at c.index-lines-at.result c.body.result.now c.loop-at-test.true c.index-lines-at.is v.out c.lines_behind-others.ensures c.body.ensures.body k.front k.rest) p))

pub entries-loop-at-preserved : goal.entries-loop-at-preserved
entries-loop-at-preserved t c =
    let i = c.offset-level.result in
    let d = c.args.depth in
    let v = c.loop-at.invariant in
    let us = entries_view c.loop-at.entries.items in
    let inner = c.lines_inside-inner-in-loop-at.result.now in
    let k = c.lines_inside-inner-in-loop-at.ensures in
    let x : Item = item c.index-lines-at.result c.body.result.now inner in
    let m = entry_view c.in_ok-next.next in
    let grown = ap entries_view c.in_ok-push_fitting-2.ensures ∙ map_push entry_view c.loop-at.entries.items c.in_ok-next.next in
    record {
      out = outside_next true i c.args.lines.now c.lines_behind-others.result.now inner c.loop-at.at c.lines_behind-others.ensures k.rest;
      far =
          entries_more d i us _ x _ _ m _ v.far
          (next_item true i c.args.lines.now c.lines_behind-others.result.now inner c.loop-at.at c.index-lines-at.result c.body.result.now c.loop-at-test.true c.index-lines-at.is v.out c.lines_behind-others.ensures c.body.ensures.body k.front k.rest)
          (c.in_ok-next.ensures.entry (keys_of us) v.known) grown;
      known = knows_grown c.entry-in-loop-at.new.seen us _ m (c.in_ok-next.ensures.seen (keys_of us) v.known) grown;
    }

pub entries-returns : goal.entries-returns
entries-returns t c = entries_end c.args.depth c.offset-level.result _ c.args.lines.now c.loop-at.at _ c.loop-at.invariant.far c.loop-at-test.false

pub node-returns-then-not-may : goal.node-returns-then-not-may
node-returns-then-not-may t c =
    subst (λ (r : Read Tree). Gives node_view c.scalar_or_flow.result r)
    (sym (node_no c.args.depth c.args.may c.args.least (line_view c.args.line.now) c.args.rest.now (lines_view c.args.lines.now) c.if-not-may.true)) c.scalar_or_flow.ensures

pub node-returns-then-is_dash : goal.node-returns-then-is_dash
node-returns-then-is_dash t c =
    subst (λ (r : Read Tree). Gives node_view c.sequence.result r)
    (sym (node_list c.args.depth c.args.may c.args.least (line_view c.args.line.now) c.args.rest.now (lines_view c.args.lines.now) c.if-not-may.false (sym c.is_dash.ensures ∙ c.if-is_dash.true))) c.sequence.ensures

pub node-returns-in_err-found : goal.node-returns-in_err-found
node-returns-in_err-found t c =
    let whole = node_in c.args.depth c.args.may c.args.least (line_view c.args.line.now) c.args.rest.now (lines_view c.args.lines.now) in
    let e = c.in_err-found.field-0.0 in
    gives_err node_view c.from_residual.result whole e _ c.from_residual.ensures.1 (λ y p. p)
    (key_fails e (key_at (line_view c.args.line.now) c.args.rest.now) whole c.in_err-found.ensures.key
    (λ s p. node_stop c.args.depth c.args.may c.args.least (line_view c.args.line.now) c.args.rest.now (lines_view c.args.lines.now) s c.if-not-may.false (sym c.is_dash.ensures ∙ c.if-is_dash.false) p))

pub node-returns-in_default : goal.node-returns-in_default
node-returns-in_default t c =
    let key = c.in_ok-found.ensures.key ∙ ap parts_view c.in_default.is in
    subst (λ (r : Read Tree). Gives node_view c.scalar_or_flow-in_default.result r)
    (sym (node_scalar_or_flow c.args.depth c.args.may c.args.least (line_view c.args.line.now) c.args.rest.now (lines_view c.args.lines.now) c.if-not-may.false (sym c.is_dash.ensures ∙ c.if-is_dash.false) key))
    c.scalar_or_flow-in_default.ensures

pub node-returns : goal.node-returns
node-returns t c =
    let key = c.in_ok-found.ensures.key ∙ ap parts_view c.in-Some.is in
    subst (λ (r : Read Tree). Gives node_view c.map.result r)
    (sym (node_map c.args.depth c.args.may c.args.least (line_view c.args.line.now) c.args.rest.now (lines_view c.args.lines.now) _ _ c.if-not-may.false (sym c.is_dash.ensures ∙ c.if-is_dash.false) key))
    c.map.ensures

pub node-returns-then-is_quote : goal.node-returns-then-is_quote
node-returns-then-is_quote t c =
    let may : c.args.may ≡ true = c.if-not-may.false in
    subst (λ (b : Bool). Gives node_view c.quoted_node.result (node_in c.args.depth b c.args.least (line_view c.args.line.now) c.args.rest.now (lines_view c.args.lines.now))) (sym may) (c.quoted_node.ensures c.args.least)

pub quoted_node-returns-in_err-content : goal.quoted_node-returns-in_err-content
quoted_node-returns-in_err-content t c = λ m.
    let l = line_view c.args.line.now in
    let cs = c.args.rest.now in
    let ls = lines_view c.args.lines.now in
    let whole = node_in c.args.depth true m l cs ls in
    let e = c.in_err-content.field-0.0 in
    gives_err node_view c.from_residual.result whole e _ c.from_residual.ensures.1 (λ y p. p)
    (fails_more e (quoted l cs) whole c.in_err-content.ensures.text (λ s p. quoted_stop c.args.depth m l cs ls s c.requires.quote p))

pub quoted_node-returns-in-Some : goal.quoted_node-returns-in-Some
quoted_node-returns-in-Some t c = λ m.
    let l = line_view c.args.line.now in
    let cs = c.args.rest.now in
    let ls = lines_view c.args.lines.now in
    let k = c.in_ok-content.content in
    let after = c.in_ok-content.after.now in
    let key = c.in-Some.ensures.key k ∙ ap (colon_then k) c.skip_blanks.ensures.rest in
    subst (λ (r : Read Tree). Gives node_view c.map.result r) (sym (quoted_map c.args.depth m l cs ls k after _ c.requires.quote c.in_ok-content.ensures.text key)) c.map.ensures

pub quoted_node-returns-in-None : goal.quoted_node-returns-in-None
quoted_node-returns-in-None t c = λ m.
    let l = line_view c.args.line.now in
    let cs = c.args.rest.now in
    let ls = lines_view c.args.lines.now in
    let k = c.in_ok-content.content in
    let after = c.in_ok-content.after.now in
    let key = c.in-None.ensures.key k ∙ ap (colon_then k) c.skip_blanks.ensures.rest in
    let node = c.text.ensures ∙ ap (λ (a : At). scalar a (text k)) c.spot.ensures in
    let whole = quoted_text c.args.depth m l cs ls k after c.requires.quote c.in_ok-content.ensures.text key ∙ ap (alone l after ls) (sym node) in
    subst (λ (r : Read Tree). Gives node_view c.alone.result r) (sym whole) c.alone.ensures

pub node-map-requires : goal.node-map-requires
node-map-requires t c =
    let found = c.in-Some.found in
    let there = c.in_ok-found.ensures.key ∙ ap parts_view c.in-Some.is in
    let key = there ∙ ap (λ (k : List ℕ). keyed k found.1.now) (sym c.in_ok-key.ensures) in
    let shorter = rw c.in-Some.is at c.in_ok-found.ensures.shorter in
    (search rules, (c.requires.within, (key, shorter)))

pub quoted_node-map-requires : goal.quoted_node-map-requires
quoted_node-map-requires t c =
    let l = line_view c.args.line.now in
    let cs = c.args.rest.now in
    let k = c.in_ok-content.content in
    let after = c.in_ok-content.after.now in
    let there = c.in-Some.ensures.key k ∙ ap (colon_then k) c.skip_blanks.ensures.rest in
    let key = key_in_quotes l cs k after c.in-Some.others.now c.requires.quote c.in_ok-content.ensures.text there in
    (search rules, (c.requires.within, (key, search rules)))

pub map-returns-in_err-entries : goal.map-returns-in_err-entries
map-returns-in_err-entries t c =
    let l = line_view c.args.line.now in
    let cs = c.args.rest.now in
    let ls = lines_view c.args.lines.now in
    let whole = mapping_in c.args.depth l cs ls in
    let e = c.in_err-entries.field-0.0 in
    gives_err node_view c.from_residual.result whole e _ c.from_residual.ensures.1 (λ y p. p)
    (fails_more e (entries_at (c.args.depth - 1) (offset l cs) [] (items_of true l cs ls)) whole c.in_err-entries.ensures
    (λ s p. map_stop c.args.depth l cs ls s c.if-depth-eq0.false p))
