use Rattle.std.proofs.Common.{refl, sym, ◌∙◌, ap, subst, ◌+◌, drop}
use Rattle.std.proofs.lemmas.List.{drop_all}
use Rattle.sql_lang.specs.Grammar.{Nots}
use Rattle.sql_lang.specs.Expression.{not_expr, and_expr}
use Rattle.sql_scan.specs.View.{places_view}
use Rattle.sql_parse.specs.View.{core_view, nots_view, ands_view, ors_view}
use Rattle.sql_read.specs.Checks.{AreBuilt, not_checks, and_checks, or_checks}
use Rattle.sql_read.specs.Chains.{and_list, or_list}
use Rattle.sql_read.specs.Walks.{WalkStops, nots_size, ands_size}
use Rattle.sql_read.proofs.Going.{begins, goes, nots_stop, nots_end, ands_stop, ands_end, next_part, last_stop, last_end, and_expr_is, or_expr_is, nots_close, nots_err, behind_enclosed, view-Nots}
use Rattle.sql_read.proofs.expressions.+walk.Goals as goal

pub walk_enclosed-returns-in-Ok : goal.walk_enclosed-returns-in-Ok
walk_enclosed-returns-in-Ok g t c =
    let o = ors_view c.args.inner.now in (
      c.in-Ok.ensures.0,
      subst AreBuilt (ap (or_checks c.args.columns.now o) c.behind.ensures) c.in-Ok.ensures.1,
      c.closed.ensures.expr ∙ c.in-Ok.ensures.2,
      behind_enclosed o (places_view c.args.places.now) (places_view c.behind.result.now) (places_view c.in-Ok.walked.rest.now) (places_view c.closed.result.rest.now)
          c.behind.ensures c.in-Ok.ensures.3 c.closed.ensures.rest,
    )

pub walk_nots-returns-in-Ok : goal.walk_nots-returns-in-Ok
walk_nots-returns-in-Ok g t c = rw (view-Nots c.args.nots.now)
    (nots_close c.args.columns.now _ _ c.args.nots.now.count (core_view c.args.nots.now.core) (places_view c.args.places.now) (places_view c.behind.result.now) c.in-Ok.inner.expr
    c.in-Ok.inner.rest.now c.close_nots.result c.behind.ensures c.in-Ok.ensures c.close_nots.ensures.ok c.close_nots.ensures.err)

pub walk_nots-returns-in-Err : goal.walk_nots-returns-in-Err
walk_nots-returns-in-Err g t c =
    let before = g.B.Builder.refused c.args.builder.now in
    let after = g.B.Builder.refused c.walk_core.new.builder in
    let ns = c.args.nots.now in
    subst (λ (n : Nots). WalkStops before after (not_checks c.args.columns.now n (places_view c.args.places.now)) c.in-Err.stop) (sym (view-Nots ns))
    (nots_err c.args.columns.now before after ns.count (core_view ns.core) (places_view c.args.places.now) (places_view c.behind.result.now) c.in-Err.stop c.behind.ensures c.in-Err.ensures)

pub and_chain-loop-part-init : goal.and_chain-loop-part-init
and_chain-loop-part-init g t c = record {
  same = refl;
  going = begins nots_view (not_checks c.args.columns.now) nots_size (not_expr c.args.columns.now) c.args.before.now (places_view c.args.places.now) c.new-done.result.items c.new-done.ensures.items;
}

pub and_chain-loop-part-preserved : goal.and_chain-loop-part-preserved
and_chain-loop-part-preserved g t c =
    let at = c.loop-part in
    let all = c.args.before.now in
    record {
      same = c.in-Ok.ensures.0 ∙ at.invariant.same;
      going = goes nots_view (not_checks c.args.columns.now) nots_size (not_expr c.args.columns.now) all (places_view c.args.places.now)
          (drop at.part-index all) (drop (at.part-index + 1) all) c.part-item.result (places_view at.rest.now) (places_view c.in-Ok.walked.rest.now) (places_view c.behind-rest.result.now)
          at.done.items c.push.new.self.items c.in-Ok.walked.expr at.invariant.going (next_part all at.part-index c.part-item.result c.loop-part-test.true c.part-item.is) c.in-Ok.ensures.1
          c.in-Ok.ensures.2 c.in-Ok.ensures.3 c.behind-rest.ensures c.in_ok-push-in-Ok.ensures.items;
    }

pub and_chain-returns-in-Err : goal.and_chain-returns-in-Err
and_chain-returns-in-Err g t c =
    let at = c.loop-part in
    let all = c.args.before.now in
    nots_stop c.args.columns.now (places_view c.args.places.now) all (g.B.Builder.refused c.args.builder.now) (g.B.Builder.refused at.builder) (g.B.Builder.refused c.walk_nots.new.builder) c.in-Err.stop
    (drop at.part-index all) (drop (at.part-index + 1) all) c.part-item.result (places_view at.rest.now) at.done.items at.invariant.going
    (next_part all at.part-index c.part-item.result c.loop-part-test.true c.part-item.is) at.invariant.same c.in-Err.ensures (nots_view c.args.last.now)

pub and_chain-returns : goal.and_chain-returns
and_chain-returns g t c =
    let at = c.loop-part in
    let all = c.args.before.now in
    nots_end c.args.columns.now (places_view c.args.places.now) all (g.B.Builder.refused c.args.builder.now) (g.B.Builder.refused at.builder) (drop at.part-index all)
    (record { done = at.done; rest = at.rest }) at.invariant.going (drop_all at.part-index all c.loop-part-test.false) at.invariant.same

pub and_last-returns-in-Ok : goal.and_last-returns-in-Ok
and_last-returns-in-Ok g t c old parts start built =
    last_end (not_checks c.args.columns.now) nots_size _ _ (places_view c.args.chain.rest.now) built.2 old (g.B.Builder.refused c.args.builder.now) (g.B.Builder.refused c.walk_nots.new.builder) built.0
    (nots_view c.args.last.now) and_list _ _ _ _ c.in-Ok.walked.expr c.in-Ok.walked.rest.now c.close_and.result built.1 (and_expr_is c.args.columns.now parts (nots_view c.args.last.now)) c.in-Ok.ensures
    c.close_and.ensures.ok c.close_and.ensures.err

pub and_last-returns : goal.and_last-returns
and_last-returns g t c old parts start built =
    last_stop (not_checks c.args.columns.now) nots_size _ _ (places_view c.args.chain.rest.now) built.2 old (g.B.Builder.refused c.args.builder.now) (g.B.Builder.refused c.walk_nots.new.builder) built.0
    (nots_view c.args.last.now) c.in-Err.stop c.in-Err.ensures

pub or_chain-loop-part-init : goal.or_chain-loop-part-init
or_chain-loop-part-init g t c = record {
  same = refl;
  going = begins ands_view (and_checks c.args.columns.now) ands_size (and_expr c.args.columns.now) c.args.before.now (places_view c.args.places.now) c.new-done.result.items c.new-done.ensures.items;
}

pub or_chain-loop-part-preserved : goal.or_chain-loop-part-preserved
or_chain-loop-part-preserved g t c =
    let at = c.loop-part in
    let all = c.args.before.now in
    record {
      same = c.in-Ok.ensures.0 ∙ at.invariant.same;
      going = goes ands_view (and_checks c.args.columns.now) ands_size (and_expr c.args.columns.now) all (places_view c.args.places.now)
          (drop at.part-index all) (drop (at.part-index + 1) all) c.part-item.result (places_view at.rest.now) (places_view c.in-Ok.walked.rest.now) (places_view c.behind-rest.result.now)
          at.done.items c.push.new.self.items c.in-Ok.walked.expr at.invariant.going (next_part all at.part-index c.part-item.result c.loop-part-test.true c.part-item.is) c.in-Ok.ensures.1
          c.in-Ok.ensures.2 c.in-Ok.ensures.3 c.behind-rest.ensures c.in_ok-push-in-Ok.ensures.items;
    }

pub or_chain-returns-in-Err : goal.or_chain-returns-in-Err
or_chain-returns-in-Err g t c =
    let at = c.loop-part in
    let all = c.args.before.now in
    ands_stop c.args.columns.now (places_view c.args.places.now) all (g.B.Builder.refused c.args.builder.now) (g.B.Builder.refused at.builder) (g.B.Builder.refused c.walk_ands.new.builder) c.in-Err.stop
    (drop at.part-index all) (drop (at.part-index + 1) all) c.part-item.result (places_view at.rest.now) at.done.items at.invariant.going
    (next_part all at.part-index c.part-item.result c.loop-part-test.true c.part-item.is) at.invariant.same c.in-Err.ensures (ands_view c.args.last.now)

pub or_chain-returns : goal.or_chain-returns
or_chain-returns g t c =
    let at = c.loop-part in
    let all = c.args.before.now in
    ands_end c.args.columns.now (places_view c.args.places.now) all (g.B.Builder.refused c.args.builder.now) (g.B.Builder.refused at.builder) (drop at.part-index all)
    (record { done = at.done; rest = at.rest }) at.invariant.going (drop_all at.part-index all c.loop-part-test.false) at.invariant.same

pub or_last-returns-in-Ok : goal.or_last-returns-in-Ok
or_last-returns-in-Ok g t c old parts start built =
    last_end (and_checks c.args.columns.now) ands_size _ _ (places_view c.args.chain.rest.now) built.2 old (g.B.Builder.refused c.args.builder.now) (g.B.Builder.refused c.walk_ands.new.builder) built.0
    (ands_view c.args.last.now) or_list _ _ _ _ c.in-Ok.walked.expr c.in-Ok.walked.rest.now c.close_or.result built.1 (or_expr_is c.args.columns.now parts (ands_view c.args.last.now)) c.in-Ok.ensures
    c.close_or.ensures.ok c.close_or.ensures.err

pub or_last-returns : goal.or_last-returns
or_last-returns g t c old parts start built =
    last_stop (and_checks c.args.columns.now) ands_size _ _ (places_view c.args.chain.rest.now) built.2 old (g.B.Builder.refused c.args.builder.now) (g.B.Builder.refused c.walk_ands.new.builder) built.0
    (ands_view c.args.last.now) c.in-Err.stop c.in-Err.ensures
