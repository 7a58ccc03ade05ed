use Rattle.std.proofs.Common.{◌≡◌, true, false, sym, ◌∙◌}
use Rattle.yaml_inline.specs.View.{line_view}
use Rattle.yaml_inline.specs.Line.{spot, refused}
use Rattle.yaml_inline.specs.Flow.{is_seen, fresh_key}
use Rattle.yaml_inline.proofs.Failing.{fails_as}
use Rattle.yaml_inline.proofs.SeenLemmas.{knows_fresh, knows_more, fresh_ok, fresh_seen, unseen, known_key}
use Rattle.yaml_inline.proofs.flow.fresh_key.Goals as goal

pub returns-then-fresh-clause-key : goal.returns-then-fresh-clause-key
returns-then-fresh-clause-key c = λ ks known.
    let k = c.in_ok-key.key in
    let absent : is_seen k ks ≡ false =
    sym (knows_fresh c.args.seen.now ks k known c.insert.ensures.scalars)
    ∙ unseen c.in_ok-fresh.fresh _ c.in_ok-fresh.ensures.fresh c.if-fresh.true in
    fresh_ok ks (line_view c.args.line.now) c.args.rest.now k c.in_ok-key.after.now c.in_ok-key.ensures.key absent

pub returns-then-fresh-clause-seen : goal.returns-then-fresh-clause-seen
returns-then-fresh-clause-seen c = λ ks known.
    knows_more c.args.seen.now c.insert.new.self ks c.in_ok-key.key known c.insert.ensures.scalars c.in_ok-fresh.ensures.keys

pub returns-clause-key : goal.returns-clause-key
returns-clause-key c = λ ks known.
    let k = c.in_ok-key.key in
    let there : is_seen k ks ≡ true =
    sym (knows_fresh c.args.seen.now ks k known c.insert.ensures.scalars)
    ∙ known_key c.in_ok-fresh.fresh _ c.in_ok-fresh.ensures.fresh c.if-fresh.false in
    let l = line_view c.args.line.now in
    fails_as c.refused.result (refused 5 (spot l c.args.rest.now)) (fresh_key ks l c.args.rest.now) c.refused.ensures
    (fresh_seen ks l c.args.rest.now k c.in_ok-key.after.now c.in_ok-key.ensures.key there)
