use Rattle.std.proofs.Common.{rules, ◌<◌, ◌≡◌, arith, length}
use Rattle.std.specs.VecDeque.{deque_len}
use Rattle.correlation_windows.proofs.Reached.{ends_met}
use Rattle.correlation_windows.proofs.reaches.ends_in_order.Goals as goal

pub returns-in-Some : goal.returns-in-Some
returns-in-Some c =
    let listed : 0 < length c.args.reaches.now = search (rules, arith, c.if-is_empty.false) in
    let long : deque_len c.args.matches.now ≡ length c.args.matches.now.items = c.args.matches.now.ok.0 in
    let some : 0 < length c.args.matches.now.items = search (rules, arith, long, c.in-Some.ensures.variant) in
    ends_met c.args.reaches.now c.args.matches.now.items c.in-Some.last.now (deque_len c.args.matches.now) c.is_last.result listed long some c.in-Some.ensures.lookup c.requires c.is_last.ensures.one
    (λ i e. search (rules, c.is_last.ensures.several i e, c.len.ensures))
