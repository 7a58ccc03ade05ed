use Rattle.std.proofs.Common.{rules, ◌≡◌, ◌<◌, ◌+◌, ◌^◌, ◌≤◌, length, arith, refl, sym, ◌∙◌, ap, map}
use Rattle.sql_scan.specs.View.{sort_view}
use Rattle.sql_parse.specs.View.{state_view, sorts_view, nots_in, state_option_view, all_nots}
use Rattle.sql_lang.specs.Machine.{step}
use Rattle.std.specs.Prelude.{Some, ◌∷◌, ℕ}
use Rattle.sql_parse.proofs.Turns.{turn_ran, turn_left, nots_turn}
use Rattle.sql_parse.proofs.NotsIn.{nots_in_le}
use Rattle.sql_parse.proofs.query.read_tokens.Goals as goal

pub step_on-requires : goal.step_on-requires
step_on-requires c =
    let h = nots_in_le c.loop-sort.state in
    let t = c.loop-sort.invariant.total in
    let r = c.loop-sort.invariant.nots in
    let q = c.requires in
    omega arith

pub loop-sort-preserved : goal.loop-sort-preserved
loop-sort-preserved c =
    let i : c.loop-sort.rest.items ≡ c.in-Some.sort ∷ c.pop_front.new.self.items = c.in-Some.ensures.items in
    let s : state_option_view c.in_ok-next.field-0 ≡ step (state_view c.loop-sort.state) (sort_view c.in-Some.sort) = c.in_ok-next.ensures in
    let n : Some (state_view c.in-Some-2.next) ≡ step (state_view c.loop-sort.state) (sort_view c.in-Some.sort) = ap state_option_view (sym c.in-Some-2.is) ∙ s in
    let len = ap length i in
    let tot = c.loop-sort.invariant.total in
    let before = c.loop-sort.invariant.nots in
    let more : all_nots (state_view c.in-Some-2.next) ≤ all_nots (state_view c.loop-sort.state) + 1 = nots_turn (state_view c.loop-sort.state) (state_view c.in-Some-2.next) (sort_view c.in-Some.sort) n in
    record {
      ran = turn_ran sort_view (state_view c.loop-sort.state) (state_view c.in-Some-2.next) c.in-Some.sort c.pop_front.new.self.items c.loop-sort.rest.items _ i n c.loop-sort.invariant.ran;
      nots = omega arith;
      left = turn_left sort_view c.loop-sort.count c.in-Some.sort c.pop_front.new.self.items c.loop-sort.rest.items _ i c.loop-sort.invariant.left;
      total = omega arith;
    }
