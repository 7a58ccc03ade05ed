use Rattle.std.proofs.Common.{rules, ◌≡◌, ◌-◌, ◌≤◌, refl, sym, arith}
use Rattle.std.specs.Prelude.{Some}
use Rattle.std.specs.Map.{lookup}
use Rattle.std.specs.Str.{bytes_eq}
use Rattle.correlation_windows.proofs.Tallying.{last_goes, one_goes}
use Rattle.correlation_windows.proofs.tallies.text_leaves.Goals as goal

pub returns-then-times-lt2-clause-times : goal.returns-then-times-lt2-clause-times
returns-then-times-lt2-clause-times c = λ texts so.
    last_goes c.args.counts.now.entries c.swap_remove-gone.new.self.entries c.args.text.now c.times_of-times.result c.swap_remove-gone.result texts c.times_of-times.ensures c.if-times-lt2.true
    c.swap_remove-gone.ensures.updates.0 c.swap_remove-gone.ensures.value c.swap_remove-gone.ensures.len so

pub returns-in-Some-clause-times : goal.returns-in-Some-clause-times
returns-in-Some-clause-times c = λ texts so.
    let at : lookup (bytes_eq c.args.text.now) c.args.counts.now.entries ≡ Some c.in-Some.left.now = sym c.in-Some.ensures.value in
    let many : 2 ≤ c.times_of-times.result = search (rules, arith, c.if-times-lt2.false) in
    let writes = c.get_mut.follows.holds (c.times_of-times.result - 1) in
    one_goes c.args.counts.now.entries (c.get_mut.follows.lender (c.times_of-times.result - 1)).entries c.args.text.now c.times_of-times.result (c.times_of-times.result - 1) texts c.times_of-times.ensures many refl
    ((writes.3 (search (rules, at))).0) writes.2 so
