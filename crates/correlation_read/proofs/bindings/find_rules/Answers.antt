use Rattle.std.proofs.Common.{◌+◌, ℕ, List, sym, ap, subst, take, map}
use Rattle.std.specs.Prelude.{Option, is_some}
use Rattle.std.specs.List.{AllZip}
use Rattle.correlation_read.specs.Binding.{is_there, names_of_head, IsNumbered}
use Rattle.correlation_read.proofs.Positions.{all_more, zip_more}
use Rattle.correlation_read.proofs.bindings.find_rules.Goals as goal

pub loop-text-preserved : goal.loop-text-preserved
loop-text-preserved c =
    let names = map names_of_head c.args.heads.now in
    let texts = c.args.texts.now in
    let at = c.loop-text in
    record {
      cause = all_more (is_there names) at.text-index texts c.text-item.result c.loop-text-test.true c.text-item.is
          (ap (λ (o : Option ℕ). is_some o) (sym c.in-Some.ensures)) at.invariant.cause;
      found = subst (λ (numbers : List ℕ). AllZip (IsNumbered names) (take (at.text-index + 1) texts) numbers) (sym c.in_ok-push.ensures.ok)
          (zip_more (IsNumbered names) at.text-index texts c.text-item.result at.numbers c.in-Some.number c.loop-text-test.true c.text-item.is at.invariant.found
          (sym c.in-Some.ensures));
    }
