use mathlib.Core.Logic.{∥∥₁_map}
use Rattle.query_lang.proofs.search.Search.finder.Goals as goal

pub invariant_of-result : goal.invariant_of-result
invariant_of-result c = record {
  same = ∥∥₁_map c.args.self.now.built (λ built. record { regex = c.args.self.now.regex; built = built; same = c.in_ok-matcher.ensures.pattern });
}
