use Rattle.std.proofs.Common.{◌∙◌}
use mathlib.Core.Logic.{∥∥₁_map}
use Rattle.query_lang.proofs.Finding.{found_in_text}
use Rattle.query_lang.proofs.search.Finder.finds.Goals as goal

pub returns-clause-found : goal.returns-clause-found
returns-clause-found c = rw c.is_match.ensures.found
    (found_in_text c.args.self.now.text.now c.args.self.now.matcher c.args.value.now c.utf8.value (λ k. (c.type_inv.value k).fits) c.args.self.now.same)

pub invariant_of-self : goal.invariant_of-self
invariant_of-self c = record {
  same = ∥∥₁_map c.args.self.now.same (λ f. record { regex = f.regex; built = f.built; same = c.is_match.ensures.same ∙ f.same });
}
