use Rattle.std.proofs.Common.{List, [], ◌∷◌, ◌≡◌, sym, IfOk, subst}
use Rattle.sig_strings.specs.declared.part.Part.{Part}
use Rattle.pipeline_fill.proofs.Crossing.{single, one_behind}
use Rattle.pipeline_fill.proofs.fillings.extended.Goals as goal

pub returns-in-len1-clause-ok : goal.returns-in-len1-clause-ok
returns-in-len1-clause-ok c =
    subst (λ (z : List (List Part)). IfOk c.extend_each.result (λ all. all.items ≡ z))
    (one_behind c.args.fronts.items c.args.more.now c.as_slice.result.now
    (subst (λ (one : List Part). c.args.more.now ≡ one ∷ []) (sym c.as_slice.ensures)
    (single c.args.more.now c.one-item.result c.in-len1.len_at_least c.in-len1.len_below c.one-item.is)))
    c.extend_each.ensures.ok
