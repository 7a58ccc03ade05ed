use Rattle.std.proofs.Common.{◌++◌, append-nil, ap, sym, ◌∙◌}
use Rattle.std.specs.Str.{chars}
use Rattle.std.proofs.lemmas.Str.{chars-nil}
use Rattle.sig_base.specs.Folding.{folded}
use Rattle.rule_schema.proofs.names.folded_text.Goals as goal

pub returns : goal.returns
returns c =
    sym (append-nil c.loop-c.folded)
    ∙ (sym (ap (λ t. c.loop-c.folded ++ folded t) (ap chars c.in_default.ensures ∙ chars-nil)) ∙ c.loop-c.invariant.all)
