use Rattle.std.proofs.Common.{◌≡◌, sym, ◌∙◌, arith}
use Rattle.std.specs.Str.{chars}
use Rattle.std.specs.Prelude.{nat_le, true, length}
use Rattle.std.proofs.lemmas.Bool.{le-leb}
use Rattle.modifier_values.proofs.JudgedLemmas.{network_judged}
use Rattle.modifier_values.proofs.text_patterns.read_network.Goals as goal

pub returns : goal.returns
returns c = λ unbuilt chain.
    let short : nat_le (length (chars c.args.text.now)) c.args.limits.now.value_chars ≡ true =
    le-leb _ _ (omega (arith, c.count_of.ensures, c.if-count_of-limits.false)) in
    network_judged unbuilt c.args.limits.now.value_chars c.args.limits.now.dashes chain c.args.place (chars c.args.text.now) c.read.result
    short (sym c.has_nul.ensures ∙ c.if-has_nul.false) c.read.ensures
