use Rattle.std.proofs.Common.{◌∙◌, sym, ap, ℕ, ◌≤◌, subst}
use Rattle.std.specs.Fmt.{decimal}
use Rattle.sig_encode.proofs.network_text.parted.Goals as goal

pub returns : goal.returns
returns c = (
  c.in_ok-bits.ensures.0,
  c.of.ensures.bits ∙ c.in_ok-bits.ensures.1,
  subst (λ (n : ℕ). n ≤ 32) (sym c.of.ensures.prefix) c.in_ok-prefix.ensures.1,
  c.in_ok-prefix.ensures.0 ∙ ap (λ (n : ℕ). decimal n) (sym c.of.ensures.prefix),
)
