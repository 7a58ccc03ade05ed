use Rattle.std.proofs.Common.{ℕ, true, false, List, ◌≡◌, subst, ap, ◌∙◌, sym}
use Rattle.std.proofs.lemmas.Result.{IfOk-weaker}
use Rattle.sig_strings.specs.Edits.{all_written, sigma_text}
use Rattle.sig_strings.specs.Spells.{Spells}
use Rattle.sig_strings.specs.declared.part.Part.{Part}
use Rattle.sig_strings.proofs.SpellsLemmas.{spells_same, spells_sigma_text}
use Rattle.sig_strings.proofs.pattern.Pattern.write_sigma.Goals as goal

-- the text that was written spells the pattern ..
is_spelled : (text : List ℕ) (parts own : List Part) → all_written own ≡ true → parts ≡ own → text ≡ sigma_text parts → Spells false text own
is_spelled text parts own written same is =
    subst (λ (t : List ℕ). Spells false t own) (sym (is ∙ ap sigma_text same)) (spells_sigma_text own written)

-- .. and no other
is_alone : (text : List ℕ) (parts own : List Part) → all_written own ≡ true → parts ≡ own → text ≡ sigma_text parts
    → (other : List Part) → Spells false text other → other ≡ own
is_alone text parts own written same is other spelled =
    spells_same false text other own spelled (is_spelled text parts own written same is)

pub returns-clause-spelled : goal.returns-clause-spelled
returns-clause-spelled c =
    IfOk-weaker c.write_parts.result (λ t. t ≡ sigma_text c.parts.result.now) (λ t. Spells false t c.args.self.now)
    (λ t is. is_spelled t c.parts.result.now c.args.self.now c.requires c.parts.ensures is) c.write_parts.ensures.ok

pub returns-clause-no_other : goal.returns-clause-no_other
returns-clause-no_other c =
    IfOk-weaker c.write_parts.result (λ t. t ≡ sigma_text c.parts.result.now)
    (λ t. (other : List Part) → Spells false t other → other ≡ c.args.self.now)
    (λ t is. is_alone t c.parts.result.now c.args.self.now c.requires c.parts.ensures is) c.write_parts.ensures.ok
