use Rattle.std.proofs.Common.{ℕ, Bool, true, false, List, ◌≡◌, subst}
use Rattle.std.specs.Str.{chars}
use Rattle.std.proofs.lemmas.Result.{IfOk-weaker}
use Rattle.sig_strings.specs.Edits.{all_written}
use Rattle.sig_strings.specs.Spells.{Spells}
use Rattle.sig_strings.specs.declared.part.Part.{Part}
use Rattle.sig_strings.proofs.SpellsLemmas.{spells_written}
use Rattle.sig_strings.proofs.pattern.Pattern.read.Goals as goal

-- without `expand` only characters, ones and runs are spelled
plainly : (expand : Bool) (text : List ℕ) (parts : List Part) → Spells expand text parts → expand ≡ false → all_written parts ≡ true
plainly expand text parts spelled off = spells_written text parts (subst (λ (b : Bool). Spells b text parts) off spelled)

pub returns-clause-written : goal.returns-clause-written
returns-clause-written c =
    IfOk-weaker c.read_parts.result (λ parts. Spells c.args.expand (chars c.args.text.now) parts)
    (λ parts. c.args.expand ≡ false → all_written parts ≡ true)
    (λ parts spelled. plainly c.args.expand (chars c.args.text.now) parts spelled) c.read_parts.ensures.spelled
