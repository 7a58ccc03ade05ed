use Rattle.std.proofs.Common.{◌≡◌, ◌++◌, drop}
use Rattle.sig_strings.specs.Edits.{sigma_text}
use Rattle.sig_strings.proofs.sigma_text.write_parts.Given as goal

abbrev pub invariant-loop-part : goal.invariant-loop-part
invariant-loop-part l = l.text ++ sigma_text (drop l.part-index l.parts) ≡ sigma_text l.parts
