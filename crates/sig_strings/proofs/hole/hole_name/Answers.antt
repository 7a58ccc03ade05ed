use Rattle.std.proofs.Common.{ap, sym, ◌∙◌}
use Rattle.std.specs.Str.{chars}
use Rattle.std.proofs.lemmas.Str.{chars-nil}
use Rattle.sig_strings.specs.Signs.{hole_name}
use Rattle.sig_strings.proofs.HoleLemmas.{begins_word, name_ends}
use Rattle.sig_strings.proofs.hole.hole_name.Goals as goal

pub returns-in_default-clause-ok : goal.returns-in_default-clause-ok
returns-in_default-clause-ok c = c.new-name.ensures ∙ sym (ap hole_name (ap chars c.in_default.ensures ∙ chars-nil))

pub returns-in_default-first_char-clause-ok : goal.returns-in_default-first_char-clause-ok
returns-in_default-first_char-clause-ok c =
    name_ends c.loop-c.name (chars c.loop-c.left.now) _ c.loop-c.invariant.so_far (ap begins_word (ap chars c.in_default-first_char.ensures ∙ chars-nil))
