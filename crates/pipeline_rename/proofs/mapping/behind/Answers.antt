use Rattle.std.proofs.Common.{ap, ◌∙◌, length}
use Rattle.std.specs.Str.{chars}
use Rattle.std.proofs.lemmas.Str.{chars-nil}
use Rattle.pipeline_rename.proofs.Fronts.{dropped_end, dropped_all}
use Rattle.pipeline_rename.proofs.mapping.behind.Goals as goal

pub returns-in_default-first_char : goal.returns-in_default-first_char
returns-in_default-first_char c =
    dropped_end (length (chars c.loop-more.passed.now)) (chars c.loop-more.left.now) _ (ap chars c.in_default-first_char.ensures ∙ chars-nil) c.loop-more.invariant.same

pub returns : goal.returns
returns c = dropped_all (chars c.loop-more.passed.now) (chars c.loop-more.left.now) _ (ap chars c.in_default.ensures ∙ chars-nil) c.loop-more.invariant.same
