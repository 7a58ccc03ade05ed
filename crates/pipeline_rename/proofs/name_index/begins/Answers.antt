use Rattle.std.proofs.Common.{ap, ◌∙◌}
use Rattle.std.specs.Str.{chars}
use Rattle.std.proofs.lemmas.Str.{chars-nil}
use Rattle.pipeline_rename.proofs.Fronts.{begun_short, begun_whole}
use Rattle.pipeline_rename.proofs.name_index.begins.Goals as goal

pub returns-in_default-first_char : goal.returns-in_default-first_char
returns-in_default-first_char c =
    begun_short (chars c.loop-c.passed.now) (chars c.loop-c.left.now) (chars c.in-Some.more.now) c.in-Some.c _ c.in-Some.ensures.0 (ap chars c.in_default-first_char.ensures ∙ chars-nil) c.loop-c.invariant.same

pub returns : goal.returns
returns c = begun_whole (chars c.loop-c.passed.now) (chars c.loop-c.left.now) _ (ap chars c.in_default.ensures ∙ chars-nil) c.loop-c.invariant.same
