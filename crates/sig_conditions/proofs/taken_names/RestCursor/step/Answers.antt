use Rattle.std.specs.Str.{chars}
use Rattle.sig_conditions.proofs.Fitting.{chars-none, fits-nil, fits-star}
use Rattle.sig_conditions.proofs.taken_names.RestCursor.step.Goals as goal

pub returns-in_default : goal.returns-in_default
returns-in_default c = λ text. fits-nil (chars c.args.self.word.now) text (chars-none c.args.self.word.now c.in_default.ensures)

pub returns-then-c-eq42 : goal.returns-then-c-eq42
returns-then-c-eq42 c = fits-star (chars c.args.self.word.now) (chars c.in-Some.word.now) c.in-Some.c c.in-Some.ensures.0 c.if-c-eq42.true
