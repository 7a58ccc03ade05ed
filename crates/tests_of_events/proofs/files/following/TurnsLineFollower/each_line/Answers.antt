use Rattle.std.proofs.Common.{refl, inr}
use Rattle.answer_writer.specs.Parts.{no_share}
use Rattle.tests_of_events.proofs.files.following.TurnsLineFollower.each_line.Goals as goal

pub returns : goal.returns
returns c = λ history number line. (no_share, history, inr (inr (refl, refl)))
