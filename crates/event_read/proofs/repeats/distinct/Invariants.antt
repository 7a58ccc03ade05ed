use Rattle.event_read.proofs.RepeatLemmas.{SoFar}
use Rattle.event_read.proofs.repeats.distinct.Given as goal

abbrev pub invariant-loop-field : goal.invariant-loop-field
invariant-loop-field l = SoFar l.fields l.field-index l.names.keys
