use Rattle.matching.proofs.WalkLemmas.{Walking}
use denote.Text.{Utf8}
use denote.Shadow.{shadow}
use Rattle.matching.proofs.text_walk.walk.Given as goal

abbrev pub invariant-loop-next : goal.invariant-loop-next
invariant-loop-next g l = record { text : shadow (Utf8 l.left); walking : Walking g.C.Cursor.holds g.C.Cursor.left l.fn.start l.now l.fn.text l.left }

abbrev pub decreases-loop-next : goal.decreases-loop-next
decreases-loop-next g l = g.C.Cursor.left l.now
