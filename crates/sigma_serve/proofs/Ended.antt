-- An answer that was cut off, of which more would have been told.
use Rattle.std.proofs.Common.{◌≡◌, false, true, List, ◌++◌, ap, sym, subst, append_assoc, refl, ◌∙◌, Option, None, Some, Err}
use Rattle.answer_writer.proofs.Ending.{Kind, files_of}
use Rattle.answer_writer.proofs.Shares.{cut_longer, share_append}
use Rattle.answer_writer.specs.Cut.{Cut}
use Rattle.answer_writer.specs.Input.{Input, File, Events, World, Needs, IsNeeded, IsTold}
use Rattle.answer_writer.specs.Parts.{Share, Part, share_of}
use Rattle.answer_writer.specs.Stands.{Cause, StopsAt, Stands, Ends}
use Rattle.answer_writer.specs.State.{State, Inputs}
use Rattle.answer_writer.specs.declared.stop.Stop.{Stop}
use Rattle.answer_writer.specs.declared.stop.Stop.TheVariants.{Unread, Unwritten, Memory}

not_true : false ≡ true → ⊥
not_true same = cc

needed : (needs : Needs) (input : Input) → IsNeeded (files_of needs) input → IsNeeded needs input
needed needs (File name) is = is
needed needs Events is = absurd (not_true is)

cause_more : (needs : Needs) (stop : Stop) (unread : Option Input) (old new : State) → Cause (files_of needs) (Err stop) unread old new → Cause needs (Err stop) unread old new
cause_more needs Unread None old new c = c
cause_more needs Unread (Some input) old new c = (needed needs input c.0, c.1, c.2)
cause_more needs Unwritten None old new c = c
cause_more needs Unwritten (Some input) old new c = (needed needs input c.0, c.1, c.2)
cause_more needs Memory unread old new c = c

files_told : (needs : Needs) (inputs : Inputs) (world : World) → IsTold needs inputs world → IsTold (files_of needs) inputs world
files_told needs inputs world told = record { files = told.files; events = λ is. absurd (not_true is) }

-- where files alone were read, and each such answer is the beginning of one of the other kind
module _ (needs : Needs) (P Q : Kind) (more : (w : World) (ps : List Part) → P w ps → (qs : List Part) × Q w (ps ++ qs)) where
  stops_longer : (world : World) (stop : Stop) (input : Input) (ps qs : List Part) (old new : State) → IsNeeded (files_of needs) input
      → StopsAt P world stop input ps new.inputs.left old.streams new.streams → StopsAt Q world stop input (ps ++ qs) new.inputs.left old.streams new.streams
  stops_longer world stop Events ps qs old new there s = absurd (not_true there)
  stops_longer world stop (File name) ps qs old new there s = record {
    before = s.before;
    behind = s.behind ++ qs;
    divide = ap (λ (l : List Part). l ++ qs) s.divide ∙ append_assoc s.before s.behind qs;
    here = (s.here.0, s.here.1 ++ qs, ap (λ (l : List Part). l ++ qs) s.here.2, s.here.3);
    out = s.out;
    err = s.err;
  }

  stands_longer : (world : World) (stop : Stop) (unread : Option Input) (ps qs : List Part) (old new : State) → Cause (files_of needs) (Err stop) unread old new
      → Stands P world (Err stop) unread ps old new → Stands Q world (Err stop) unread (ps ++ qs) old new
  stands_longer world Unread None ps qs old new c s = s
  stands_longer world Unread (Some input) ps qs old new c s = stops_longer world Unread input ps qs old new c.0 s
  stands_longer world Unwritten None ps qs old new c s =
      subst (λ (share : Share). Cut share old.streams new.streams) (sym (share_append ps qs)) (cut_longer (share_of ps) (share_of qs) old.streams new.streams s)
  stands_longer world Unwritten (Some input) ps qs old new c s = stops_longer world Unwritten input ps qs old new c.0 s
  stands_longer world Memory unread ps qs old new c s =
      subst (λ (share : Share). Cut share old.streams new.streams) (sym (share_append ps qs)) (cut_longer (share_of ps) (share_of qs) old.streams new.streams s)

  pub ends_longer : (stop : Stop) (old new : State) → Ends (files_of needs) P (Err stop) old new → Ends needs Q (Err stop) old new
  ends_longer stop old new e = record {
    unread = e.unread;
    cause = cause_more needs stop e.unread old new e.cause;
    stands = λ world told.
        let first = e.stands world (files_told needs old.inputs world told) in
        let second = more world first.0 first.1 in
        (first.0 ++ second.0, second.1, stands_longer world stop e.unread first.0 second.0 old new e.cause first.2, λ _. e.apart refl);
    files = e.files;
    apart = λ _. e.apart refl;
    kept = e.kept;
  }
