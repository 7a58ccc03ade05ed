-- An answer behind parts for which something was read, and nothing answered.
use Rattle.std.proofs.Common.{◌≡◌, ℕ, Bool, true, false, List, ◌++◌, ap, sym, ◌∙◌, subst, append_assoc, Option, None, Some, Result, Ok, Err}
use Rattle.std.specs.Prelude.{Contains}
use Rattle.std.specs.Io.KnownBytes.{Appends}
use Rattle.answer_writer.proofs.Ending.{Kind, files_of, none_behind}
use Rattle.answer_writer.proofs.Shares.{share_append}
use Rattle.answer_writer.specs.Cut.{Cut}
use Rattle.answer_writer.specs.Input.{Input, File, Events, World, Needs, IsNeeded, IsTold}
use Rattle.answer_writer.specs.Parts.{Share, Part, no_share, join, share_of, Gains}
use Rattle.answer_writer.specs.Stands.{Cause, IsHere, TellsUnread, StopsAt, Stands, Ends}
use Rattle.answer_writer.specs.State.{State}
use Rattle.answer_writer.specs.declared.stop.Stop.{Stop}
use Rattle.answer_writer.specs.declared.stop.Stop.TheVariants.{Unread, Unwritten, Memory}

-- `quiet` are parts without a share, for which files were read that `more` names beside those of `needs`. Nothing was left by them
-- on the streams, and the inputs are as they were: so an answer for `needs` is, behind them, one for `more`. What is known of the
-- files that were read is known in each world that the inputs tell, whatever its events are.
module _ (more needs : Needs) (quiet : List Part) (silent : share_of quiet ≡ no_share) (named : (name : List ℕ) → Contains needs.names name → Contains more.names name)
    (events : more.events ≡ needs.events) where
  behind_share : (ps : List Part) → share_of (quiet ++ ps) ≡ share_of ps
  behind_share ps = share_append quiet ps ∙ ap (λ (s : Share). join s (share_of ps)) silent

  needed : (input : Input) → IsNeeded needs input → IsNeeded more input
  needed (File name) is = named name is
  needed Events is = events ∙ is

  behind_cause : (result : Result Bool Stop) (unread : Option Input) (old new : State) → Cause needs result unread old new → Cause more result unread old new
  behind_cause (Ok refused) unread old new c = c
  behind_cause (Err Unread) None old new c = c
  behind_cause (Err Unread) (Some input) old new c = (needed input c.0, c.1, c.2)
  behind_cause (Err Unwritten) None old new c = c
  behind_cause (Err Unwritten) (Some input) old new c = (needed input c.0, c.1, c.2)
  behind_cause (Err Memory) unread old new c = c

  pub ends_behind : (P Q : Kind) (result : Result Bool Stop) (old new : State)
      → ((world : World) → IsTold (files_of more) old.inputs world → (ps : List Part) → P world ps → Q world (quiet ++ ps)) → Ends needs P result old new → Ends more Q result old new
  ends_behind P Q result old new follows e = record {
    unread = e.unread;
    cause = behind_cause result e.unread old new e.cause;
    stands = λ world told.
        let s = e.stands world (record { files = λ name there. told.files name (named name there); events = λ is. told.events (events ∙ is) }) in
        (quiet ++ s.0, follows world (files_told world told) s.0 s.1, stand result e.unread world told s.0 s.2, λ none. s.3 (none_behind quiet s.0 none));
    files = e.files;
    apart = λ aside. e.apart (sym events ∙ aside);
    kept = e.kept;
  }
    where
      not_true : false ≡ true → ⊥
      not_true same = cc

      -- the files are told in a world of other events too
      files_told_with : (world : World) (others : List ℕ) → IsTold more old.inputs world → IsTold (files_of more) old.inputs (record { files = world.files; events = others })
      files_told_with world others told = record { files = λ name there. told.files name there; events = λ is. absurd (not_true is) }

      files_told : (world : World) → IsTold more old.inputs world → IsTold (files_of more) old.inputs world
      files_told world told = record { files = λ name there. told.files name there; events = λ is. absurd (not_true is) }

      here : (input : Input) (world : World) → IsTold more old.inputs world → (before behind : List Part) → IsHere P world input before behind new.inputs.left
          → IsHere Q world input (quiet ++ before) behind new.inputs.left
      here (File name) world told before behind is = is
      here Events world told before behind (whole, given, is) =
          (whole, given, follows (record { files = world.files; events = whole }) (files_told_with world whole told) before is)

      stops : (stop : Stop) (input : Input) (world : World) → IsTold more old.inputs world → (ps : List Part) → StopsAt P world stop input ps new.inputs.left old.streams new.streams
          → StopsAt Q world stop input (quiet ++ ps) new.inputs.left old.streams new.streams
      stops stop input world told ps s = record {
        before = quiet ++ s.before;
        behind = s.behind;
        divide = ap (λ (l : List Part). quiet ++ l) s.divide ∙ sym (append_assoc quiet s.before s.behind);
        here = here input world told s.before s.behind s.here;
        out = subst (λ (x : Share). Appends old.streams.out new.streams.out x.output) (sym (behind_share s.before)) s.out;
        err = subst (λ (x : Share). TellsUnread stop input x.diagnostics old.streams.err new.streams.err) (sym (behind_share s.before)) s.err;
      }

      stand : (r : Result Bool Stop) (unread : Option Input) (world : World) → IsTold more old.inputs world → (ps : List Part) → Stands P world r unread ps old new
          → Stands Q world r unread (quiet ++ ps) old new
      stand (Ok refused) unread world told ps (found, gains) =
          (found ∙ ap (λ (s : Share). s.refused) (sym (behind_share ps)), subst (λ (s : Share). Gains s old.streams new.streams) (sym (behind_share ps)) gains)
      stand (Err Unread) None world told ps s = s
      stand (Err Unread) (Some input) world told ps s = stops Unread input world told ps s
      stand (Err Unwritten) None world told ps s = subst (λ (x : Share). Cut x old.streams new.streams) (sym (behind_share ps)) s
      stand (Err Unwritten) (Some input) world told ps s = stops Unwritten input world told ps s
      stand (Err Memory) unread world told ps s = subst (λ (x : Share). Cut x old.streams new.streams) (sym (behind_share ps)) s
