-- What a call that follows events leaves, from how following them ended.
use Rattle.std.proofs.Common.{◌≡◌, ℕ, Bool, true, false, List, [], refl, ap, ◌∙◌, subst, arith, Option, None, Some, Ok, Err}
use Rattle.std.specs.Prelude.{Contains}
use Rattle.answer_writer.specs.FollowedLines.{FollowedLines}
use Rattle.answer_writer.specs.Input.{Input, File, Events, World, Needs, IsTold}
use Rattle.answer_writer.specs.Parts.{Part, share_of, Gains}
use Rattle.answer_writer.specs.Stands.{Cause, Stands, Ends}
use Rattle.answer_writer.specs.State.{State as OutsideState, SomeWriteFailed}
use Rattle.answer_writer.specs.declared.stop.Stop.TheVariants as stop
use Rattle.correlation_run.specs.Followed.{Correlating, Follows}
use Rattle.correlation_run.specs.Laws as runs
use Rattle.correlation_windows.specs.History.{Taken}
use Rattle.correlation_windows.specs.Kept.{State, StandsFor}
use Rattle.sig_base.specs.Causes.{Rose}
use Rattle.sig_base.specs.declared.limits.Limits.{Limits}
use Rattle.sigma_serve.proofs.Histories.{one_followed}
use Rattle.sigma_serve.specs.Follow.{world_of, FollowedFrom, FollowedCut, MayBeUnreadEvents, FollowServes}
use Rattle.sigma_serve.specs.Served.{IsCutOff, status_of}
use Rattle.sigma_serve.specs.declared.status.Status.{Status}
use Rattle.sigma_serve.specs.declared.status.Status.TheVariants.{Usage, ReadFault, WriteFault, Memory}

not_usage : (found : Bool) → status_of found ≡ Usage → ⊥
not_usage true is = cc
not_usage false is = cc

not_unread : (found : Bool) → status_of found ≡ ReadFault → ⊥
not_unread true is = cc
not_unread false is = cc

not_unwritten : (found : Bool) → status_of found ≡ WriteFault → ⊥
not_unwritten true is = cc
not_unwritten false is = cc

not_cut : (found : Bool) → IsCutOff (status_of found) → ⊥
not_cut true is = is
not_cut false is = is

abbrev events_alone : Needs
events_alone = record { names = []; events = true }

nothing_named : (name : List ℕ) → Contains [] name → ⊥
nothing_named name (i, below, is) = omega (arith, below)

module _ (w : Correlating) (limits : Limits) (engine later : State) (old new : OutsideState) (stands : (history : List Taken) × StandsFor engine history) (same : later.bounds ≡ engine.bounds) where
  abbrev From : List Taken → World → List Part → Type 0
  From history = FollowedFrom w limits history

  -- the events tell this world
  told_by : (events : List ℕ) → old.inputs.left ≡ Some events → IsTold events_alone old.inputs (world_of events)
  told_by events told = record { files = λ name there. absurd (nothing_named name there); events = λ _. told }

  abbrev Serves : Status → Type 0
  Serves status = FollowServes w limits status engine later old.inputs.left new.inputs.left old.inputs.faults new.inputs.faults old.streams new.streams

  -- what it left, of what was taken
  abbrev Left : List Taken → World → Type 0
  Left history world = (parts : List Part) × (after : List Taken) × FollowedLines (Follows w) limits history world parts after × Gains (share_of parts) old.streams new.streams × StandsFor later after

  pub follow_whole : runs.OneFollowed → (found so : Bool) → found ≡ so → ((history : List Taken) → StandsFor engine history → Ends events_alone (From history) (Ok found) old new)
      → ((history : List Taken) → StandsFor engine history → (world : World) → IsTold events_alone old.inputs world → Left history world) → Serves (status_of so)
  follow_whole one found so is ends left = subst (λ (f : Bool). Serves (status_of f)) is whole
    where
      whole : Serves (status_of found)
      whole = record {
        answer = λ _ history so_stands events told.
            let e = (ends history so_stands).stands (world_of events) (told_by events told) in
            let l = left history so_stands (world_of events) (told_by events told) in
            let both = one_followed (Follows w) (one w) limits history (world_of events) e.0 l.0 e.1.0 l.1 e.1.1 l.2 in
            (l.0, l.1, l.2, l.3, ap status_of (e.2.0 ∙ ap (λ (ps : List Part). (share_of ps).refused) both.0), l.4);
        usage = λ other. not_usage found other;
        still = λ _. let e = ends stands.0 stands.1 in (e.cause.1.1, e.cause.2);
        read_fault = λ other. absurd (not_unread found other);
        write_fault = λ other. absurd (not_unwritten found other);
        after_fault = λ other. absurd (not_cut found other);
        bounds = same;
      }

  unread_cause : (unread : Option Input) → Cause events_alone (Err stop.Unread) unread old new → (unread ≡ Some Events) × Rose old.inputs.faults new.inputs.faults
  unread_cause None cause = absurd cause
  unread_cause (Some (File name)) cause = absurd (nothing_named name cause.0)
  unread_cause (Some Events) cause = (refl, cause.1.0)

  unread_writes : (unread : Option Input) → (c : Cause events_alone (Err stop.Unread) unread old new) → (new.streams.out_faults ≡ old.streams.out_faults) × (new.streams.err_faults ≡ old.streams.err_faults)
  unread_writes None cause = absurd cause
  unread_writes (Some input) cause = cause.2

  pub follow_unread : ((history : List Taken) → StandsFor engine history → Ends events_alone (From history) (Err stop.Unread) old new) → Serves ReadFault
  follow_unread ends = record {
    answer = λ is. absurd is;
    usage = λ is. absurd (apart is);
    still = λ is. absurd is;
    read_fault = λ _. let e = ends stands.0 stands.1 in (
      (unread_cause e.unread e.cause).1,
      unread_writes e.unread e.cause,
      λ history so_stands events told.
          let f = ends history so_stands in
          let s = f.stands (world_of events) (told_by events told) in
          (s.0, s.1, subst (λ (u : Option Input). Stands (From history) (world_of events) (Err stop.Unread) u s.0 old new) (unread_cause f.unread f.cause).0 s.2),
    );
    write_fault = λ is. absurd (apart_too is);
    after_fault = λ is. absurd is;
    bounds = same;
  }
    where
      apart : ReadFault ≡ Usage → ⊥
      apart is = cc

      apart_too : ReadFault ≡ WriteFault → ⊥
      apart_too is = cc

  -- whether the events couldn't be read
  abbrev is_unread : Option Input → Bool
  is_unread None = false
  is_unread (Some input) = true

  unwritten_cause : (unread : Option Input) → Cause events_alone (Err stop.Unwritten) unread old new
      → MayBeUnreadEvents WriteFault (is_unread unread) old.inputs.faults new.inputs.faults × SomeWriteFailed old.streams new.streams
  unwritten_cause None cause = ((λ _. cause.0.1), cause.1)
  unwritten_cause (Some (File name)) cause = absurd (nothing_named name cause.0)
  unwritten_cause (Some Events) cause = ((refl, cause.1.0), cause.2)

  unwritten_stands : (history : List Taken) (events : List ℕ) (unread : Option Input) → Cause events_alone (Err stop.Unwritten) unread old new → (parts : List Part) → From history (world_of events) parts
      → Stands (From history) (world_of events) (Err stop.Unwritten) unread parts old new → FollowedCut w limits history events (is_unread unread) new.inputs.left old.streams new.streams
  unwritten_stands history events None cause parts by s = (parts, by, s)
  unwritten_stands history events (Some (File name)) cause parts by s = absurd (nothing_named name cause.0)
  unwritten_stands history events (Some Events) cause parts by s = (parts, by, s)

  pub follow_unwritten : ((history : List Taken) → StandsFor engine history → Ends events_alone (From history) (Err stop.Unwritten) old new) → Serves WriteFault
  follow_unwritten ends = record {
    answer = λ is. absurd is;
    usage = λ is. absurd (apart is);
    still = λ is. absurd is;
    read_fault = λ is. absurd (apart_too is);
    write_fault = λ _. let e = ends stands.0 stands.1 in (unwritten_cause e.unread e.cause).1;
    after_fault = λ _ history so_stands.
        let e = ends history so_stands in (
          is_unread e.unread,
          (unwritten_cause e.unread e.cause).0,
          λ events told. let s = e.stands (world_of events) (told_by events told) in unwritten_stands history events e.unread e.cause s.0 s.1 s.2,
        );
    bounds = same;
  }
    where
      apart : WriteFault ≡ Usage → ⊥
      apart is = cc

      apart_too : WriteFault ≡ ReadFault → ⊥
      apart_too is = cc

  pub follow_memory : ((history : List Taken) → StandsFor engine history → Ends events_alone (From history) (Err stop.Memory) old new) → Serves Memory
  follow_memory ends = record {
    answer = λ is. absurd is;
    usage = λ is. absurd (apart is);
    still = λ is. absurd is;
    read_fault = λ is. absurd (apart_too is);
    write_fault = λ is. absurd (apart_from_write is);
    after_fault = λ _ history so_stands.
        let e = ends history so_stands in (
          false,
          (λ is. absurd (apart_from_write is)),
          λ events told. let s = e.stands (world_of events) (told_by events told) in (s.0, s.1, s.2),
        );
    bounds = same;
  }
    where
      apart : Memory ≡ Usage → ⊥
      apart is = cc

      apart_too : Memory ≡ ReadFault → ⊥
      apart_too is = cc

      apart_from_write : Memory ≡ WriteFault → ⊥
      apart_from_write is = cc
