-- What following events by an engine leaves: what `correlate` does from the first event on.
use Rattle.std.specs.Prelude.{◌≡◌, ℕ, Bool, true, false, List, [], Option, Some}
use Rattle.answer_writer.specs.Cut.{Cut}
use Rattle.answer_writer.specs.FollowedLines.{FollowedLines}
use Rattle.answer_writer.specs.Input.{World, Events}
use Rattle.answer_writer.specs.Parts.{Part, share_of, Gains}
use Rattle.answer_writer.specs.Stands.{StopsAt}
use Rattle.answer_writer.specs.State.{Streams, NoWriteFailed, SomeWriteFailed}
use Rattle.answer_writer.specs.declared.stop.Stop.{Stop}
use Rattle.answer_writer.specs.declared.stop.Stop.TheVariants.{Unread, Unwritten}
use Rattle.correlation_run.specs.Followed.{Correlating, Follows}
use Rattle.correlation_windows.specs.History.{Taken}
use Rattle.correlation_windows.specs.Kept.{State, StandsFor}
use Rattle.sig_base.specs.Causes.{Rose}
use Rattle.sig_base.specs.declared.limits.Limits.{Limits}
use Rattle.sigma_serve.specs.Served.{IsAnswered, IsCutOff, status_of}
use Rattle.sigma_serve.specs.declared.status.Status.{Status}
use Rattle.sigma_serve.specs.declared.status.Status.TheVariants.{Usage, ReadFault, WriteFault}

-- the events alone
abbrev pub world_of : List ℕ → World
world_of events = record { files = []; events = events }

-- the answer to the lines of the events behind a history, as `correlate` gives it
abbrev pub FollowedFrom : Correlating → Limits → List Taken → World → List Part → Type 0
FollowedFrom w limits history world parts = (after : List Taken) × FollowedLines (Follows w) limits history world parts after

-- A call that came to its end has written that answer, and refused something exactly where some line is refused; and the engine then
-- stands for the history behind the lines.
abbrev pub Followed : Correlating → Limits → List Taken → List ℕ → Status → State → Streams → Streams → Type 0
Followed w limits history events status engine old new =
    (parts : List Part) × (after : List Taken) × FollowedLines (Follows w) limits history (world_of events) parts after × Gains (share_of parts) old new
    × (status ≡ status_of (share_of parts).refused) × StandsFor engine after

-- What stands where the events couldn't be read: the answer to the lines that they had given whole, and then the diagnostic that names
-- them, or the beginning of it where it couldn't be written. `left` is what is left of the events.
abbrev pub FollowedUnread : Correlating → Limits → List Taken → List ℕ → Stop → Option (List ℕ) → Streams → Streams → Type 0
FollowedUnread w limits history events stop left old new =
    (parts : List Part) × FollowedFrom w limits history (world_of events) parts × StopsAt (FollowedFrom w limits history) (world_of events) stop Events parts left old new

-- What stands where the call was cut off: a front of the answer's output, and of its diagnostics some whole ones and the beginning of at
-- most one more; or what stands where the events couldn't be read, and the diagnostic about that not be written.
abbrev pub FollowedCut : Correlating → Limits → List Taken → List ℕ → Bool → Option (List ℕ) → Streams → Streams → Type 0
FollowedCut w limits history events false left old new = (parts : List Part) × FollowedFrom w limits history (world_of events) parts × Cut (share_of parts) old new
FollowedCut w limits history events true left old new = FollowedUnread w limits history events Unwritten left old new

-- whether reading the events failed before writing did
abbrev pub MayBeUnreadEvents : Status → Bool → ℕ → ℕ → Type 0
MayBeUnreadEvents status false old new = status ≡ WriteFault → new ≡ old
MayBeUnreadEvents status true old new = (status ≡ WriteFault) × Rose old new

-- all that is said of a call: what the engine stands for before and after it, what is left of the events, how often reading them failed, and
-- the streams
pub record FollowServes (w : Correlating) (limits : Limits) (status : Status) (engine later : State) (left left_after : Option (List ℕ)) (faults faults_after : ℕ) (old new : Streams) : Type 0 where
  pub answer : IsAnswered status → (history : List Taken) → StandsFor engine history → (events : List ℕ) → left ≡ Some events → Followed w limits history events status later old new
  pub usage : status ≡ Usage → ⊥
  pub still : IsAnswered status → (faults_after ≡ faults) × NoWriteFailed old new
  pub read_fault : status ≡ ReadFault → Rose faults faults_after × NoWriteFailed old new
      × ((history : List Taken) → StandsFor engine history → (events : List ℕ) → left ≡ Some events → FollowedUnread w limits history events Unread left_after old new)
  pub write_fault : status ≡ WriteFault → SomeWriteFailed old new
  pub after_fault : IsCutOff status → (history : List Taken) → StandsFor engine history → (unread : Bool) × MayBeUnreadEvents status unread faults faults_after
      × ((events : List ℕ) → left ≡ Some events → FollowedCut w limits history events unread left_after old new)
  pub bounds : later.bounds ≡ engine.bounds
