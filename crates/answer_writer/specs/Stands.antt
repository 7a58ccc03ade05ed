-- How answering ended, and what it left on the streams.
use Rattle.std.specs.Prelude.{◌≡◌, ◌⊎◌, ℕ, Bool, true, false, not, ◌==◌, List, [], ◌∷◌, ◌++◌, Option, None, Some, Result, Ok, Err}
use Rattle.std.specs.Io.KnownBytes.{Appends}
use Rattle.std.specs.List.{list_all}
use Rattle.sig_base.specs.Causes.{AppendsFront}
use Rattle.answer_writer.specs.Cut.{Cut}
use Rattle.answer_writer.specs.Input.{Input, File, Events, World, Needs, IsNeeded, IsTold, WasUnread, EventsStay, unread_diagnostic}
use Rattle.answer_writer.specs.Lines.{ended, diagnostics_text}
use Rattle.answer_writer.specs.Parts.{Share, Part, share_of, NoneOfEvents, Gains}
use Rattle.answer_writer.specs.State.{State, Streams, NoWriteFailed, SomeWriteFailed, NoReadFailed}
use Rattle.answer_writer.specs.declared.stop.Stop.{Stop}
use Rattle.answer_writer.specs.declared.stop.Stop.TheVariants.{Unread, Unwritten, Memory}

-- ---- without reading

-- a share is written wholly, or a front of it
abbrev pub Outcome : Share → Result Bool Stop → Streams → Streams → Type 0
Outcome share (Ok found) old new = (found ≡ share.refused) × Gains share old new × NoWriteFailed old new
Outcome share (Err Unwritten) old new = Cut share old new × SomeWriteFailed old new
Outcome share (Err Memory) old new = Cut share old new
Outcome share (Err Unread) old new = ⊥

-- a share of this kind is written, and nothing is read
pub record Writes (P : Share → Type 0) (result : Result Bool Stop) (old new : State) : Type 0 where
  pub share : Share
  pub is : P share
  pub outcome : Outcome share result old.streams new.streams
  pub inputs : new.inputs ≡ old.inputs
  pub kept : new.references ≡ old.references

-- ---- with reading

-- Why it ended so. Where writing failed, either an input couldn't be read before, or no reading had failed.
abbrev pub Cause : Needs → Result Bool Stop → Option Input → State → State → Type 0
Cause needs (Ok found) unread old new = (unread ≡ None) × NoReadFailed old.inputs new.inputs × NoWriteFailed old.streams new.streams
Cause needs (Err Unread) None old new = ⊥
Cause needs (Err Unread) (Some input) old new = IsNeeded needs input × WasUnread input old.inputs new.inputs × NoWriteFailed old.streams new.streams
Cause needs (Err Unwritten) None old new = NoReadFailed old.inputs new.inputs × SomeWriteFailed old.streams new.streams
Cause needs (Err Unwritten) (Some input) old new = IsNeeded needs input × WasUnread input old.inputs new.inputs × SomeWriteFailed old.streams new.streams
Cause needs (Err Memory) unread old new = unread ≡ None

-- the bytes are lines, each with its line feed
abbrev pub AreWhole : List ℕ → Type 0
AreWhole bytes = (bytes ≡ []) ⊎ ((front : List ℕ) × (bytes ≡ front ++ 10 ∷ []))

-- of the bytes that the events had given, these are the whole lines
pub record GivenWhole (events : List ℕ) (left : Option (List ℕ)) (whole : List ℕ) : Type 0 where
  pub cut : List ℕ
  pub rest : List ℕ
  pub divide : events ≡ whole ++ (cut ++ rest)
  pub stays : left ≡ Some rest
  pub are : AreWhole whole
  pub none : list_all (λ c. not (c == 10)) cut ≡ true

-- The parts are divided where the input couldn't be read: a file before the part for which it is read, the events behind
-- the answer to the lines that they had given whole.
abbrev pub IsHere : (World → List Part → Type 0) → World → Input → List Part → List Part → Option (List ℕ) → Type 0
IsHere P world (File name) before behind left = (part : Part) × (others : List Part) × (behind ≡ part ∷ others) × (part.input ≡ Some (File name))
IsHere P world Events before behind left =
    (whole : List ℕ) × GivenWhole world.events left whole × P (record { files = world.files; events = whole }) before

-- these diagnostics, and then the beginning of the one about an input that couldn't be read
pub record BeginsUnread (input : Input) (before : List (List ℕ)) (old new : Option (List ℕ)) : Type 0 where
  pub begun : List ℕ
  pub rest : List ℕ
  pub divide : ended (unread_diagnostic input) ≡ begun ++ rest
  pub grown : Appends old new (diagnostics_text before ++ begun)

-- The same, and it's whole unless writing it failed. (Where memory was missing for it, nothing is said by these.)
abbrev pub TellsUnread : Stop → Input → List (List ℕ) → Option (List ℕ) → Option (List ℕ) → Type 0
TellsUnread Unread input before old new = Appends old new (diagnostics_text (before ++ unread_diagnostic input ∷ []))
TellsUnread Unwritten input before old new = BeginsUnread input before old new
TellsUnread Memory input before old new = ⊥

-- The parts before the input that couldn't be read, whole, and then the diagnostic that names it, or the beginning of it where writing
-- it failed. `left` is what is left of the events.
pub record StopsAt (P : World → List Part → Type 0) (world : World) (stop : Stop) (input : Input) (parts : List Part) (left : Option (List ℕ)) (old new : Streams) : Type 0 where
  pub before : List Part
  pub behind : List Part
  pub divide : parts ≡ before ++ behind
  pub here : IsHere P world input before behind left
  pub out : Appends old.out new.out (share_of before).output
  pub err : TellsUnread stop input (share_of before).diagnostics old.err new.err

-- what stands of an answer
abbrev pub Stands : (World → List Part → Type 0) → World → Result Bool Stop → Option Input → List Part → State → State → Type 0
Stands P world (Ok found) unread parts old new = (found ≡ (share_of parts).refused) × Gains (share_of parts) old.streams new.streams
Stands P world (Err Unread) None parts old new = ⊥
Stands P world (Err Unread) (Some input) parts old new = StopsAt P world Unread input parts new.inputs.left old.streams new.streams
Stands P world (Err Unwritten) None parts old new = Cut (share_of parts) old.streams new.streams
Stands P world (Err Unwritten) (Some input) parts old new = StopsAt P world Unwritten input parts new.inputs.left old.streams new.streams
Stands P world (Err Memory) unread parts old new = Cut (share_of parts) old.streams new.streams

-- An answer of this kind is written, or what stands of it where it ended early. In whatever world the inputs tell, it's the
-- answer of that world, and where no part of it is one for which the events are read, nothing of them was read.
pub record Ends (needs : Needs) (P : World → List Part → Type 0) (result : Result Bool Stop) (old new : State) : Type 0 where
  pub unread : Option Input
  pub cause : Cause needs result unread old new
  pub stands : (world : World) → IsTold needs old.inputs world → (parts : List Part) × P world parts × Stands P world result unread parts old new
      × (NoneOfEvents parts → EventsStay old.inputs new.inputs)
  pub files : new.inputs.files ≡ old.inputs.files
  pub apart : needs.events ≡ false → EventsStay old.inputs new.inputs
  pub kept : new.references ≡ old.references

-- ---- a file that can't be read

-- its diagnostic is written, or not wholly, or not at all
abbrev pub StoppedUnread : List ℕ → Stop → State → State → Type 0
StoppedUnread name Unread old new = (new.inputs.failed ≡ old.inputs.failed ++ name ∷ [])
    × Appends old.streams.err new.streams.err (ended (unread_diagnostic (File name))) × NoWriteFailed old.streams new.streams
StoppedUnread name Unwritten old new = (new.inputs.failed ≡ old.inputs.failed ++ name ∷ [])
    × AppendsFront old.streams.err new.streams.err (ended (unread_diagnostic (File name))) × SomeWriteFailed old.streams new.streams
StoppedUnread name Memory old new = new.streams.err ≡ old.streams.err

-- reading stopped at this file, before anything of it was answered
pub record StopsBefore (name : List ℕ) (stop : Stop) (old new : State) : Type 0 where
  pub told : StoppedUnread name stop old new
  pub out : new.streams.out ≡ old.streams.out
  pub files : new.inputs.files ≡ old.inputs.files
  pub left : new.inputs.left ≡ old.inputs.left
  pub faults : new.inputs.faults ≡ old.inputs.faults
  pub kept : new.references ≡ old.references

-- ---- an input that can't be read

-- what its diagnostic leaves on the streams
abbrev pub ToldUnread : Input → Stop → State → State → Type 0
ToldUnread input Unread old new = Appends old.streams.err new.streams.err (ended (unread_diagnostic input)) × NoWriteFailed old.streams new.streams
    × (new.streams.out ≡ old.streams.out)
ToldUnread input Unwritten old new = AppendsFront old.streams.err new.streams.err (ended (unread_diagnostic input)) × SomeWriteFailed old.streams new.streams
    × (new.streams.out ≡ old.streams.out)
ToldUnread input Memory old new = new.streams ≡ old.streams
