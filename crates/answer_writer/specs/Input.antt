-- What the program reads: files by their names, and the stream of events.
use Rattle.std.specs.Prelude.{◌≡◌, ℕ, Bool, true, List, [], ◌∷◌, ◌++◌, Some, codes, encode_utf8_all, Contains}
use Rattle.sig_base.specs.Causes.{Rose}
use Rattle.answer_writer.specs.State.{Inputs}

pub data Input : Type 0 where
  File : (name : List ℕ) → Input
  Events : Input

-- how a diagnostic names an input
abbrev pub shown_name : Input → List ℕ
shown_name (File name) = encode_utf8_all name
shown_name Events = codes "events"

-- the diagnostic about an input that can't be read, without its line feed
abbrev pub unread_diagnostic : Input → List ℕ
unread_diagnostic input = codes "sigma: cannot read " ++ shown_name input

-- nothing of the events was read in between, so far as they tell it
abbrev pub EventsStay : Inputs → Inputs → Type 0
EventsStay old new = (new.left ≡ old.left) × (new.faults ≡ old.faults)

-- Reading this input failed in between, and reading none of the others did: the shelf's list gained the file's name, and nothing of
-- the events was read; or the count of the events rose.
abbrev pub WasUnread : Input → Inputs → Inputs → Type 0
WasUnread (File name) old new = (new.failed ≡ old.failed ++ name ∷ []) × EventsStay old new
WasUnread Events old new = Rose old.faults new.faults × (new.failed ≡ old.failed)

-- what there is to read: the files' contents and the bytes of the events
pub record World : Type 0 where
  pub files : List (List ℕ × List ℕ)
  pub events : List ℕ

-- what a command reads: files of these names, and maybe the events
pub record Needs : Type 0 where
  pub names : List (List ℕ)
  pub events : Bool

-- the input is one of those
abbrev pub IsNeeded : Needs → Input → Type 0
IsNeeded needs (File name) = Contains needs.names name
IsNeeded needs Events = needs.events ≡ true

-- the world is as the inputs tell, so far as it is needed
pub record IsTold (needs : Needs) (inputs : Inputs) (world : World) : Type 0 where
  pub files : (name : List ℕ) → Contains needs.names name → inputs.files ≡ Some world.files
  pub events : needs.events ≡ true → inputs.left ≡ Some world.events
