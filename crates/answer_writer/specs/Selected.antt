-- What a line of events is answered by a command that selects events.
use Rattle.std.specs.Prelude.{◌≡◌, ◌⊎◌, ℕ, Bool, true, false, List, Result, Ok, Err}
use Rattle.answer_writer.specs.EventLines.{ByLine, line_refused}
use Rattle.answer_writer.specs.Lines.{ended}
use Rattle.answer_writer.specs.Parts.{Share, no_share, text_share}
use Rattle.event_read.specs.EventOf.{event_of}
use Rattle.event_schema.specs.Occurrence.{Occurrence}
use Rattle.event_schema.specs.declared.schema.Schema.{Schema}
use Rattle.event_schema.specs.declared.value.Value.{Value}

-- which events are picked, by their values in the fields' order
abbrev pub Picking : Type 1
Picking = List (List Value) → Type 0

-- an event is picked, or it isn't
abbrev pub IsDecided : Picking → Type 0
IsDecided Picks = (row : List (List Value)) → Picks row ⊎ (Picks row → ⊥)

-- a line on the output
abbrev pub line_share : List ℕ → Share
line_share line = text_share (ended line)

-- what an event's line gives, by whether the event is picked: the line as it was read, or nothing
abbrev pub picked_share : Bool → List ℕ → Share
picked_share true line = line_share line
picked_share false line = no_share

-- An event that is picked is written as its line was read, and another one isn't. A line that is no event of the schema is refused.
abbrev pub EventGives : Picking → ℕ → List ℕ → Result Occurrence ℕ → Share → Type 0
EventGives Picks number line (Ok event) share = (Picks event.values × (share ≡ line_share line)) ⊎ ((Picks event.values → ⊥) × (share ≡ no_share))
EventGives Picks number line (Err code) share = share ≡ line_refused number code

-- what a line is answered that is read as an event of the schema
abbrev pub Selects : Schema → Picking → ByLine
Selects schema Picks number line share = EventGives Picks number line (event_of schema line) share
