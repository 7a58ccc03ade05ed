-- What a run of the program answers, and what it leaves behind.
use Rattle.std.specs.Prelude.{◌≡◌, ℕ, Bool, if◌then◌else◌, ⊤, true, false, List, [], ◌∷◌, Option, None, Some}
use Rattle.answer_writer.specs.Cut.{Cut}
use Rattle.answer_writer.specs.Input.{Input, World, IsNeeded, IsTold, WasUnread, EventsStay}
use Rattle.answer_writer.specs.Parts.{Part, share_of, NoneOfEvents, Gains}
use Rattle.answer_writer.specs.Stands.{StopsAt}
use Rattle.answer_writer.specs.State.{Inputs, Streams, NoWriteFailed, SomeWriteFailed, NoReadFailed}
use Rattle.answer_writer.specs.declared.stop.Stop.{Stop}
use Rattle.answer_writer.specs.declared.stop.Stop.TheVariants.{Unread, Unwritten}
use Rattle.rule_convert.specs.declared.backend_name.BackendName.{BackendName}
use Rattle.sig_base.specs.declared.limits.Limits.{Limits}
use Rattle.sigma_serve.specs.Answers.{Places, AnswersAt, ArePlaces, Answers, needs_of}
use Rattle.sigma_serve.specs.Convert.{ConvertMeans}
use Rattle.sigma_serve.specs.Converted.{Converted}
use Rattle.sigma_serve.specs.Reports.{usage_share}
use Rattle.sigma_serve.specs.Words.{IsAccepted, IsUnaccepted}
use Rattle.sigma_serve.specs.declared.request.Request.{Request}
use Rattle.sigma_serve.specs.declared.request.Request.TheVariants.{Convert}
use Rattle.sigma_serve.specs.declared.status.Status.{Status}
use Rattle.sigma_serve.specs.declared.status.Status.TheVariants.{Done, Found, Usage, ReadFault, WriteFault, Memory}

abbrev pub status_of : Bool → Status
status_of refused = if refused then Found else Done

-- the answer to words that aren't accepted
abbrev pub usage_part : Part
usage_part = record { input = None; share = usage_share }

-- The answer to words in a world, where regular expressions aren't built at these places: that to the request as which they are accepted,
-- or that they aren't accepted.
pub data Answer (limits : Limits) (places : Places) (words : List (List ℕ)) (world : World) (status : Status) (parts : List Part) : Type 0 where
  accepted : (request : Request) → IsAccepted words request → AnswersAt limits places request world parts → status ≡ status_of (share_of parts).refused
      → Answer limits places words world status parts
  unaccepted : IsUnaccepted words → status ≡ Usage → parts ≡ usage_part ∷ [] → Answer limits places words world status parts

-- the run came to its end
abbrev pub IsAnswered : Status → Type 0
IsAnswered Done = ⊤
IsAnswered Found = ⊤
IsAnswered Usage = ⊤
IsAnswered ReadFault = ⊥
IsAnswered WriteFault = ⊥
IsAnswered Memory = ⊥

-- the run was cut off, by a fault in writing or by want of memory
abbrev pub IsCutOff : Status → Type 0
IsCutOff Done = ⊥
IsCutOff Found = ⊥
IsCutOff Usage = ⊥
IsCutOff ReadFault = ⊥
IsCutOff WriteFault = ⊤
IsCutOff Memory = ⊤

-- the shelf and the events, so far as the words' request reads them, tell this world
abbrev pub Tells : List (List ℕ) → Inputs → World → Type 0
Tells words inputs world = (request : Request) → IsAccepted words request → IsTold (needs_of request) inputs world

-- an input that the words' request reads
abbrev pub IsRead : List (List ℕ) → Input → Type 0
IsRead words input = (request : Request) × IsAccepted words request × IsNeeded (needs_of request) input

-- the words are no request that reads events
abbrev pub ReadsNoEvents : List (List ℕ) → Type 0
ReadsNoEvents words = (request : Request) → IsAccepted words request → (needs_of request).events ≡ false

-- The texts of which the builder had refused to build regular expressions when the run began, and when it ended or was cut off: the later
-- ones begin with the earlier ones.
pub record RefusedTexts : Type 0 where
  pub before : List (List ℕ)
  pub after : List (List ℕ)

-- regular expressions of the files of the words' request aren't built at these places in this run, which came to its end or didn't
abbrev pub PlacesOf : Limits → RefusedTexts → Bool → List (List ℕ) → World → Places → Type 0
PlacesOf limits texts ended words world places = (request : Request) → IsAccepted words request → ArePlaces limits texts.before texts.after ended request world places

-- What a run that came to its end has written: its answer. And where that asks for no events, they stay as they are.
abbrev pub Written : Limits → RefusedTexts → List (List ℕ) → World → Status → Inputs → Inputs → Streams → Streams → Type 0
Written limits texts words world status before after old new =
    (places : Places) × PlacesOf limits texts true words world places × (parts : List Part) × Answer limits places words world status parts × Gains (share_of parts) old new
    × (NoneOfEvents parts → EventsStay before after)

-- The headline: what `convert` writes is, for each document that is a rule of which the pipelines, by their priority, make one with a query,
-- in order, the query and a line feed, and nothing else; the query's bytes are read as exactly one query of the backend's language, within
-- the reader's limits, which selects an event of the given schema, or else of the one that is made of the rule that the pipelines make,
-- exactly where this rule matches it; and each other document has its one diagnostic, with the first cause for which it has no query, which
-- is 48 only at a place of a regular expression that the builder refused in this run. Where the file that is named as the schema is none,
-- its one diagnostic is all that is written; where the file of pipelines is refused, as a whole or for some of its documents, the
-- diagnostics about it are.
abbrev pub Headline : Limits → RefusedTexts → List (List ℕ) → World → Streams → Streams → Type 0
Headline limits texts words world old new =
    (backend : BackendName) (schema pipelines : Option (List ℕ)) (rules : List (List ℕ)) → IsAccepted words (Convert backend schema pipelines rules)
    → (places : Places) × PlacesOf limits texts true words world places
    × (parts : List Part) × Converted (ConvertMeans backend limits) limits places.pipelines places.documents schema pipelines rules world parts × Gains (share_of parts) old new

-- What stands where the run was cut off: a front of the answer's output, and of its diagnostics some whole ones and the beginning of at
-- most one more. And where that answer asks for no events, they stay as they are.
abbrev pub StandsCut : Limits → RefusedTexts → List (List ℕ) → World → Inputs → Inputs → Streams → Streams → Type 0
StandsCut limits texts words world before after old new =
    (places : Places) × PlacesOf limits texts false words world places × (status : Status) × (parts : List Part) × Answer limits places words world status parts × Cut (share_of parts) old new
    × (NoneOfEvents parts → EventsStay before after)

-- What stands where an input couldn't be read: the answer's parts before the input, all of their output and all of their diagnostics, and
-- then the diagnostic that names the input, or the beginning of it where it couldn't be written. The whole answer goes on behind those
-- parts. (Of a file that the words name twice they're the parts before one of its places.) And where that answer asks for no events, they
-- stay as they are.
abbrev pub StandsUnread : Limits → RefusedTexts → List (List ℕ) → World → Stop → Input → Inputs → Inputs → Streams → Streams → Type 0
StandsUnread limits texts words world stop input before after old new =
    (request : Request) × IsAccepted words request × (parts : List Part) × Answers limits texts.before texts.after false request world parts
    × StopsAt (Answers limits texts.before texts.after false request) world stop input parts after.left old new × (NoneOfEvents parts → EventsStay before after)

-- what stands after a fault in writing, with or without an input that couldn't be read before it, or want of memory
abbrev pub StandsAfter : Limits → RefusedTexts → List (List ℕ) → World → Option Input → Inputs → Inputs → Streams → Streams → Type 0
StandsAfter limits texts words world None before after old new = StandsCut limits texts words world before after old new
StandsAfter limits texts words world (Some input) before after old new = StandsUnread limits texts words world Unwritten input before after old new

-- Where the one answer asks for no events, these stay as they are, however the run ended.
abbrev pub Unasked : Limits → RefusedTexts → List (List ℕ) → World → Inputs → Inputs → Type 0
Unasked limits texts words world before after =
    (places : Places) × PlacesOf limits texts false words world places
    × ((status : Status) (parts : List Part) → Answer limits places words world status parts → NoneOfEvents parts → EventsStay before after)

-- An input of the words' request that couldn't be read in between, if there is one. Where there is none, writing failed and reading
-- didn't, or memory was missing.
abbrev pub MayBeUnread : List (List ℕ) → Status → Option Input → Inputs → Inputs → Type 0
MayBeUnread words status None before after = status ≡ WriteFault → NoReadFailed before after
MayBeUnread words status (Some input) before after = IsRead words input × WasUnread input before after

-- All that is said of a run: of what the inputs told before it and tell after it, and of the streams.
pub record Serves (limits : Limits) (texts : RefusedTexts) (words : List (List ℕ)) (status : Status) (before after : Inputs) (old new : Streams) : Type 0 where
  -- A run that comes to its end has written the answer to its words in each world that the inputs tell.
  pub answer : IsAnswered status → (world : World) → Tells words before world → Written limits texts words world status before after old new
  pub headline : IsAnswered status → (world : World) → Tells words before world → Headline limits texts words world old new
  -- `Usage` comes exactly where the words aren't accepted and no fault ended the run.
  pub usage : IsAnswered status → IsUnaccepted words → status ≡ Usage
  pub unaccepted : status ≡ Usage → IsUnaccepted words
  -- Each fault has its cause in this run, and a run that comes to its end met none.
  pub still : IsAnswered status → NoReadFailed before after × NoWriteFailed old new
  pub read_fault : status ≡ ReadFault → (input : Input) × IsRead words input × WasUnread input before after × NoWriteFailed old new
      × ((world : World) → Tells words before world → StandsUnread limits texts words world Unread input before after old new)
  pub write_fault : status ≡ WriteFault → SomeWriteFailed old new
  -- What stands where the run was cut off. Where an input couldn't be read and its diagnostic not be written, all before that input
  -- stands whole; else no reading had failed where writing did. Events that the answer which is cut off doesn't ask for stay.
  pub after_fault : IsCutOff status → (unread : Option Input) × (status ≡ Memory → unread ≡ None) × MayBeUnread words status unread before after
      × ((world : World) → Tells words before world → StandsAfter limits texts words world unread before after old new)
  -- Events that the words' request doesn't read stay as they are, however the run ends.
  pub apart : ReadsNoEvents words → EventsStay before after
  -- And so do all events, however the run ends, where the one answer for some places asks for none: where the schema or the rule is
  -- refused, say.
  pub unasked : (world : World) → Tells words before world → Unasked limits texts words world before after

-- what a shelf and a source tell
abbrev pub inputs_of : {F S : Type 0} → (F → Option (List (List ℕ × List ℕ))) → (F → List (List ℕ)) → (S → Option (List ℕ)) → (S → ℕ) → F → S → Inputs
inputs_of files failed left faults shelf events = record { files = files shelf; failed = failed shelf; left = left events; faults = faults events }

-- what two sinks tell
abbrev pub streams_of : {O E : Type 0} → (O → Option (List ℕ)) → (O → ℕ) → (E → Option (List ℕ)) → (E → ℕ) → O → E → Streams
streams_of out_taken out_faults err_taken err_faults out err = record { out = out_taken out; err = err_taken err; out_faults = out_faults out; err_faults = err_faults err }
