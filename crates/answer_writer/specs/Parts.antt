-- Answers, part by part.
use Rattle.std.specs.Prelude.{◌≡◌, ⊤, ℕ, Bool, true, false, ◌||◌, List, [], ◌∷◌, ◌++◌, Option, Some}
use Rattle.std.specs.Io.KnownBytes.{Appends}
use Rattle.answer_writer.specs.Input.{Input, Events}
use Rattle.answer_writer.specs.Lines.{diagnostics_text}
use Rattle.answer_writer.specs.State.{Streams}

-- What is answered: bytes for the output, diagnostics for the error output, and whether something is refused.
pub record Share : Type 0 where
  pub output : List ℕ
  pub diagnostics : List (List ℕ)
  pub refused : Bool

abbrev pub no_share : Share
no_share = record { output = []; diagnostics = []; refused = false }

-- bytes for the output, by which nothing is refused
abbrev pub text_share : List ℕ → Share
text_share text = record { output = text; diagnostics = []; refused = false }

-- one diagnostic about something that is refused
abbrev pub diagnostic_share : List ℕ → Share
diagnostic_share diagnostic = record { output = []; diagnostics = diagnostic ∷ []; refused = true }

abbrev pub join : Share → Share → Share
join a b = record { output = a.output ++ b.output; diagnostics = a.diagnostics ++ b.diagnostics; refused = a.refused || b.refused }

-- one behind the other
abbrev pub joined : List Share → Share
joined [] = no_share
joined (share ∷ shares) = join share (joined shares)

-- A part of an answer: what is read right before it, if anything, and its share.
pub record Part : Type 0 where
  pub input : Option Input
  pub share : Share

abbrev pub share_of : List Part → Share
share_of [] = no_share
share_of (part ∷ parts) = join part.share (share_of parts)

-- for none of the parts the events are read
abbrev pub NoneOfEvents : List Part → Type 0
NoneOfEvents [] = ⊤
NoneOfEvents (part ∷ parts) = (part.input ≡ Some Events → ⊥) × NoneOfEvents parts

-- the streams gained the share's output and diagnostics
abbrev pub Gains : Share → Streams → Streams → Type 0
Gains share old new = Appends old.out new.out share.output × Appends old.err new.err (diagnostics_text share.diagnostics)
