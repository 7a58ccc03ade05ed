-- Answers to the lines of the events, one by one.
use Rattle.std.specs.Prelude.{◌≡◌, ℕ, Bool, true, false, ◌||◌, ◌==◌, List, ◌∷◌, ◌++◌, Some, codes}
use Rattle.std.specs.Fmt.{decimal}
use Rattle.std.specs.List.{list_all}
use Rattle.answer_writer.specs.Each.{EachPart}
use Rattle.answer_writer.specs.Input.{World, Events}
use Rattle.answer_writer.specs.Parts.{Share, Part, no_share, diagnostic_share}
use Rattle.event_lines.specs.Lines.{lines_of}
use Rattle.sig_base.specs.Codes.{code_name}
use Rattle.sig_base.specs.declared.faults.LineStep.{LineStep}
use Rattle.sig_base.specs.declared.faults.LineStep.TheVariants.{Line, TooLong, TooMuch, End}
use Rattle.sig_base.specs.declared.limits.Limits.{Limits}

-- a space, a tab or a return
abbrev pub is_blank_byte : ℕ → Bool
is_blank_byte byte = byte == 32 || byte == 9 || byte == 13

-- a line of spaces, tabs and returns alone
abbrev pub is_blank : List ℕ → Bool
is_blank line = list_all is_blank_byte line

-- `events:LINE: CODE NAME`
abbrev pub refused_as : ℕ → ℕ → List ℕ → List ℕ
refused_as number code name = codes "events:" ++ (decimal number ++ (58 ∷ 32 ∷ (decimal code ++ (32 ∷ name))))

-- the diagnostic about a line that is refused, without its line feed
abbrev pub line_diagnostic : ℕ → ℕ → List ℕ
line_diagnostic number code = refused_as number code (code_name code)

-- a line that is refused for this cause
abbrev pub line_refused : ℕ → ℕ → Share
line_refused number code = diagnostic_share (line_diagnostic number code)

-- what a line of this number and these bytes is answered
abbrev pub ByLine : Type 1
ByLine = ℕ → List ℕ → Share → Type 0

-- each line is answered something
abbrev pub EachLine : ByLine → Type 0
EachLine by = (number : ℕ) (line : List ℕ) → (share : Share) × by number line share

-- whatever the one answers to a line, the other does
abbrev pub AnswersWithin : ByLine → ByLine → Type 0
AnswersWithin by other = (number : ℕ) (line : List ℕ) (share : Share) → by number line share → other number line share

-- a blank line is answered nothing, another one by the command
abbrev pub UnlessBlank : Bool → (Share → Type 0) → Share → Type 0
UnlessBlank true P share = share ≡ no_share
UnlessBlank false P share = P share

abbrev pub LineGives : ByLine → ℕ → List ℕ → Share → Type 0
LineGives by number line share = UnlessBlank (is_blank line) (by number line) share

-- What a step through the events is answered: a line as above, and a line that is too long, or too many bytes, a refusal.
-- There is nothing to answer at the end.
abbrev pub StepGives : ByLine → LineStep → Share → Type 0
StepGives by (Line number line) share = LineGives by number line share
StepGives by (TooLong number) share = share ≡ line_refused number 30
StepGives by (TooMuch number) share = share ≡ line_refused number 31
StepGives by End share = share ≡ no_share

-- the part of the answer that a step makes, for which the events are read
pub record StepPart (by : ByLine) (step : LineStep) (world : World) (part : Part) : Type 0 where
  pub input : part.input ≡ Some Events
  pub share : StepGives by step part.share

-- the events are asked for, and nothing is answered yet
abbrev pub events_part : Part
events_part = record { input = Some Events; share = no_share }

-- the answer to the lines of the events, in their order
abbrev pub EventLines : ByLine → Limits → World → List Part → Type 0
EventLines by limits world parts =
    (lines : List Part) × EachPart (StepPart by) (lines_of limits world.events) world lines × (parts ≡ events_part ∷ lines)

-- nothing comes behind it
abbrev pub is_end : LineStep → Bool
is_end (Line number line) = false
is_end (TooLong number) = false
is_end (TooMuch number) = false
is_end End = true
