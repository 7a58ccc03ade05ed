-- Answers to the lines of the events, one by one, each by the history of the lines before it.
use Rattle.std.specs.Prelude.{◌≡◌, ℕ, Bool, true, false, List, [], ◌∷◌, Some}
use Rattle.answer_writer.specs.EventLines.{events_part, is_blank, line_refused}
use Rattle.answer_writer.specs.Input.{World, Events}
use Rattle.answer_writer.specs.Parts.{Share, Part, no_share}
use Rattle.event_lines.specs.Lines.{lines_of}
use Rattle.sig_base.specs.declared.faults.LineStep.{LineStep}
use Rattle.sig_base.specs.declared.faults.LineStep.TheVariants.{Line, TooLong, TooMuch, End}
use Rattle.sig_base.specs.declared.limits.Limits.{Limits}

-- what a line of this number and these bytes is answered behind a history, and the history behind it
abbrev pub ByHistory : Type 0 → Type 1
ByHistory H = H → ℕ → List ℕ → Share → H → Type 0

-- behind each history each line is answered something
abbrev pub EachFollows : {H : Type 0} → ByHistory H → Type 0
EachFollows {H} by = (history : H) (number : ℕ) (line : List ℕ) → (share : Share) × (after : H) × by history number line share after

-- whatever the one answers to a line behind a history, the other does, and the history behind it is the same
abbrev pub FollowsWithin : {H : Type 0} → ByHistory H → ByHistory H → Type 0
FollowsWithin {H} by other = (history : H) (number : ℕ) (line : List ℕ) (share : Share) (after : H) → by history number line share after → other history number line share after

-- a blank line is answered nothing and changes nothing; another one by the command
abbrev pub UnlessBlankFollows : {H : Type 0} → Bool → (Share → H → Type 0) → H → Share → H → Type 0
UnlessBlankFollows true P history share after = (share ≡ no_share) × (after ≡ history)
UnlessBlankFollows false P history share after = P share after

-- What a step through the events is answered behind a history, and the history behind it: a line as above; a line that is too long, or
-- too many bytes, a refusal, which changes nothing. There is nothing to answer at the end.
abbrev pub StepFollows : {H : Type 0} → ByHistory H → H → LineStep → Share → H → Type 0
StepFollows by history (Line number line) share after = UnlessBlankFollows (is_blank line) (by history number line) history share after
StepFollows by history (TooLong number) share after = (share ≡ line_refused number 30) × (after ≡ history)
StepFollows by history (TooMuch number) share after = (share ≡ line_refused number 31) × (after ≡ history)
StepFollows by history End share after = (share ≡ no_share) × (after ≡ history)

-- the part of the answer that a step makes behind a history, for which the events are read
pub record FollowPart {H : Type 0} (by : ByHistory H) (history : H) (step : LineStep) (part : Part) (after : H) : Type 0 where
  pub input : part.input ≡ Some Events
  pub share : StepFollows by history step part.share after

-- the parts of these steps, one after the other, from the one history to the other
abbrev pub FollowParts : {H : Type 0} → ByHistory H → List LineStep → H → List Part → H → Type 0
FollowParts by [] history [] after = after ≡ history
FollowParts by [] history (part ∷ parts) after = ⊥
FollowParts by (step ∷ steps) history [] after = ⊥
FollowParts {H} by (step ∷ steps) history (part ∷ parts) after = (next : H) × FollowPart by history step part next × FollowParts by steps next parts after

-- the answer to the lines of the events behind a history, in their order, and the history behind them
abbrev pub FollowedLines : {H : Type 0} → ByHistory H → Limits → H → World → List Part → H → Type 0
FollowedLines by limits history world parts after =
    (lines : List Part) × FollowParts by (lines_of limits world.events) history lines after × (parts ≡ events_part ∷ lines)
