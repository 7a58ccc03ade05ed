-- Lines of the events that are answered one after the other, whatever the lines before were: they are followed with a history that says nothing.
use Rattle.std.proofs.Common.{◌≡◌, ℕ, Bool, true, false, List, [], ◌∷◌, refl, ap, sym, ◌∙◌, Option, Result, Ok, Err}
use Rattle.std.specs.Prelude.{⊤, ◌||◌}
use Rattle.sig_base.specs.declared.faults.LineFault.{LineFault}
use Rattle.sig_base.specs.declared.faults.LineFault.TheVariants.{Read}
use Rattle.sig_base.specs.declared.faults.LineStep.{LineStep}
use Rattle.sig_base.specs.declared.faults.LineStep.TheVariants.{Line, TooLong, TooMuch, End}
use Rattle.sig_base.specs.declared.limits.Limits.{Limits}
use Rattle.event_lines.specs.Lines.{lines_of}
use Rattle.event_lines.specs.Reading.{Reading}
use Rattle.answer_writer.proofs.Ending.{Kind, EachHas}
use Rattle.answer_writer.proofs.Rows.{parts_one}
use Rattle.answer_writer.proofs.Wrote.{writes_as}
use Rattle.answer_writer.specs.Each.{EachPart}
use Rattle.answer_writer.specs.EventLines.{ByLine, EachLine, AnswersWithin, UnlessBlank, StepGives, StepPart, events_part, EventLines, is_blank, is_end}
use Rattle.answer_writer.specs.Input.{Input, Events, World, Needs}
use Rattle.answer_writer.specs.Parts.{Share, Part}
use Rattle.answer_writer.specs.Stands.{Writes, Ends, ToldUnread}
use Rattle.answer_writer.specs.State.{State}
use Rattle.answer_writer.specs.declared.stop.Stop.{Stop}
use Rattle.answer_writer.specs.declared.stop.Stop.TheVariants.{Memory}
use Rattle.answer_writer.proofs.Asked.{Asks}
use Rattle.answer_writer.proofs.Ending.{ends_as}
use Rattle.answer_writer.proofs.Followed as followed
use Rattle.answer_writer.specs.FollowedLines.{ByHistory, EachFollows, UnlessBlankFollows, StepFollows, FollowParts}

-- a step's answer by the one is an answer by the other
pub step_within : (by other : ByLine) → AnswersWithin by other → (step : LineStep) (share : Share) → StepGives by step share → StepGives other step share
step_within by other within (Line number line) share is = unless (is_blank line) is
  where
    unless : (b : Bool) → UnlessBlank b (by number line) share → UnlessBlank b (other number line) share
    unless true nothing = nothing
    unless false given = within number line share given
step_within by other within (TooLong number) share is = is
step_within by other within (TooMuch number) share is = is
step_within by other within End share is = is

-- ---- a history that says nothing

abbrev held : ByLine → ByHistory ⊤
held gives history number line share after = gives number line share

step_held : (gives : ByLine) (step : LineStep) (share : Share) → StepGives gives step share → StepFollows (held gives) tt step share tt
step_held gives (Line number line) share is = unless (is_blank line) is
  where
    unless : (b : Bool) → UnlessBlank b (gives number line) share → UnlessBlankFollows b (held gives tt number line) tt share tt
    unless true nothing = (nothing, refl)
    unless false given = given
step_held gives (TooLong number) share is = (is, refl)
step_held gives (TooMuch number) share is = (is, refl)
step_held gives End share is = (is, refl)

step_free : (gives : ByLine) (history after : ⊤) (step : LineStep) (share : Share) → StepFollows (held gives) history step share after → StepGives gives step share
step_free gives history after (Line number line) share is = unless (is_blank line) is
  where
    unless : (b : Bool) → UnlessBlankFollows b (held gives history number line) history share after → UnlessBlank b (gives number line) share
    unless true (nothing, same) = nothing
    unless false given = given
step_free gives history after (TooLong number) share is = is.0
step_free gives history after (TooMuch number) share is = is.0
step_free gives history after End share is = is.0

parts_free : (gives : ByLine) (steps : List LineStep) (world : World) (history after : ⊤) (parts : List Part) → FollowParts (held gives) steps history parts after → EachPart (StepPart gives) steps world parts
parts_free gives [] world history after [] all = tt
parts_free gives [] world history after (part ∷ parts) all = absurd all
parts_free gives (step ∷ steps) world history after [] all = absurd all
parts_free gives (step ∷ steps) world history after (part ∷ parts) (next, one, more) =
    (record { input = one.input; share = step_free gives history next step part.share one.share }, parts_free gives steps world next after parts more)

each_held : (gives : ByLine) → EachLine gives → EachFollows (held gives)
each_held gives each history number line = let one = each number line in (one.0, tt, one.1)

abbrev always : ⊤ → Type 0
always history = ⊤

module _ (gives : ByLine) (limits : Limits) where
  abbrev Lines : Kind
  Lines = EventLines gives limits

  abbrev events_alone : Needs
  events_alone = record { names = []; events = true }

  free : (result : Result Bool Stop) (old new : State) → Ends events_alone (followed.Lines (held gives) limits tt always) result old new → Ends events_alone Lines result old new
  free result old new = ends_as events_alone (followed.Lines (held gives) limits tt always) Lines result old new
      (λ world parts (after, (lines, all, is), s). (lines, parts_free gives (lines_of limits world.events) world tt after lines all, is))

  write_held : (step : LineStep) (result : Result Bool Stop) (old new : State) → Writes (StepGives gives step) result old new
      → Writes (followed.StepTo (held gives) limits tt always tt step) result old new
  write_held step result old new = writes_as (StepGives gives step) (followed.StepTo (held gives) limits tt always tt step) result old new
      (λ share is. (tt, step_held gives step share is, tt))

  abbrev pub Going : Reading → Bool → State → State → Type 0
  Going r refused old now = followed.Going (held gives) limits tt tt r refused old now

  pub lines_start : (r : Reading) (s : State) → r ≡ followed.begun (held gives) limits tt → Going r false s s
  lines_start r s is = followed.lines_start (held gives) limits tt r s is

  pub lines_next : (r later : Reading) (step : LineStep) (first second both : Bool) (old now mid new : State) → is_end step ≡ false → both ≡ (first || second) → Asks r later now mid (Ok step)
      → Going r first old now → Writes (StepGives gives step) (Ok second) mid new → Going later both old new
  lines_next r later step first second both old now mid new some is asks going wrote =
      followed.lines_next (held gives) limits tt always tt r later step first second both old now mid new some is asks going (write_held step (Ok second) mid new wrote)

  pub lines_end : (r later : Reading) (step : LineStep) (refused : Bool) (old now mid : State) → is_end step ≡ true → Asks r later now mid (Ok step) → Going r refused old now
      → Ends events_alone Lines (Ok refused) old mid
  lines_end r later step refused old now mid last asks going =
      free (Ok refused) old mid (followed.lines_end (held gives) limits tt always tt tt r later step refused old now mid last asks going)

  pub lines_stop : EachLine gives → (r later : Reading) (step : LineStep) (refused : Bool) (stop : Stop) (old now mid new : State) → is_end step ≡ false → Asks r later now mid (Ok step)
      → Going r refused old now → Writes (StepGives gives step) (Err stop) mid new → Ends events_alone Lines (Err stop) old new
  lines_stop each r later step refused stop old now mid new some asks going wrote =
      free (Err stop) old new (followed.lines_stop (held gives) limits tt always (λ history. tt) (each_held gives each) tt always r later step refused stop old now mid new some asks going
      (write_held step (Err stop) mid new wrote))

  pub lines_memory : EachLine gives → (r later : Reading) (refused : Bool) (fault : LineFault) (old now mid : State) → Asks r later now mid (Err fault) → Going r refused old now
      → Ends events_alone Lines (Err Memory) old mid
  lines_memory each r later refused fault old now mid asks going =
      free (Err Memory) old mid (followed.lines_memory (held gives) limits tt always (λ history. tt) (each_held gives each) tt r later refused fault old now mid asks going)

  pub lines_unread : EachLine gives → (r later : Reading) (refused : Bool) (stop : Stop) (old now mid new : State) → Asks r later now mid (Err Read) → Going r refused old now
      → ToldUnread Events stop mid new → new.inputs ≡ mid.inputs → new.references ≡ mid.references → Ends events_alone Lines (Err stop) old new
  lines_unread each r later refused stop old now mid new asks going told inputs kept =
      free (Err stop) old new (followed.lines_unread (held gives) limits tt always (λ history. tt) (each_held gives each) tt r later refused stop old now mid new asks going told inputs kept)

  pub each_answer : EachLine gives → EachHas Lines
  each_answer each world =
      let some = followed.each_followed_lines (held gives) limits tt (each_held gives each) always (λ history. tt) world in
      (some.0, (some.1.1.0, parts_free gives (lines_of limits world.events) world tt some.1.0 some.1.1.0 some.1.1.1, some.1.1.2))

  -- where each line has one answer, all have one
  pub lines_one : ((number : ℕ) (line : List ℕ) (a b : Share) → gives number line a → gives number line b → a ≡ b) → (world : World) (ps qs : List Part) → Lines world ps → Lines world qs → ps ≡ qs
  lines_one one world ps qs (first, steps, is) (second, steps_too, is_too) =
      is ∙ (ap (λ (l : List Part). events_part ∷ l) (parts_one (StepPart gives) one_part (lines_of limits world.events) world first second steps steps_too) ∙ sym is_too)
    where
      unless : (blank : Bool) (number : ℕ) (line : List ℕ) (a b : Share) → UnlessBlank blank (gives number line) a → UnlessBlank blank (gives number line) b → a ≡ b
      unless true number line a b x y = x ∙ sym y
      unless false number line a b x y = one number line a b x y

      one_share : (step : LineStep) (a b : Share) → StepGives gives step a → StepGives gives step b → a ≡ b
      one_share (Line number line) a b x y = unless (is_blank line) number line a b x y
      one_share (TooLong number) a b x y = x ∙ sym y
      one_share (TooMuch number) a b x y = x ∙ sym y
      one_share End a b x y = x ∙ sym y

      one_part : (step : LineStep) (w : World) (p q : Part) → StepPart gives step w p → StepPart gives step w q → p ≡ q
      one_part step w p q x y =
          ap (λ (i : Option Input). record { input = i; share = p.share }) (x.input ∙ sym y.input)
          ∙ ap (λ (s : Share). record { input = q.input; share = s }) (one_share step p.share q.share x.share y.share)
