-- The reader of the events' lines: the steps that come, and those that are done.
use Rattle.std.proofs.Common.{◌≡◌, ℕ, ◌+◌, ◌<◌, Bool, true, false, cond, List, [], ◌∷◌, ◌++◌, refl, ap, sym, ◌∙◌, subst, append_assoc, arith, Option, None, Some, Result, Ok, Err, inl, inr}
use Rattle.std.specs.Prelude.{◌||◌, ◌⊎◌, not, ◌==◌}
use Rattle.std.specs.List.{list_all}
use Rattle.std.proofs.lemmas.List.{append_cancel_left}
use Rattle.sig_base.specs.declared.faults.LineFault.{LineFault}
use Rattle.sig_base.specs.declared.faults.LineFault.TheVariants.{Read}
use Rattle.sig_base.specs.declared.faults.LineStep.{LineStep}
use Rattle.sig_base.specs.declared.faults.LineStep.TheVariants.{Line, TooLong, TooMuch, End}
use Rattle.sig_base.specs.declared.limits.Limits.{Limits}
use Rattle.event_lines.proofs.Coming.{next_line}
use Rattle.event_lines.specs.Lines.{line_step, steps_from, lines_of}
use Rattle.event_lines.specs.Reading.{Reading, coming, has_feed, IsNext, PassesLine, IsPassed, IsOver, IsLine, HasLineCause}
use Rattle.answer_writer.specs.EventLines.{is_end}
use Rattle.answer_writer.specs.Lines.{ended}
use Rattle.answer_writer.specs.Stands.{AreWhole}
use Rattle.answer_writer.specs.State.{State}

-- ---- the reader

pub over_none : (r : Reading) (left : List ℕ) → r.ended ≡ true → coming r left ≡ []
over_none r left ended = rw ended refl

-- bytes without a line feed, byte by byte
pub no_feed : (bytes : List ℕ) → has_feed bytes ≡ false → list_all (λ c. not (c == 10)) bytes ≡ true
no_feed [] none = refl
no_feed (b ∷ bs) none = by (b == 10) refl none (no_feed bs)
  where
    by : (x : Bool) → (b == 10) ≡ x → (x || has_feed bs) ≡ false → (has_feed bs ≡ false → list_all (λ c. not (c == 10)) bs ≡ true) → list_all (λ c. not (c == 10)) (b ∷ bs) ≡ true
    by true is no_one rest = absurd cc
    by false is no_one rest = rw is (rest no_one)

-- what asking for the next line leaves
pub record Asks (r later : Reading) (now mid : State) (result : Result LineStep LineFault) : Type 0 where
  pub next : IsNext r now.inputs.left later mid.inputs.left result
  pub passed : IsPassed r now.inputs.left later mid.inputs.left result
  pub cause : HasLineCause now.inputs.faults mid.inputs.faults result
  pub ended : r.ended ≡ true → result ≡ Ok End
  pub files : mid.inputs.files ≡ now.inputs.files
  pub failed : mid.inputs.failed ≡ now.inputs.failed
  pub streams : mid.streams ≡ now.streams
  pub kept : mid.references ≡ now.references

-- a step is the next one that came, and it passed a line or it ends the reader
pub record Came (r later : Reading) (rest : List ℕ) (left : Option (List ℕ)) (step : LineStep) : Type 0 where
  pub still : List ℕ
  pub given : List ℕ
  pub stays : left ≡ Some still
  pub gave : rest ≡ given ++ still
  pub come : coming r rest ≡ step ∷ coming later still
  pub passes : PassesLine r given later

pub came : (r later : Reading) (rest : List ℕ) (left : Option (List ℕ)) (step : LineStep) → is_end step ≡ false → IsNext r (Some rest) later left (Ok step) → IsPassed r (Some rest) later left (Ok step)
    → Came r later rest left step
came r later rest None step some next passed = absurd next
came r later rest (Some still) (Line number line) some next (given, gave, passes) =
    record { still = still; given = given; stays = refl; gave = gave; come = next; passes = passes }
came r later rest (Some still) (TooLong number) some next (given, gave, passes) =
    record { still = still; given = given; stays = refl; gave = gave; come = next; passes = passes }
came r later rest (Some still) (TooMuch number) some (last, ended) (given, gave, passes) = record {
  still = still;
  given = given;
  stays = refl;
  gave = gave;
  come = last ∙ ap (λ (l : List LineStep). TooMuch number ∷ l) (sym (over_none later still ended));
  passes = inl ended;
}
came r later rest (Some still) End some next passed = absurd cc

-- nothing comes any more
pub none_comes : (r later : Reading) (rest : List ℕ) (left : Option (List ℕ)) (step : LineStep) → is_end step ≡ true → IsNext r (Some rest) later left (Ok step) → coming r rest ≡ []
none_comes r later rest None step last next = absurd next
none_comes r later rest (Some still) (Line number line) last next = absurd cc
none_comes r later rest (Some still) (TooLong number) last next = absurd cc
none_comes r later rest (Some still) (TooMuch number) last next = absurd cc
none_comes r later rest (Some still) End last next = next.0

-- reading failed, and no line feed stood among what came
pub record Failed (r : Reading) (rest : List ℕ) (left : Option (List ℕ)) : Type 0 where
  pub still : List ℕ
  pub given : List ℕ
  pub stays : left ≡ Some still
  pub gave : rest ≡ given ++ still
  pub plain : has_feed (r.ahead ++ given) ≡ false

pub failed : (r later : Reading) (rest : List ℕ) (left : Option (List ℕ)) → IsNext r (Some rest) later left (Err Read) → Failed r rest left
failed r later rest None next = absurd next
failed r later rest (Some still) (given, gave, plain, within, ended) = record { still = still; given = given; stays = refl; gave = gave; plain = plain }

-- an answer of a reader
abbrev pub answer : LineStep → Result LineStep LineFault
answer step = Ok step

-- what the reader may still do: it falls with each step
abbrev pub measure : Reading → ℕ
measure r = cond r.ended 0 (r.room + 1)

room_falls : (r later : Reading) (step : LineStep) → is_end step ≡ false → (IsOver (answer step) → later.ended ≡ true) → (IsLine (answer step) → later.room < r.room) → later.ended ≡ false
    → later.room < r.room
room_falls r later (Line number line) some over shorter going = shorter tt
room_falls r later (TooLong number) some over shorter going = shorter tt
room_falls r later (TooMuch number) some over shorter going = absurd (not_both (over tt))
  where
    not_both : later.ended ≡ true → ⊥
    not_both is = cc
room_falls r later End some over shorter going = absurd cc

pub falls : (r later : Reading) (step : LineStep) → is_end step ≡ false → (IsOver (answer step) → later.ended ≡ true) → (IsLine (answer step) → later.room < r.room)
    → (r.ended ≡ true → answer step ≡ Ok End) → measure later < measure r
falls r later step some over shorter ended = by r.ended refl
  where
    not_end : answer step ≡ Ok End → is_end step ≡ true
    not_end is = ap (λ (x : Result LineStep LineFault). ends x) is
      where
        ends : Result LineStep LineFault → Bool
        ends (Ok x) = is_end x
        ends (Err e) = false

    not_both : is_end step ≡ true → ⊥
    not_both is = cc

    behind : (b : Bool) → later.ended ≡ b → cond later.ended 0 (later.room + 1) < r.room + 1
    behind true is = rw is (omega arith)
    behind false is = rw is (omega (arith, room_falls r later step some over shorter is))

    by : (b : Bool) → r.ended ≡ b → cond later.ended 0 (later.room + 1) < cond r.ended 0 (r.room + 1)
    by true is = absurd (not_both (not_end (ended is)))
    by false is = rw is (behind later.ended refl)

-- ---- steps that are done

module _ (limits : Limits) where
  -- some whole lines of the events are answered, and what is ahead and left stands behind them
  pub record Whole (r : Reading) (rest events : List ℕ) (done : List LineStep) : Type 0 where
    pub whole : List ℕ
    pub number : ℕ
    pub divide : events ≡ whole ++ (r.ahead ++ rest)
    pub are : AreWhole whole
    pub more : (more : List ℕ) → lines_of limits (whole ++ more) ≡ done ++ steps_from limits.line_bytes r.room number more

  -- These steps are done, and those to come of the reader are left. Unless it's at its end, it stands behind a whole line.
  pub record At (r : Reading) (left : Option (List ℕ)) (events : List ℕ) (done : List LineStep) : Type 0 where
    pub rest : List ℕ
    pub stays : left ≡ Some rest
    pub come : lines_of limits events ≡ done ++ coming r rest
    pub stands : (r.ended ≡ true) ⊎ Whole r rest events done

  -- a step is done, and stands behind those before it
  heads : (a b : LineStep) (xs ys : List LineStep) → a ∷ xs ≡ b ∷ ys → a ≡ b
  heads a b xs ys same = cc

  -- behind whole lines and one more
  whole_next : (r later : Reading) (rest events : List ℕ) (done : List LineStep) (step : LineStep) (left : Option (List ℕ)) → lines_of limits events ≡ done ++ coming r rest
      → Whole r rest events done → (c : Came r later rest left step) → (later.ended ≡ true) ⊎ Whole later c.still events (done ++ step ∷ [])
  whole_next r later rest events done step left come w c = by c.passes
    where
      by : PassesLine r c.given later → (later.ended ≡ true) ⊎ Whole later c.still events (done ++ step ∷ [])
      by (inl ended) = inl ended
      by (inr (line, passed, plain, room)) = inr (record {
        whole = w.whole ++ (line ++ 10 ∷ []);
        number = w.number + 1;
        divide = w.divide ∙ (ap (λ (l : List ℕ). w.whole ++ l) split ∙ sym (append_assoc w.whole (line ++ 10 ∷ []) (later.ahead ++ c.still)));
        are = inr (w.whole ++ line, sym (append_assoc w.whole line (10 ∷ [])));
        more = λ more. ap (λ (l : List ℕ). lines_of limits l) (regroup more) ∙ (after more
            ∙ (ap (λ (x : LineStep). done ++ x ∷ steps_from limits.line_bytes later.room (w.number + 1) more) is
            ∙ sym (append_assoc done (step ∷ []) (steps_from limits.line_bytes later.room (w.number + 1) more))));
      })
        where
          feed : (more : List ℕ) → (line ++ 10 ∷ []) ++ more ≡ line ++ 10 ∷ more
          feed more = append_assoc line (10 ∷ []) more

          regroup : (more : List ℕ) → (w.whole ++ (line ++ 10 ∷ [])) ++ more ≡ w.whole ++ (line ++ 10 ∷ more)
          regroup more = append_assoc w.whole (line ++ 10 ∷ []) more ∙ ap (λ (l : List ℕ). w.whole ++ l) (feed more)

          -- what is ahead and left is the line with its line feed, and then what is ahead and left later
          split : r.ahead ++ rest ≡ (line ++ 10 ∷ []) ++ (later.ahead ++ c.still)
          split = ap (λ (l : List ℕ). r.ahead ++ l) c.gave ∙ (sym (append_assoc r.ahead c.given c.still)
              ∙ (ap (λ (l : List ℕ). l ++ c.still) passed ∙ (append_assoc line (10 ∷ later.ahead) c.still ∙ sym (feed (later.ahead ++ c.still)))))

          after : (more : List ℕ) → lines_of limits (w.whole ++ (line ++ 10 ∷ more))
              ≡ done ++ line_step limits.line_bytes w.number line ∷ steps_from limits.line_bytes later.room (w.number + 1) more
          after more = w.more (line ++ 10 ∷ more) ∙ ap (λ (l : List LineStep). done ++ l)
              (ap (λ (n : ℕ). steps_from limits.line_bytes n w.number (line ++ 10 ∷ more)) room ∙ next_line limits.line_bytes later.room w.number line more plain)

          -- the line is the step that came
          is : line_step limits.line_bytes w.number line ≡ step
          is = heads (line_step limits.line_bytes w.number line) step (steps_from limits.line_bytes later.room (w.number + 1) (later.ahead ++ c.still)) (coming later c.still)
              (append_cancel_left done (line_step limits.line_bytes w.number line ∷ steps_from limits.line_bytes later.room (w.number + 1) (later.ahead ++ c.still)) (step ∷ coming later c.still)
              (sym (after (later.ahead ++ c.still)) ∙ (ap (λ (l : List ℕ). lines_of limits (w.whole ++ l)) (sym (feed (later.ahead ++ c.still)) ∙ sym split)
              ∙ (ap (λ (l : List ℕ). lines_of limits l) (sym w.divide) ∙ (come ∙ ap (λ (l : List LineStep). done ++ l) c.come)))))

  pub at_next : (r later : Reading) (before left : Option (List ℕ)) (events : List ℕ) (done : List LineStep) (step : LineStep) (at : At r before events done) → Came r later at.rest left step
      → At later left events (done ++ step ∷ [])
  at_next r later before left events done step at c = record {
    rest = c.still;
    stays = c.stays;
    come = at.come ∙ (ap (λ (l : List LineStep). done ++ l) c.come ∙ sym (append_assoc done (step ∷ []) (coming later c.still)));
    stands = by at.stands;
  }
    where
      not_none : step ∷ coming later c.still ≡ [] → ⊥
      not_none same = cc

      by : (r.ended ≡ true) ⊎ Whole r at.rest events done → (later.ended ≡ true) ⊎ Whole later c.still events (done ++ step ∷ [])
      by (inl ended) = absurd (not_none (sym c.come ∙ over_none r at.rest ended))
      by (inr w) = whole_next r later at.rest events done step left at.come w c

  pub came_at : (r later : Reading) (step : LineStep) (now mid : State) (events : List ℕ) (done : List LineStep) (at : At r now.inputs.left events done) → is_end step ≡ false → Asks r later now mid (Ok step)
      → Came r later at.rest mid.inputs.left step
  came_at r later step now mid events done at some asks =
      came r later at.rest mid.inputs.left step some
      (subst (λ (l : Option (List ℕ)). IsNext r l later mid.inputs.left (Ok step)) at.stays asks.next)
      (subst (λ (l : Option (List ℕ)). IsPassed r l later mid.inputs.left (Ok step)) at.stays asks.passed)
