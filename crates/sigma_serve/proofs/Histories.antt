-- Lines that are followed behind a history: there is an answer, and one only, and what is so by other definitions of a line's answer.
use Rattle.std.proofs.Common.{◌≡◌, ℕ, Bool, true, false, List, [], ◌∷◌, refl, ap, sym, ◌∙◌, subst, Option, Some}
use Rattle.answer_writer.specs.EventLines.{events_part, is_blank, line_refused}
use Rattle.answer_writer.specs.FollowedLines.{ByHistory, EachFollows, FollowsWithin, UnlessBlankFollows, StepFollows, FollowParts, FollowedLines}
use Rattle.answer_writer.specs.Input.{Input, World, Events}
use Rattle.answer_writer.specs.Parts.{Share, Part, no_share}
use Rattle.event_lines.specs.Lines.{lines_of}
use Rattle.sig_base.specs.declared.faults.LineStep.{LineStep}
use Rattle.sig_base.specs.declared.faults.LineStep.TheVariants.{Line, TooLong, TooMuch, End}
use Rattle.sig_base.specs.declared.limits.Limits.{Limits}

-- ---- there is an answer

module _ {H : Type 0} (by : ByHistory H) (each : EachFollows by) where
  abbrev Step : H → LineStep → Type 0
  Step history step = (share : Share) × (after : H) × StepFollows by history step share after

  each_step : (history : H) (step : LineStep) → Step history step
  each_step history (Line number line) = unless (is_blank line)
    where
      unless : (b : Bool) → (share : Share) × (after : H) × UnlessBlankFollows b (by history number line) history share after
      unless true = (no_share, history, (refl, refl))
      unless false = each history number line
  each_step history (TooLong number) = (line_refused number 30, history, (refl, refl))
  each_step history (TooMuch number) = (line_refused number 31, history, (refl, refl))
  each_step history End = (no_share, history, (refl, refl))

  each_parts : (steps : List LineStep) (history : H) → (parts : List Part) × (after : H) × FollowParts by steps history parts after
  each_parts [] history = ([], history, refl)
  each_parts (step ∷ steps) history =
      let one = each_step history step in
      let more = each_parts steps one.1 in
      (record { input = Some Events; share = one.0 } ∷ more.0, more.1, (one.1, record { input = refl; share = one.2 }, more.2))

  pub each_followed : (limits : Limits) (history : H) (world : World) → (parts : List Part) × (after : H) × FollowedLines by limits history world parts after
  each_followed limits history world = let all = each_parts (lines_of limits world.events) history in (events_part ∷ all.0, all.1, (all.0, all.2, refl))

-- ---- and one only

module _ {H : Type 0} (by : ByHistory H) (one : (history : H) (number : ℕ) (line : List ℕ) (a b : Share) (x y : H) → by history number line a x → by history number line b y → (a ≡ b) × (x ≡ y)) where
  one_step : (history : H) (step : LineStep) (a b : Share) (x y : H) → StepFollows by history step a x → StepFollows by history step b y → (a ≡ b) × (x ≡ y)
  one_step history (Line number line) a b x y first second = unless (is_blank line) first second
    where
      unless : (blank : Bool) → UnlessBlankFollows blank (by history number line) history a x → UnlessBlankFollows blank (by history number line) history b y → (a ≡ b) × (x ≡ y)
      unless true here there = (here.0 ∙ sym there.0, here.1 ∙ sym there.1)
      unless false here there = one history number line a b x y here there
  one_step history (TooLong number) a b x y first second = (first.0 ∙ sym second.0, first.1 ∙ sym second.1)
  one_step history (TooMuch number) a b x y first second = (first.0 ∙ sym second.0, first.1 ∙ sym second.1)
  one_step history End a b x y first second = (first.0 ∙ sym second.0, first.1 ∙ sym second.1)

  same_part : (p q : Part) → p.input ≡ q.input → p.share ≡ q.share → p ≡ q
  same_part p q input share = ap (λ (i : Option Input). record { input = i; share = p.share }) input ∙ ap (λ (s : Share). record { input = q.input; share = s }) share

  one_parts : (steps : List LineStep) (history : H) (a b : List Part) (x y : H) → FollowParts by steps history a x → FollowParts by steps history b y → (a ≡ b) × (x ≡ y)
  one_parts [] history [] [] x y first second = (refl, first ∙ sym second)
  one_parts [] history [] (q ∷ b) x y first second = absurd second
  one_parts [] history (p ∷ a) b x y first second = absurd first
  one_parts (step ∷ steps) history [] b x y first second = absurd first
  one_parts (step ∷ steps) history (p ∷ a) [] x y first second = absurd second
  one_parts (step ∷ steps) history (p ∷ a) (q ∷ b) x y (next, here, more) (other, there, others) =
      let both = one_step history step p.share q.share next other here.share there.share in
      let rest = one_parts steps next a b x y more (subst (λ (h : H). FollowParts by steps h b y) (sym both.1) others) in
      (ap (λ (head : Part). head ∷ a) (same_part p q (here.input ∙ sym there.input) both.0) ∙ ap (λ (l : List Part). q ∷ l) rest.0, rest.1)

  pub one_followed : (limits : Limits) (history : H) (world : World) (a b : List Part) (x y : H) → FollowedLines by limits history world a x → FollowedLines by limits history world b y
      → (a ≡ b) × (x ≡ y)
  one_followed limits history world a b x y (lines, all, is) (others, all_too, is_too) =
      let both = one_parts (lines_of limits world.events) history lines others x y all all_too in
      (is ∙ (ap (λ (l : List Part). events_part ∷ l) both.0 ∙ sym is_too), both.1)

-- ---- by another definition

module _ {H : Type 0} (by other : ByHistory H) (within : FollowsWithin by other) where
  step_within : (history : H) (step : LineStep) (share : Share) (after : H) → StepFollows by history step share after → StepFollows other history step share after
  step_within history (Line number line) share after is = unless (is_blank line) is
    where
      unless : (b : Bool) → UnlessBlankFollows b (by history number line) history share after → UnlessBlankFollows b (other history number line) history share after
      unless true nothing = nothing
      unless false given = within history number line share after given
  step_within history (TooLong number) share after is = is
  step_within history (TooMuch number) share after is = is
  step_within history End share after is = is

  parts_within : (steps : List LineStep) (history : H) (parts : List Part) (after : H) → FollowParts by steps history parts after → FollowParts other steps history parts after
  parts_within [] history [] after is = is
  parts_within [] history (p ∷ parts) after is = absurd is
  parts_within (step ∷ steps) history [] after is = absurd is
  parts_within (step ∷ steps) history (p ∷ parts) after (next, here, more) =
      (next, record { input = here.input; share = step_within history step p.share next here.share }, parts_within steps next parts after more)

  pub followed_within : (limits : Limits) (history : H) (world : World) (parts : List Part) (after : H) → FollowedLines by limits history world parts after
      → FollowedLines other limits history world parts after
  followed_within limits history world parts after (lines, all, is) = (lines, parts_within (lines_of limits world.events) history lines after all, is)
