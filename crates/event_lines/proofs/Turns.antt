-- The turns of a reader of lines: a piece of the line behind the other.
use Rattle.std.proofs.Common.{◌≡◌, ℕ, zero, suc, ◌+◌, ◌-◌, ◌<◌, ◌≤◌, Bool, true, false, List, [], ◌∷◌, ◌++◌, length, take, refl, sym, ap, ◌∙◌, arith, append_assoc, append-nil, inl, inr, Option, Some, None, subst}
use Rattle.std.specs.Prelude.{nat_le, if◌then◌else◌, ◌||◌, ◌==◌, ◌⊎◌, Result, Ok, Err}
use Rattle.sig_base.specs.declared.faults.LineFault.{LineFault}
use Rattle.std.specs.Io.KnownBytes.{Keeps, IsAtEnd}
use Rattle.std.specs.List.{list_any}
use Rattle.std.proofs.lemmas.Bool.{or_from}
use Rattle.std.proofs.lemmas.List.{length-append, take-append-le}
use Rattle.std.proofs.lemmas.List.Folds.{list_any-append}
use Rattle.event_lines.specs.Lines.{line_step, last_step, steps_from}
use Rattle.event_lines.specs.Reading.{Reading, coming, has_feed, AnswersNext, IsNext, PassesLine, Passes, IsPassed}
use Rattle.event_lines.specs.Steps.{TakesPiece, Moves, end_step}
use Rattle.event_lines.specs.declared.piece.Piece.TheVariants.{Feed, More, Over}
use Rattle.event_lines.proofs.Coming.{next_line, too_much, last_bytes}
use Rattle.sig_base.specs.declared.faults.LineFault.TheVariants.{Read, Memory}
use Rattle.sig_base.specs.declared.faults.LineStep.{LineStep}
use Rattle.sig_base.specs.declared.faults.LineStep.TheVariants.{Line, TooLong, TooMuch, End}

-- ---- bytes that came

pub moved_none : (l : Option (List ℕ)) (a : List ℕ) → Moves l l a a
moved_none None a = tt
moved_none (Some xs) a = ([], refl, sym (append-nil a))

pub moves_on : (l r s : Option (List ℕ)) (a front c d : List ℕ) → Moves l r a (front ++ c) → Moves r s c d → Moves l s a (front ++ d)
moves_on None r s a front c d first second = tt
moves_on (Some xs) None s a front c d first second = absurd first
moves_on (Some xs) (Some ys) None a front c d first second = absurd second
moves_on (Some xs) (Some ys) (Some zs) a front c d (g, is, behind) (h, more, after) = (
  g ++ h,
  is ∙ (ap (λ (l : List ℕ). g ++ l) more ∙ sym (append_assoc g h zs)),
  ap (λ (l : List ℕ). front ++ l) after ∙ (sym (append_assoc front c h) ∙ (ap (λ (l : List ℕ). l ++ h) behind ∙ append_assoc a g h)),
)

-- what was ahead and left is what is ahead and left now
moved_all : (xs ys a b : List ℕ) → Moves (Some xs) (Some ys) a b → a ++ xs ≡ b ++ ys
moved_all xs ys a b (g, is, behind) =
    ap (λ (l : List ℕ). a ++ l) is ∙ (sym (append_assoc a g ys) ∙ ap (λ (l : List ℕ). l ++ ys) (sym behind))

-- ---- the front of a line

-- the front of a line has been passed, and is ahead no more
pub record Passed (old now : Reading) (left rest : Option (List ℕ)) (line : List ℕ) : Type 0 where
  pub front : List ℕ
  pub plain : has_feed front ≡ false
  pub kept : line ≡ take (old.line_bytes + 1) front
  pub room : old.room ≡ length front + now.room
  pub told : Moves left rest old.ahead (front ++ now.ahead)

-- what the turns leave as it was
pub record Same (old now : Reading) : Type 0 where
  pub number : now.number ≡ old.number
  pub most : now.line_bytes ≡ old.line_bytes

take_kept : (n : ℕ) (xs ys : List ℕ) → take n (take n xs ++ ys) ≡ take n (xs ++ ys)
take_kept zero xs ys = refl
take_kept (suc n) [] ys = refl
take_kept (suc n) (x ∷ xs) ys = ap (λ (l : List ℕ). x ∷ l) (take_kept n xs ys)

both_plain : (xs ys : List ℕ) → has_feed xs ≡ false → has_feed ys ≡ false → has_feed (xs ++ ys) ≡ false
both_plain xs ys e f = list_any-append (λ b. b == 10) xs ys ∙ or_from (has_feed xs) (has_feed ys) e f

kept_more : (m n : ℕ) (line front piece line_new : List ℕ) → m ≡ n → line ≡ take (n + 1) front → line_new ≡ take (m + 1) (line ++ piece) → line_new ≡ take (n + 1) (front ++ piece)
kept_more m n line front piece line_new same kept is =
    is ∙ (ap (λ (k : ℕ). take (k + 1) (line ++ piece)) same ∙ (ap (λ (l : List ℕ). take (n + 1) (l ++ piece)) kept ∙ take_kept (n + 1) front piece))

-- bytes came ahead
pub passed_moved : (old now mid : Reading) (left rest more : Option (List ℕ)) (line : List ℕ) → Passed old now left rest line → mid ≡ record now { ahead = mid.ahead }
    → Moves rest more now.ahead mid.ahead → Passed old mid left more line
passed_moved old now mid left rest more line p is moved = record {
  front = p.front;
  plain = p.plain;
  kept = p.kept;
  room = p.room ∙ ap (λ (n : ℕ). length p.front + n) (sym (ap (λ (r : Reading). r.room) is));
  told = moves_on left rest more old.ahead p.front now.ahead mid.ahead p.told moved;
}

-- all bytes ahead, none of which is a line feed, were taken
pub passed_more : (old mid new : Reading) (left rest : Option (List ℕ)) (line line_new : List ℕ) → Same old mid → Passed old mid left rest line → TakesPiece mid new line line_new More
    → Passed old new left rest line_new
passed_more old mid new left rest line line_new same p (none, plain, kept, room) = record {
  front = p.front ++ mid.ahead;
  plain = both_plain p.front mid.ahead p.plain plain;
  kept = kept_more mid.line_bytes old.line_bytes line p.front mid.ahead line_new same.most p.kept kept;
  room = omega (arith, p.room, room, length-append p.front mid.ahead);
  told = subst (λ (l : List ℕ). Moves left rest old.ahead l) (sym (append-nil (p.front ++ mid.ahead)) ∙ ap (λ (l : List ℕ). p.front ++ mid.ahead ++ l) (sym none)) p.told;
}

-- ---- what is answered

coming_open : (r : Reading) (left : List ℕ) → r.ended ≡ false → coming r left ≡ steps_from r.line_bytes r.room r.number (r.ahead ++ left)
coming_open r left e = rw e refl

coming_over : (r : Reading) (left : List ℕ) → r.ended ≡ true → coming r left ≡ []
coming_over r left e = rw e refl

answers_line : (b : Bool) (number : ℕ) (line : List ℕ) (old new : Reading) (xs ys : List ℕ)
    → coming old xs ≡ (if b then Line number line else TooLong number) ∷ coming new ys → AnswersNext old xs new ys (Ok (if b then Line number line else TooLong number))
answers_line true number line old new xs ys e = e
answers_line false number line old new xs ys e = e

regroup : (front piece a ys : List ℕ) → front ++ (piece ++ 10 ∷ a) ++ ys ≡ front ++ piece ++ 10 ∷ (a ++ ys)
regroup front piece a ys =
    append_assoc front (piece ++ 10 ∷ a) ys ∙ (ap (λ (l : List ℕ). front ++ l) (append_assoc piece (10 ∷ a) ys) ∙ sym (append_assoc front piece (10 ∷ (a ++ ys))))

take_behind : (front bytes : List ℕ) (n : ℕ) → take (length front + n) (front ++ bytes) ≡ front ++ take n bytes
take_behind [] bytes n = ap (λ (k : ℕ). take k bytes) none where
  none : 0 + n ≡ n
  none = omega arith
take_behind (x ∷ xs) bytes n = ap (λ (k : ℕ). take k (x ∷ xs ++ bytes)) one ∙ ap (λ (l : List ℕ). x ∷ l) (take_behind xs bytes n) where
  one : suc (length xs) + n ≡ suc (length xs + n)
  one = omega arith

answers_end : (most number : ℕ) (front : List ℕ) (old after : Reading) (xs ys : List ℕ) → after.ended ≡ true → coming old xs ≡ last_step most false number front
    → AnswersNext old xs after ys (Ok (end_step most number front))
answers_end most number [] old after xs ys is e = (e, is)
answers_end most number (b ∷ bs) old after xs ys is e =
    answers_line (nat_le (length (b ∷ bs)) most) number (b ∷ bs) old after xs ys (e ∙ ap (λ (l : List LineStep). line_step most number (b ∷ bs) ∷ l) (sym (coming_over after ys is)))

-- the bytes that a line feed ends
pub answers_feed : (old mid new after : Reading) (left rest : Option (List ℕ)) (line line_new : List ℕ) (step : LineStep) → old.ended ≡ false → new.ended ≡ false → Same old mid → Same mid new
    → Passed old mid left rest line → TakesPiece mid new line line_new Feed
    → ((front : List ℕ) → line_new ≡ take (new.line_bytes + 1) front → step ≡ line_step new.line_bytes new.number front) → after ≡ record new { number = new.number + 1 }
    → IsNext old left after rest (Ok step)
answers_feed old mid new after None rest line line_new step begun going same next p taken told is = tt
answers_feed old mid new after (Some xs) None line line_new step begun going same next p taken told is = absurd p.told
answers_feed old mid new after (Some xs) (Some ys) line line_new step begun going same next p (piece, ahead, plain, kept, room) told is =
    let front = p.front ++ piece in
    let most : new.line_bytes ≡ old.line_bytes = next.most ∙ same.most in
    let number : new.number ≡ old.number = next.number ∙ same.number in
    let whole : old.ahead ++ xs ≡ front ++ 10 ∷ (new.ahead ++ ys) =
    moved_all xs ys old.ahead (p.front ++ mid.ahead) p.told ∙ (ap (λ (l : List ℕ). p.front ++ l ++ ys) ahead ∙ regroup p.front piece new.ahead ys) in
    let size : old.room ≡ length front + 1 + new.room = omega (arith, p.room, room, length-append p.front piece) in
    let now : step ≡ line_step new.line_bytes new.number front = told front (kept_more mid.line_bytes new.line_bytes line p.front piece line_new (sym next.most)
    (p.kept ∙ ap (λ (k : ℕ). take (k + 1) p.front) (sym most)) kept) in
    let later = record new { number = new.number + 1 } in
    let old_coming : coming old xs ≡ line_step old.line_bytes old.number front ∷ steps_from old.line_bytes new.room (old.number + 1) (new.ahead ++ ys) =
    coming_open old xs begun ∙ (ap (λ (l : List ℕ). steps_from old.line_bytes old.room old.number l) whole
    ∙ (ap (λ (k : ℕ). steps_from old.line_bytes k old.number (front ++ 10 ∷ (new.ahead ++ ys))) size
    ∙ next_line old.line_bytes new.room old.number front (new.ahead ++ ys) (both_plain p.front piece p.plain plain))) in
    let all_coming : coming old xs ≡ line_step new.line_bytes new.number front ∷ coming later ys =
    old_coming
    ∙ (ap (λ (m : ℕ). line_step m old.number front ∷ steps_from m new.room (old.number + 1) (new.ahead ++ ys)) (sym most)
    ∙ (ap (λ (n : ℕ). line_step new.line_bytes n front ∷ steps_from new.line_bytes new.room (n + 1) (new.ahead ++ ys)) (sym number)
    ∙ ap (λ (l : List LineStep). line_step new.line_bytes new.number front ∷ l) (sym (coming_open later ys going)))) in
    subst (λ (r : Reading). IsNext old (Some xs) r (Some ys) (Ok step)) (sym is)
    (subst (λ (a : LineStep). IsNext old (Some xs) later (Some ys) (Ok a)) (sym now)
    (answers_line (nat_le (length front) new.line_bytes) new.number front old later xs ys all_coming))

-- more bytes without a line feed than may come
pub answers_over : (old mid new after : Reading) (left rest : Option (List ℕ)) (line line_new : List ℕ) (step : LineStep) → old.ended ≡ false → Same old mid → Same mid new
    → Passed old mid left rest line → TakesPiece mid new line line_new Over → step ≡ TooMuch new.number → after.ended ≡ true → IsNext old left after rest (Ok step)
answers_over old mid new after None rest line line_new step begun same next p taken told is = tt
answers_over old mid new after (Some xs) None line line_new step begun same next p taken told is = absurd p.told
answers_over old mid new after (Some xs) (Some ys) line line_new step begun same next p (plain, past) told is =
    let whole : old.ahead ++ xs ≡ p.front ++ (mid.ahead ++ ys) = moved_all xs ys old.ahead (p.front ++ mid.ahead) p.told ∙ append_assoc p.front mid.ahead ys in
    let size : length (p.front ++ (mid.ahead ++ ys)) ≡ length p.front + (length mid.ahead + length ys) = omega (arith, length-append p.front (mid.ahead ++ ys), length-append mid.ahead ys) in
    let front : take old.room (p.front ++ (mid.ahead ++ ys)) ≡ p.front ++ take mid.room mid.ahead =
    ap (λ (k : ℕ). take k (p.front ++ (mid.ahead ++ ys))) p.room
    ∙ (take_behind p.front (mid.ahead ++ ys) mid.room ∙ ap (λ (l : List ℕ). p.front ++ l) (take-append-le mid.room mid.ahead ys (omega (arith, past)))) in
    let none : has_feed (take old.room (p.front ++ (mid.ahead ++ ys))) ≡ false = ap has_feed front ∙ both_plain p.front (take mid.room mid.ahead) p.plain plain in
    let all_coming : coming old xs ≡ TooMuch new.number ∷ [] =
    coming_open old xs begun ∙ (ap (λ (l : List ℕ). steps_from old.line_bytes old.room old.number l) whole
    ∙ (too_much old.line_bytes old.room old.number (p.front ++ (mid.ahead ++ ys)) none (omega (arith, size, p.room, past))
    ∙ ap (λ (n : ℕ). TooMuch n ∷ []) (sym (next.number ∙ same.number)))) in
    subst (λ (a : LineStep). IsNext old (Some xs) after (Some ys) (Ok a)) (sym told) (all_coming, is)

-- the source is at its end
pub answers_last : (old mid after : Reading) (left rest : Option (List ℕ)) (line : List ℕ) (step : LineStep) → old.ended ≡ false → Same old mid
    → Passed old mid left rest line → mid.ahead ≡ [] → IsAtEnd rest
    → ((front : List ℕ) → line ≡ take (mid.line_bytes + 1) front → step ≡ end_step mid.line_bytes mid.number front) → after.ended ≡ true → IsNext old left after rest (Ok step)
answers_last old mid after None rest line step begun same p empty at_end told is = tt
answers_last old mid after (Some xs) None line step begun same p empty at_end told is = absurd p.told
answers_last old mid after (Some xs) (Some ys) line step begun same p empty at_end told is =
    let whole : old.ahead ++ xs ≡ p.front =
    moved_all xs ys old.ahead (p.front ++ mid.ahead) p.told ∙ (ap (λ (l : List ℕ). p.front ++ l ++ ys) empty
    ∙ (ap (λ (l : List ℕ). l ++ ys) (append-nil p.front) ∙ (ap (λ (l : List ℕ). p.front ++ l) at_end ∙ append-nil p.front))) in
    let now : step ≡ end_step old.line_bytes old.number p.front =
    told p.front (p.kept ∙ ap (λ (k : ℕ). take (k + 1) p.front) (sym same.most))
    ∙ (ap (λ (m : ℕ). end_step m mid.number p.front) same.most ∙ ap (λ (n : ℕ). end_step old.line_bytes n p.front) same.number) in
    let all_coming : coming old xs ≡ last_step old.line_bytes false old.number p.front =
    coming_open old xs begun ∙ (ap (λ (l : List ℕ). steps_from old.line_bytes old.room old.number l) whole
    ∙ last_bytes old.line_bytes old.room old.number p.front p.plain (omega (arith, p.room))) in
    subst (λ (a : LineStep). IsNext old (Some xs) after (Some ys) (Ok a)) (sym now) (answers_end old.line_bytes old.number p.front old after xs ys is all_coming)

-- reading failed
pub answers_failed : (old now after : Reading) (left rest more : Option (List ℕ)) (line : List ℕ) → Passed old now left rest line → now.ahead ≡ [] → Keeps rest more → after.ended ≡ true
    → IsNext old left after more (Err Read)
answers_failed old now after None rest more line p empty keeps is = tt
answers_failed old now after (Some xs) None more line p empty keeps is = absurd p.told
answers_failed old now after (Some xs) (Some ys) None line p empty keeps is = absurd keeps
answers_failed old now after (Some xs) (Some ys) (Some zs) line p empty keeps is =
    let given = p.told.0 in
    let front : old.ahead ++ given ≡ p.front = sym p.told.2 ∙ (ap (λ (l : List ℕ). p.front ++ l) empty ∙ append-nil p.front) in (
      given,
      p.told.1 ∙ ap (λ (l : List ℕ). given ++ l) (sym keeps),
      ap has_feed front ∙ p.plain,
      subst (λ (l : List ℕ). length l ≤ old.room) (sym front) (omega (arith, p.room)),
      is,
    )

-- ---- which bytes are passed

passes_over : (old after : Reading) (given : List ℕ) (r : Result LineStep LineFault) → after.ended ≡ true → Passes old given after r
passes_over old after given (Ok (Line number bytes)) is = inl is
passes_over old after given (Ok (TooLong number)) is = inl is
passes_over old after given (Ok (TooMuch number)) is = tt
passes_over old after given (Ok End) is = tt
passes_over old after given (Err fault) is = tt

-- the reader is at its end
pub over_passed : (old now after : Reading) (left rest : Option (List ℕ)) (line : List ℕ) (r : Result LineStep LineFault) → Passed old now left rest line → after.ended ≡ true
    → IsPassed old left after rest r
over_passed old now after None rest line r p is = tt
over_passed old now after (Some xs) None line r p is = absurd p.told
over_passed old now after (Some xs) (Some ys) line r p is = (p.told.0, p.told.1, passes_over old after p.told.0 r is)

pub failed_passed : (old now after : Reading) (left rest more : Option (List ℕ)) (line : List ℕ) (fault : LineFault) → Passed old now left rest line → Keeps rest more
    → IsPassed old left after more (Err fault)
failed_passed old now after None rest more line fault p keeps = tt
failed_passed old now after (Some xs) None more line fault p keeps = absurd p.told
failed_passed old now after (Some xs) (Some ys) None line fault p keeps = absurd keeps
failed_passed old now after (Some xs) (Some ys) (Some zs) line fault p keeps = (p.told.0, p.told.1 ∙ ap (λ (l : List ℕ). p.told.0 ++ l) (sym keeps), tt)

passes_step : (old after : Reading) (given : List ℕ) (step : LineStep) → PassesLine old given after → Passes old given after (Ok step)
passes_step old after given (Line number bytes) passes = passes
passes_step old after given (TooLong number) passes = passes
passes_step old after given (TooMuch number) passes = tt
passes_step old after given End passes = tt

-- a line feed ends the line
pub feed_passed : (old mid new after : Reading) (left rest : Option (List ℕ)) (line line_new : List ℕ) (step : LineStep) → Passed old mid left rest line
    → TakesPiece mid new line line_new Feed → after ≡ record new { number = new.number + 1 } → IsPassed old left after rest (Ok step)
feed_passed old mid new after None rest line line_new step p taken is = tt
feed_passed old mid new after (Some xs) None line line_new step p taken is = absurd p.told
feed_passed old mid new after (Some xs) (Some ys) line line_new step p (piece, ahead, plain, kept, room) is =
    let whole : old.ahead ++ p.told.0 ≡ (p.front ++ piece) ++ 10 ∷ new.ahead =
    sym p.told.2 ∙ (ap (λ (l : List ℕ). p.front ++ l) ahead ∙ sym (append_assoc p.front piece (10 ∷ new.ahead))) in
    let size : old.room ≡ length (p.front ++ piece) + 1 + new.room = omega (arith, p.room, room, length-append p.front piece) in
    let passes : PassesLine old p.told.0 new = inr (p.front ++ piece, whole, both_plain p.front piece p.plain plain, size) in
    let later = record new { number = new.number + 1 } in
    (p.told.0, p.told.1, passes_step old after p.told.0 step (subst (λ (r : Reading). PassesLine old p.told.0 r) (sym is) (passes_on old p.told.0 new passes))) where
      passes_on : (old : Reading) (given : List ℕ) (r : Reading) → PassesLine old given r → PassesLine old given (record r { number = r.number + 1 })
      passes_on old given r (inl ended) = inl ended
      passes_on old given r (inr line) = inr line
