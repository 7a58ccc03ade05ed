-- What is still to come of bytes, by their first piece.
use Rattle.std.proofs.Common.{◌≡◌, ℕ, zero, suc, ◌+◌, ◌-◌, ◌<◌, ◌≤◌, Bool, true, false, cond, ◌||◌, ◌==◌, nat_lt, List, [], ◌∷◌, ◌++◌, length, take, drop, refl, sym, ap, ◌∙◌, arith, append-nil}
use Rattle.std.specs.List.{list_any}
use Rattle.std.proofs.lemmas.Bool.{lt-ltb, le-ltb, ltb-true, ltb-false}
use Rattle.std.proofs.lemmas.List.{take_all, length-append}
use Rattle.event_lines.specs.Lines.{pieces, line_step, last_step, piece_steps, steps_from}
use Rattle.event_lines.specs.Reading.{has_feed}
use Rattle.sig_base.specs.declared.faults.LineStep.{LineStep}
use Rattle.sig_base.specs.declared.faults.LineStep.TheVariants.{Line, TooLong, TooMuch}

abbrev Pieces : Type 0
Pieces = List ℕ × List (List ℕ)

-- a piece that a line feed ends
pieces_feed : (front rest : List ℕ) → has_feed front ≡ false → pieces (front ++ 10 ∷ rest) ≡ (front, (pieces rest).0 ∷ (pieces rest).1)
pieces_feed [] rest e = refl
pieces_feed (b ∷ bs) rest e = by (b == 10) refl e (pieces_feed bs rest) where
  by : (x : Bool) → (b == 10) ≡ x → (x || has_feed bs) ≡ false → (has_feed bs ≡ false → pieces (bs ++ 10 ∷ rest) ≡ (bs, (pieces rest).0 ∷ (pieces rest).1))
      → pieces (b ∷ bs ++ 10 ∷ rest) ≡ (b ∷ bs, (pieces rest).0 ∷ (pieces rest).1)
  by true is e rec = absurd cc
  by false is e rec = rw is (ap (λ (p : Pieces). (b ∷ p.0, p.1)) (rec e))

-- bytes without a line feed are one piece
pieces_plain : (bytes : List ℕ) → has_feed bytes ≡ false → pieces bytes ≡ (bytes, [])
pieces_plain [] e = refl
pieces_plain (b ∷ bs) e = by (b == 10) refl e (pieces_plain bs) where
  by : (x : Bool) → (b == 10) ≡ x → (x || has_feed bs) ≡ false → (has_feed bs ≡ false → pieces bs ≡ (bs, [])) → pieces (b ∷ bs) ≡ (b ∷ bs, [])
  by true is e rec = absurd cc
  by false is e rec = rw is (ap (λ (p : Pieces). (b ∷ p.0, p.1)) (rec e))

abbrev by_pieces : ℕ → Bool → ℕ → Pieces → List LineStep
by_pieces most over number p = piece_steps most over number p.0 p.1

take_feed : (front rest : List ℕ) (room : ℕ) → take (length front + 1 + room) (front ++ 10 ∷ rest) ≡ front ++ 10 ∷ take room rest
take_feed [] rest room = ap (λ (k : ℕ). take k (10 ∷ rest)) one where
  one : 0 + 1 + room ≡ suc room
  one = omega arith
take_feed (b ∷ bs) rest room = ap (λ (k : ℕ). take k (b ∷ bs ++ 10 ∷ rest)) one ∙ ap (λ (l : List ℕ). b ∷ l) (take_feed bs rest room) where
  one : suc (length bs) + 1 + room ≡ suc (length bs + 1 + room)
  one = omega arith

-- a number is past another where so much more is past so much more
over_more : (n room rest : ℕ) → nat_lt (n + room) (n + rest) ≡ nat_lt room rest
over_more n room rest = by (nat_lt room rest) refl where
  by : (b : Bool) → nat_lt room rest ≡ b → nat_lt (n + room) (n + rest) ≡ b
  by true is = lt-ltb (n + room) (n + rest) (omega (arith, ltb-true room rest is))
  by false is = le-ltb (n + room) (n + rest) (omega (arith, ltb-false room rest is))

-- a line that a line feed ends within the room
pub next_line : (most room number : ℕ) (front rest : List ℕ) → has_feed front ≡ false
    → steps_from most (length front + 1 + room) number (front ++ 10 ∷ rest) ≡ line_step most number front ∷ steps_from most room (number + 1) rest
next_line most room number front rest plain =
    let size : length (front ++ 10 ∷ rest) ≡ length front + 1 + length rest = omega (arith, length-append front (10 ∷ rest)) in
    ap (λ (n : ℕ). by_pieces most (nat_lt (length front + 1 + room) n) number (pieces (take (length front + 1 + room) (front ++ 10 ∷ rest)))) size
    ∙ (ap (λ (b : Bool). by_pieces most b number (pieces (take (length front + 1 + room) (front ++ 10 ∷ rest)))) (over_more (length front + 1) room (length rest))
    ∙ ap (λ (p : Pieces). by_pieces most (nat_lt room (length rest)) number p)
    (ap pieces (take_feed front rest room) ∙ pieces_feed front (take room rest) plain))

-- more bytes without a line feed than there is room for
pub too_much : (most room number : ℕ) (bytes : List ℕ) → has_feed (take room bytes) ≡ false → room < length bytes → steps_from most room number bytes ≡ TooMuch number ∷ []
too_much most room number bytes plain over =
    ap (λ (b : Bool). by_pieces most b number (pieces (take room bytes))) (lt-ltb room (length bytes) over)
    ∙ ap (λ (p : Pieces). by_pieces most true number p) (pieces_plain (take room bytes) plain)

-- the bytes end without a line feed
pub last_bytes : (most room number : ℕ) (bytes : List ℕ) → has_feed bytes ≡ false → length bytes ≤ room → steps_from most room number bytes ≡ last_step most false number bytes
last_bytes most room number bytes plain within =
    ap (λ (b : Bool). by_pieces most b number (pieces (take room bytes))) (le-ltb room (length bytes) within)
    ∙ (ap (λ (l : List ℕ). by_pieces most false number (pieces l)) (take_all room bytes within)
    ∙ ap (λ (p : Pieces). by_pieces most false number p) (pieces_plain bytes plain))
