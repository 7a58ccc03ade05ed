-- Lines of small inputs, reckoned by hand: the most bytes of a line, the most bytes in all, the input, and its lines.
use Rattle.std.proofs.Common.{◌≡◌, ℕ, List, [], ◌∷◌, map, refl}
use Rattle.event_lines.specs.Lines.{steps_from}
use Rattle.sig_base.specs.declared.faults.LineStep.{LineStep}
use Rattle.sig_base.specs.declared.faults.LineStep.TheVariants.{Line, TooLong, TooMuch}

abbrev Row : Type 0
Row = ℕ × ℕ × List ℕ × List LineStep

rows : List Row
rows =
    (8, 100, [], []) ∷
    (8, 100, (10 ∷ []), Line 1 [] ∷ []) ∷
    (8, 100, (97 ∷ 98 ∷ 10 ∷ 10 ∷ 99 ∷ 100 ∷ 101 ∷ []), Line 1 (97 ∷ 98 ∷ []) ∷ Line 2 [] ∷ Line 3 (99 ∷ 100 ∷ 101 ∷ []) ∷ []) ∷
    (8, 100, (97 ∷ 98 ∷ 10 ∷ 99 ∷ 100 ∷ 101 ∷ 10 ∷ []), Line 1 (97 ∷ 98 ∷ []) ∷ Line 2 (99 ∷ 100 ∷ 101 ∷ []) ∷ []) ∷
    (8, 100, (97 ∷ 13 ∷ 10 ∷ 13 ∷ 10 ∷ []), Line 1 (97 ∷ 13 ∷ []) ∷ Line 2 (13 ∷ []) ∷ []) ∷
    (4, 100, (49 ∷ 50 ∷ 51 ∷ 52 ∷ 10 ∷ 49 ∷ 50 ∷ 51 ∷ 52 ∷ 53 ∷ 10 ∷ 49 ∷ []), Line 1 (49 ∷ 50 ∷ 51 ∷ 52 ∷ []) ∷ TooLong 2 ∷ Line 3 (49 ∷ []) ∷ []) ∷
    (4, 100, (49 ∷ 50 ∷ 51 ∷ 52 ∷ 53 ∷ []), TooLong 1 ∷ []) ∷
    (4, 100, (49 ∷ 50 ∷ 51 ∷ 52 ∷ []), Line 1 (49 ∷ 50 ∷ 51 ∷ 52 ∷ []) ∷ []) ∷
    (8, 6, (97 ∷ 98 ∷ 10 ∷ 99 ∷ 100 ∷ 10 ∷ []), Line 1 (97 ∷ 98 ∷ []) ∷ Line 2 (99 ∷ 100 ∷ []) ∷ []) ∷
    (8, 6, (97 ∷ 98 ∷ 10 ∷ 99 ∷ 100 ∷ 10 ∷ 10 ∷ []), Line 1 (97 ∷ 98 ∷ []) ∷ Line 2 (99 ∷ 100 ∷ []) ∷ TooMuch 3 ∷ []) ∷
    (8, 5, (97 ∷ 98 ∷ 10 ∷ 99 ∷ 100 ∷ 10 ∷ []), Line 1 (97 ∷ 98 ∷ []) ∷ TooMuch 2 ∷ []) ∷
    (2, 5, (97 ∷ 98 ∷ 10 ∷ 99 ∷ 100 ∷ 101 ∷ 102 ∷ 103 ∷ 104 ∷ []), Line 1 (97 ∷ 98 ∷ []) ∷ TooMuch 2 ∷ []) ∷
    (8, 5, (97 ∷ 98 ∷ 10 ∷ 99 ∷ 100 ∷ []), Line 1 (97 ∷ 98 ∷ []) ∷ Line 2 (99 ∷ 100 ∷ []) ∷ []) ∷
    (8, 2, (97 ∷ 98 ∷ 99 ∷ []), TooMuch 1 ∷ []) ∷
    (2, 4, (97 ∷ 98 ∷ 99 ∷ 10 ∷ []), TooLong 1 ∷ []) ∷
    (8, 1, (10 ∷ 10 ∷ []), Line 1 [] ∷ TooMuch 2 ∷ []) ∷
    []

-- what is given is what comes
lines_are : map (λ (row : Row). steps_from row.0 row.1 1 row.2) rows ≡ map (λ (row : Row). row.3) rows
unfolding rows
lines_are = refl
