-- Where and why the reading of a scalar stops over the lines of its block, by cases.
use Rattle.std.specs.Prelude.{◌≡◌, ℕ, true, false, not, ◌||◌, nat_lt, if◌then◌else◌, ◌⊎◌, List, [], ◌∷◌, drop, is_some, Ok}
use Rattle.yaml_inline.specs.File.{Line, is_empty, begins, ends_line}
use Rattle.yaml_inline.specs.Line.{spot, Stop, refused, syntax, indent, body, is_comment, bad_start, unexpected, plain_rest}
use Rattle.yaml_inline.specs.Scalar.{Chomping}
use Rattle.yaml_blocks.specs.Blocks.{skip_comments, empty_line, comment_line, text_line, last_line, continuation, digit_first, header_of, scalar_lines}

-- Nothing more may stand in the block.
abbrev pub StopsBehind : List Line → Stop → Type 0
StopsBehind ls s = (first : Line) × (more : List Line) × (skip_comments ls ≡ first ∷ more) × (s ≡ unexpected first)

-- A value is to end its line and its block.
abbrev pub StopsAlone : Line → List ℕ → List Line → Stop → Type 0
StopsAlone l rest ls s =
    ((ends_line rest ≡ false) × (s ≡ syntax l))
    ⊎ ((ends_line rest ≡ true) × StopsBehind ls s)

-- ---- plain scalars

-- A line that carries something is to be a continuation line: indented at least m, and without a colon before a blank or the end.
abbrev pub StopsContinuation : ℕ → Line → Stop → Type 0
StopsContinuation m l s =
    ((is_comment l ≡ false) × (is_some (bad_start l) ≡ true) × (s ≡ unexpected l))
    ⊎ ((is_comment l ≡ false) × (is_some (bad_start l) ≡ false) × (nat_lt (indent l) m || not (ends_line (plain_rest false (body l))) ≡ true) × (s ≡ syntax l))

-- The first lines are continuation lines, and the next one stops; or a comment ends the scalar, and something stands behind it.
abbrev pub StopsPlainLines : ℕ → List Line → Stop → Type 0
StopsPlainLines m [] s = ⊥
StopsPlainLines m (l ∷ ls) s =
    StopsContinuation m l s
    ⊎ (((continuation m l ≡ Ok empty_line) ⊎ ((t : List ℕ) × (continuation m l ≡ Ok (text_line t)))) × StopsPlainLines m ls s)
    ⊎ (((continuation m l ≡ Ok comment_line) ⊎ ((t : List ℕ) × (continuation m l ≡ Ok (last_line t)))) × StopsBehind ls s)

abbrev pub StopsPlain : ℕ → Line → List ℕ → List Line → Stop → Type 0
StopsPlain m l cs ls s =
    ((is_empty (plain_rest false cs) ≡ true) × StopsPlainLines m ls s)
    ⊎ ((is_empty (plain_rest false cs) ≡ false) × StopsAlone l (plain_rest false cs) ls s)

-- ---- block scalars

-- what follows the chomping indicator of a block scalar's header
abbrev pub behind_chomping : List ℕ → List ℕ
behind_chomping cs = if begins 45 cs || begins 43 cs then drop 1 cs else cs

-- The rest of a block scalar's header is asked for, which has no digit.
abbrev pub StopsHeader : Line → List ℕ → Stop → Type 0
StopsHeader l cs s =
    ((digit_first (behind_chomping cs) ≡ true) × (s ≡ refused 3 (spot l (behind_chomping cs))))
    ⊎ ((digit_first (behind_chomping cs) ≡ false) × (ends_line (behind_chomping cs) ≡ false) × (s ≡ syntax l))

abbrev pub StopsBlockScalar : ℕ → Line → List ℕ → List Line → Stop → Type 0
StopsBlockScalar m l cs ls s =
    StopsHeader l (drop 1 cs) s
    ⊎ ((e : Chomping) × (header_of l (drop 1 cs) ≡ Ok e) × StopsBehind (scalar_lines m ls).1 s)
