-- Blocks of lines: how they divide, keys, and the scalars that go on over lines.
use Rattle.std.specs.Prelude.{ℕ, suc, Bool, true, false, not, ◌&&◌, ◌||◌, ◌==◌, nat_lt, nat_le, if◌then◌else◌, List, [], ◌∷◌, ◌++◌, drop, map as list_map, Option, Some, None, is_some, Ok, Err}
use Rattle.sig_base.specs.Digits.{is_digit}
use Rattle.yaml_inline.specs.File.{Line, is_empty, begins, ends_line}
use Rattle.yaml_inline.specs.Line.{spot, refused, syntax, Read, ◌>>=◌, indent, body, is_comment, is_empty_line, bad_start, unexpected, plain_front, plain_rest, is_dash}
use Rattle.yaml_inline.specs.Scalar.{Chomping, clip, strip, keep, block_text, plain_joint}

-- the lines at the front that pass a test, and the lines behind them
abbrev pub front_while : (Line → Bool) → List Line → List Line
front_while p [] = []
front_while p (l ∷ ls) = if p l then l ∷ front_while p ls else []

abbrev pub rest_while : (Line → Bool) → List Line → List Line
rest_while p [] = []
rest_while p (l ∷ ls) = if p l then rest_while p ls else l ∷ ls

-- the lines from the first that carries something on
abbrev pub skip_comments : List Line → List Line
skip_comments ls = rest_while is_comment ls

-- nothing more may stand in the block
abbrev pub nothing_from : List Line → Read (Unit {0})
nothing_from [] = Ok tt
nothing_from (l ∷ ls) = Err (unexpected l)

unfoldable pub nothing_in : List Line → Read (Unit {0})
nothing_in ls = nothing_from (skip_comments ls)

-- ---- a block is divided at the lines of its own indentation

-- a line and the lines inside it
pub record Part : Type 0 where
  pub head : Line
  pub inner : List Line

pub record Parts : Type 0 where
  pub lead : List Line
  pub parts : List Part

abbrev pub put_line : Bool → Line → Parts → Parts
put_line true l p = record { lead = l ∷ p.lead; parts = p.parts }
put_line false l p = record { lead = []; parts = record { head = l; inner = p.lead } ∷ p.parts }

-- Lines belong to what stands above them at the indentation where they carry nothing or stand deeper; in a map also where a dash stands there.
abbrev pub inside : Bool → ℕ → Line → Bool
inside in_map j l = is_comment l || nat_lt j (indent l) || (in_map && (indent l == j && is_dash (body l)))

abbrev pub divide : Bool → ℕ → List Line → Parts
divide in_map j [] = record { lead = []; parts = [] }
divide in_map j (l ∷ ls) = put_line (inside in_map j l) l (divide in_map j ls)

-- ---- plain scalars over several lines

-- a value ends its line, and its block
abbrev pub alone : {A : Type 0} → Line → List ℕ → List Line → A → Read A
alone l rest ls x = if ends_line rest then nothing_in ls >>= (λ u. Ok x) else Err (syntax l)

-- a line behind a plain scalar: empty, a comment, text, or text that a comment ends
pub data Continuation : Type 0 where
  empty_line : Continuation
  comment_line : Continuation
  text_line : List ℕ → Continuation
  last_line : List ℕ → Continuation

-- What a line is that is to be indented at least m. A colon before a blank or the end may not stand there.
unfoldable pub continuation : ℕ → Line → Read Continuation
continuation m l =
    if is_empty_line l then Ok empty_line
    else if is_comment l then Ok comment_line
    else if is_some (bad_start l) then Err (unexpected l)
    else if nat_lt (indent l) m || not (ends_line (plain_rest false (body l))) then Err (syntax l)
    else if is_empty (plain_rest false (body l)) then Ok (text_line (plain_front false (body l)))
    else Ok (last_line (plain_front false (body l)))

-- What a line adds behind n empty ones, where the lines behind it add so much, behind it or behind one more
-- empty line, or where nothing may stand behind it.
abbrev pub add_line : ℕ → Continuation → Read (List ℕ) → Read (List ℕ) → Read (Unit {0}) → Read (List ℕ)
add_line n empty_line behind_empty behind ended = behind_empty
add_line n comment_line behind_empty behind ended = ended >>= (λ u. Ok [])
add_line n (text_line t) behind_empty behind ended = behind >>= (λ more. Ok (plain_joint n ++ t ++ more))
add_line n (last_line t) behind_empty behind ended = ended >>= (λ u. Ok (plain_joint n ++ t))

-- What the lines of a block add to a plain scalar, behind n empty lines. They are indented at least m.
unfoldable pub more_plain : ℕ → ℕ → List Line → Read (List ℕ)
more_plain m n [] = Ok []
more_plain m n (l ∷ ls) = continuation m l >>= (λ f. add_line n f (more_plain m (suc n) ls) (more_plain m 0 ls) (nothing_in ls))

-- the text of a plain scalar that begins here
unfoldable pub plain_text : ℕ → Line → List ℕ → List Line → Read (List ℕ)
plain_text m l cs ls =
    if is_empty (plain_rest false cs) then more_plain m 0 ls >>= (λ more. Ok (plain_front false cs ++ more))
    else alone l (plain_rest false cs) ls (plain_front false cs)

-- ---- block scalars

abbrev pub digit_first : List ℕ → Bool
digit_first [] = false
digit_first (c ∷ cs) = is_digit c

-- what the head of a block scalar asks for
abbrev pub header_end : Line → Chomping → List ℕ → Read Chomping
header_end l e cs =
    if digit_first cs then Err (refused 3 (spot l cs))
    else if ends_line cs then Ok e
    else Err (syntax l)

abbrev pub header_of : Line → List ℕ → Read Chomping
header_of l cs =
    if begins 45 cs then header_end l strip (drop 1 cs)
    else if begins 43 cs then header_end l keep (drop 1 cs)
    else header_end l clip cs

-- the indentation of the first of these lines
abbrev pub first_indent : List Line → Option ℕ
first_indent [] = None
first_indent (l ∷ ls) = Some (indent l)

-- the lines that are blank or indented so far
abbrev pub is_content : ℕ → Line → Bool
is_content i l = is_empty_line l || nat_le i (indent l)

-- a line of the scalar without its indentation
abbrev pub content : ℕ → Line → List ℕ
content i l = if nat_lt (indent l) i then [] else drop i l.text

-- The text lines of a block scalar, and the lines behind it. Its indentation is that of the first line that isn't
-- blank. Empty lines at the front are empty whatever spaces they hold. A scalar without content has these alone.
abbrev pub lines_at : ℕ → Option ℕ → List Line → List Line → List (List ℕ) × List Line
lines_at m None front rest = (list_map (λ l. []) front, rest)
lines_at m (Some i) front rest =
    if nat_lt i m then (list_map (λ l. []) front, rest)
    else (list_map (λ l. []) front ++ list_map (content i) (front_while (is_content i) rest), rest_while (is_content i) rest)

unfoldable pub scalar_lines : ℕ → List Line → List (List ℕ) × List Line
scalar_lines m ls = lines_at m (first_indent (rest_while is_empty_line ls)) (front_while is_empty_line ls) (rest_while is_empty_line ls)

unfoldable pub block_scalar : ℕ → Line → List ℕ → List Line → Read (List ℕ)
block_scalar m l cs ls =
    header_of l (drop 1 cs) >>= (λ e.
    nothing_in (scalar_lines m ls).1 >>= (λ u.
    Ok (block_text (begins 62 cs) e (scalar_lines m ls).0)))
