-- The tokens of a query's text, from the left, with their places. Words, names in double quotes, texts in single
-- quotes and signs are SQLite's (its pages on keywords and on expressions).
use Rattle.std.specs.Prelude.{ℕ, zero, suc, ◌+◌, ◌-◌, ◌^◌, Bool, false, ◌&&◌, ◌||◌, ◌==◌, nat_lt, if◌then◌else◌, List, [], ◌∷◌, ◌++◌, codes, Option, Some, None, ℤ, pos, negsuc}
use Rattle.std.specs.Char.{is_ascii_alphanumeric}
use Rattle.std.specs.List.{list_all}
use Rattle.std.specs.Str.{bytes_eq}
use Rattle.sig_base.specs.Digits.{is_digit, unsigned, digits_from}
use Rattle.sig_base.specs.Folding.{folded}
use Rattle.query_tokens.specs.Places.{At, origin, after}
use Rattle.query_tokens.specs.Tokens as texts

pub data Keyword : Type 0 where
  SELECT : Keyword
  FROM : Keyword
  WHERE : Keyword
  OR : Keyword
  AND : Keyword
  NOT : Keyword
  IS : Keyword
  NULL : Keyword
  LIKE : Keyword
  ESCAPE : Keyword
  GLOB : Keyword
  REGEXP : Keyword
  IN : Keyword
  BETWEEN : Keyword
  COLLATE : Keyword
  NOCASE : Keyword
  BINARY : Keyword

-- = and ==, <> and !=, <, <=, > and >=
pub data Op : Type 0 where
  Eq : Op
  Ne : Op
  Lt : Op
  Lte : Op
  Gt : Op
  Gte : Op

-- What a token is, wherever it stands. A name and a text are what their quotes hold, with a doubled quote for one; a
-- number has its characters as written. `Unclosed` is a quote that isn't closed with all that follows it, and `Other`
-- is none of these: no token of the language.
pub data Sort : Type 0 where
  Word : Keyword → Sort
  Name : List ℕ → Sort
  Text : List ℕ → Sort
  Number : List ℕ → Sort
  Opening : Sort
  Closing : Sort
  Comma : Sort
  Star : Sort
  Semicolon : Sort
  Compares : Op → Sort
  Unclosed : Sort
  Other : Sort

abbrev pub Token : Type 0
Token = texts.Token Sort

-- ---- words, numbers and texts

abbrev pub keywords : List (List ℕ × Keyword)
keywords =
    (codes "select", SELECT) ∷ (codes "from", FROM) ∷ (codes "where", WHERE) ∷ (codes "or", OR) ∷ (codes "and", AND)
    ∷ (codes "not", NOT) ∷ (codes "is", IS) ∷ (codes "null", NULL) ∷ (codes "like", LIKE) ∷ (codes "escape", ESCAPE)
    ∷ (codes "glob", GLOB) ∷ (codes "regexp", REGEXP) ∷ (codes "in", IN) ∷ (codes "between", BETWEEN)
    ∷ (codes "collate", COLLATE) ∷ (codes "nocase", NOCASE) ∷ (codes "binary", BINARY) ∷ []

-- the keyword of this word in a table
abbrev pub keyword_in : List (List ℕ × Keyword) → List ℕ → Option Keyword
keyword_in [] w = None
keyword_in (row ∷ rows) w = if bytes_eq w row.0 then Some row.1 else keyword_in rows w

-- at least one digit, and nothing else
abbrev pub are_digits : List ℕ → Bool
are_digits [] = false
are_digits (c ∷ cs) = list_all is_digit (c ∷ cs)

-- digits with an optional minus, from -(2^63 - 1) to 2^63 - 1
unfoldable pub is_number : List ℕ → Bool
is_number w = are_digits (unsigned w) && nat_lt (digits_from 0 (unsigned w)) (2 ^ 63)

abbrev pub negative : ℕ → ℤ
negative zero = pos 0
negative (suc n) = negsuc n

-- the number that is written so
abbrev pub number_of : List ℕ → ℤ
number_of [] = pos 0
number_of (c ∷ cs) = if c == 45 then negative (digits_from 0 cs) else pos (digits_from 0 (c ∷ cs))

abbrev pub word_or : Sort → Option Keyword → Sort
word_or s None = s
word_or s (Some k) = Word k

-- a run of letters, digits and _, with a minus before it or not
unfoldable pub run_sort : List ℕ → Sort
run_sort w = if is_number w then Number w else word_or Other (keyword_in keywords (folded w))

-- no character is U+0000
abbrev pub is_plain : List ℕ → Bool
is_plain w = list_all (λ c. nat_lt 0 c) w

-- a text with U+0000 isn't a token
unfoldable pub text_sort : List ℕ → Sort
text_sort w = if is_plain w then Text w else Other

-- names stand in double quotes, texts in single ones
abbrev pub quoted_sort : ℕ → List ℕ → Sort
quoted_sort quote w = if quote == 34 then Name w else text_sort w

-- ---- characters

-- space, tab, line feed, carriage return and form feed
abbrev pub is_blank : ℕ → Bool
is_blank c = c == 32 || c == 9 || c == 10 || c == 13 || c == 12

abbrev pub is_run_char : ℕ → Bool
is_run_char c = is_ascii_alphanumeric c || c == 95

-- the sign of one character
abbrev pub sign_of : ℕ → Sort
sign_of c =
    if c == 40 then Opening else if c == 41 then Closing else if c == 44 then Comma else if c == 42 then Star
    else if c == 59 then Semicolon else if c == 61 then Compares Eq else if c == 60 then Compares Lt
    else if c == 62 then Compares Gt else Other

-- = < > and !, with which a sign of two characters may begin
abbrev pub begins_sign : ℕ → Bool
begins_sign c = c == 61 || c == 60 || c == 62 || c == 33

-- the sign of two characters, of which the first is one of those: == != <= >= and <>
abbrev pub long_sign : ℕ → ℕ → Option Op
long_sign c d =
    if d == 61 then (if c == 61 then Some Eq else if c == 33 then Some Ne else if c == 60 then Some Lte else Some Gte)
    else if c == 60 && d == 62 then Some Ne
    else None

-- ---- the scanner

-- what was read of a token so far, and the place where it began
pub data Mode : Type 0 where
  Outside : Mode
  Whole : Sort → At → Mode
  InRun : List ℕ → At → Mode
  InQuotes : (quote : ℕ) → List ℕ → At → Mode
  AfterQuotes : (quote : ℕ) → List ℕ → At → Mode
  InSign : ℕ → At → Mode

-- after a character, at this place, that no token goes on with
abbrev pub start : At → ℕ → Mode
start p c =
    if is_blank c then Outside
    else if c == 34 || c == 39 then InQuotes c [] p
    else if is_run_char c || c == 45 then InRun (c ∷ []) p
    else if begins_sign c then InSign c p
    else Whole (sign_of c) p

abbrev pub token : Sort → At → Token
token s p = record { sort = s; place = p }

-- what a character makes of a mode: the token that ends before it or with it, if one does, and the mode behind it
pub record Turn : Type 0 where
  pub ended : List Token
  pub mode : Mode

abbrev pub goes_on : Mode → Turn
goes_on m = record { ended = []; mode = m }

abbrev pub ends : Sort → At → Mode → Turn
ends s q m = record { ended = token s q ∷ []; mode = m }

abbrev pub sign_turn : Option Op → ℕ → At → Mode → Turn
sign_turn (Some op) c q m = ends (Compares op) q Outside
sign_turn None c q m = ends (sign_of c) q m

-- A character at this place, after what was read. A quote inside quotes is doubled; of the signs the longest is taken.
abbrev pub turn : Mode → At → ℕ → Turn
turn Outside p c = goes_on (start p c)
turn (Whole s q) p c = ends s q (start p c)
turn (InRun w q) p c = if is_run_char c then goes_on (InRun (w ++ c ∷ []) q) else ends (run_sort w) q (start p c)
turn (InQuotes quote w q) p c = if c == quote then goes_on (AfterQuotes quote w q) else goes_on (InQuotes quote (w ++ c ∷ []) q)
turn (AfterQuotes quote w q) p c =
    if c == quote then goes_on (InQuotes quote (w ++ quote ∷ []) q) else ends (quoted_sort quote w) q (start p c)
turn (InSign s q) p c = sign_turn (long_sign s c) s q (start p c)

-- the token that ends with the text
abbrev pub last : Mode → List Token
last Outside = []
last (Whole s q) = token s q ∷ []
last (InRun w q) = token (run_sort w) q ∷ []
last (InQuotes quote w q) = token Unclosed q ∷ []
last (AfterQuotes quote w q) = token (quoted_sort quote w) q ∷ []
last (InSign s q) = token (sign_of s) q ∷ []

-- the tokens of these characters, of which the first stands at this place
unfoldable pub scan : Mode → At → List ℕ → List Token
scan m p [] = last m
scan m p (c ∷ cs) = (turn m p c).ended ++ scan (turn m p c).mode (after p c) cs

unfoldable pub tokens : List ℕ → List Token
tokens cs = scan Outside origin cs
