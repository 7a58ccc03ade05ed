-- The tokens of a query's text, from the left, with their places: signs, phrases and runs of Lucene's classic query syntax.
use Rattle.std.specs.Prelude.{ℕ, Bool, true, false, ◌&&◌, ◌||◌, ◌==◌, if◌then◌else◌, nat_le, List, [], ◌∷◌, ◌++◌, map, codes, Option, Some, None}
use Rattle.std.specs.List.{list_all, list_any}
use Rattle.std.specs.Str.{bytes_eq}
use Rattle.sig_base.specs.Digits.{is_positive, unsigned}
use Rattle.query_tokens.specs.Places.{At, origin, after}
use Rattle.query_tokens.specs.Tokens as texts
use Rattle.lucene_lang.specs.declared.query.Word.{Word}
use Rattle.lucene_lang.specs.declared.query.Word.TheVariants.{And, Or}
use Rattle.lucene_lang.specs.declared.written.Written.{Written}
use Rattle.lucene_lang.specs.declared.written.Written.TheVariants.{Bare, Escaped}

-- What a token is, wherever it stands. A run is a word, `*` alone, another run with a wildcard, `TO`, a decimal without a
-- backslash, or any other. A bracket of a range has a flag: it's square, so its end is inside. `Unclosed` is a quote that
-- isn't closed with all that follows it, or a backslash at the end of the text: no query has it.
pub data Sort : Type 0 where
  Joins : Word → Sort
  Not : Sort
  Star : Sort
  Wild : List Written → Sort
  To : Sort
  Decimal : List ℕ → Sort
  Plain : List Written → Sort
  Phrase : List Written → Sort
  Opening : Sort
  Closing : Sort
  Opens : Bool → Sort
  Closes : Bool → Sort
  Colon : Sort
  Unclosed : Sort

abbrev pub Token : Type 0
Token = texts.Token Sort

-- ---- runs

abbrev pub character : Written → ℕ
character (Bare c) = c
character (Escaped c) = c

abbrev pub is_bare : Written → Bool
is_bare (Bare c) = true
is_bare (Escaped c) = false

-- * or ? without a backslash
abbrev pub is_wildcard : Written → Bool
is_wildcard (Bare c) = c == 42 || c == 63
is_wildcard (Escaped c) = false

-- a canonical decimal: 0, or an optional minus, a digit 1 to 9 and any digits
unfoldable pub is_decimal : List ℕ → Bool
is_decimal w = bytes_eq w (codes "0") || is_positive (unsigned w)

-- a run with a wildcard, or one without
abbrev pub other_sort : List Written → Sort
other_sort w = if list_any is_wildcard w then Wild w else Plain w

-- a run that is written in these characters, without a backslash
abbrev pub bare_sort : List ℕ → List Written → Sort
bare_sort cs w =
    if bytes_eq cs (codes "AND") then Joins And
    else if bytes_eq cs (codes "OR") then Joins Or
    else if bytes_eq cs (codes "NOT") then Not
    else if bytes_eq cs (codes "*") then Star
    else if bytes_eq cs (codes "TO") then To
    else if is_decimal cs then Decimal cs
    else other_sort w

unfoldable pub run_sort : List Written → Sort
run_sort w = if list_all is_bare w then bare_sort (map character w) w else other_sort w

-- ---- characters

-- space, tab, line feed, carriage return and the ideographic space separate
abbrev pub is_blank : ℕ → Bool
is_blank c = c == 32 || c == 9 || c == 10 || c == 13 || c == 0x3000

-- the sign that a character is
abbrev pub sign_of : ℕ → Option Sort
sign_of c =
    if c == 40 then Some Opening else if c == 41 then Some Closing
    else if c == 91 then Some (Opens true) else if c == 93 then Some (Closes true)
    else if c == 123 then Some (Opens false) else if c == 125 then Some (Closes false)
    else if c == 58 then Some Colon else None

abbrev pub is_sign : Option Sort → Bool
is_sign None = false
is_sign (Some s) = true

-- a character that ends a run: one that separates, the quote, or a sign
abbrev pub ends_run : ℕ → Bool
ends_run c = is_blank c || c == 34 || is_sign (sign_of c)

-- ---- the scanner

-- what was read of a token so far, the place where it began, and that of a backslash directly before
pub data Mode : Type 0 where
  Outside : Mode
  InRun : List Written → At → Mode
  BehindBackslash : List Written → At → (backslash : At) → Mode
  InPhrase : List Written → At → Mode
  EscapedInPhrase : List Written → At → Mode

abbrev pub token : Sort → At → Token
token s p = record { sort = s; place = p }

-- what a character makes of a mode: the tokens that end before it or with it, and the mode behind it
pub record Turn : Type 0 where
  pub ended : List Token
  pub mode : Mode

abbrev pub goes_on : Mode → Turn
goes_on m = record { ended = []; mode = m }

abbrev pub on_sign : Option Sort → At → ℕ → Turn
on_sign (Some s) p c = record { ended = token s p ∷ []; mode = Outside }
on_sign None p c = goes_on (InRun (Bare c ∷ []) p)

-- a character, at this place, that no token goes on with
abbrev pub start : At → ℕ → Turn
start p c =
    if is_blank c then goes_on Outside
    else if c == 34 then goes_on (InPhrase [] p)
    else if c == 92 then goes_on (BehindBackslash [] p p)
    else on_sign (sign_of c) p c

abbrev pub behind : Token → Turn → Turn
behind t turn = record { ended = t ∷ turn.ended; mode = turn.mode }

-- A character at this place, after what was read. A backslash always stands together with the next character.
abbrev pub turn : Mode → At → ℕ → Turn
turn Outside p c = start p c
turn (InRun w q) p c =
    if ends_run c then behind (token (run_sort w) q) (start p c)
    else if c == 92 then goes_on (BehindBackslash w q p)
    else goes_on (InRun (w ++ Bare c ∷ []) q)
turn (BehindBackslash w q b) p c = goes_on (InRun (w ++ Escaped c ∷ []) q)
turn (InPhrase w q) p c =
    if c == 34 then record { ended = token (Phrase w) q ∷ []; mode = Outside }
    else if c == 92 then goes_on (EscapedInPhrase w q)
    else goes_on (InPhrase (w ++ Bare c ∷ []) q)
turn (EscapedInPhrase w q) p c = goes_on (InPhrase (w ++ Escaped c ∷ []) q)

-- a run that a backslash at the end of the text cuts off
abbrev pub cut_run : List Written → At → List Token
cut_run [] q = []
cut_run (x ∷ w) q = token (run_sort (x ∷ w)) q ∷ []

-- the tokens that end with the text
abbrev pub last : Mode → List Token
last Outside = []
last (InRun w q) = token (run_sort w) q ∷ []
last (BehindBackslash w q b) = cut_run w q ++ token Unclosed b ∷ []
last (InPhrase w q) = token Unclosed q ∷ []
last (EscapedInPhrase w q) = token Unclosed q ∷ []

-- the tokens of these characters, of which the first stands at this place
unfoldable pub scan : Mode → At → List ℕ → List Token
scan m p [] = last m
scan m p (c ∷ cs) = (turn m p c).ended ++ scan (turn m p c).mode (after p c) cs

unfoldable pub tokens : List ℕ → List Token
tokens cs = scan Outside origin cs
