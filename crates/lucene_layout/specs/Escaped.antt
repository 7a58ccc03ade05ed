-- How a pattern or a name is written as a run: with a backslash before each character that means more than itself, and one
-- before a run that would be a word (Lucene's classic query syntax, escaping special characters).
use Rattle.std.specs.Prelude.{ℕ, ℤ, Bool, true, false, ◌||◌, ◌==◌, if◌then◌else◌, List, [], ◌∷◌, map, codes, Option, Some, None, ⊤}
use Rattle.std.specs.Fmt.{signed_decimal}
use Rattle.std.specs.Str.{bytes_eq}
use Rattle.lucene_lang.specs.declared.query.Glyph.{Glyph}
use Rattle.lucene_lang.specs.declared.query.Glyph.TheVariants.{Char, One, Run}
use Rattle.lucene_lang.specs.declared.written.Written.{Written}
use Rattle.lucene_lang.specs.declared.written.Written.TheVariants.{Bare, Escaped}
use Rattle.lucene_lang.specs.Tokens.{Sort, Joins, Not, Star, Wild, To, Decimal, character, run_sort, is_blank}
use Rattle.event_schema.specs.Events.{IsWholeNumber}
use Rattle.lucene_lang.specs.Grammar.{Name, to, decimal, plain, Term, star, wild, exact, End, unbounded, bound}

-- + - & | ! ( ) { } [ ] ^ " ~ * ? : \ / and the characters that separate
abbrev pub is_special : ℕ → Bool
is_special c =
    c == 43 || c == 45 || c == 38 || c == 124 || c == 33 || c == 40 || c == 41 || c == 123 || c == 125 || c == 91 || c == 93
    || c == 94 || c == 34 || c == 126 || c == 42 || c == 63 || c == 58 || c == 92 || c == 47 || is_blank c

abbrev pub char_written : ℕ → Written
char_written c = if is_special c then Escaped c else Bare c

-- ? and * stand as they are
abbrev pub glyph_written : Glyph → Written
glyph_written (Char c) = char_written c
glyph_written One = Bare 63
glyph_written Run = Bare 42

-- a run that is AND, OR or NOT
abbrev pub is_word : Sort → Bool
is_word (Joins w) = true
is_word Not = true
is_word s = false

abbrev pub escape_first : List Written → List Written
escape_first [] = []
escape_first (x ∷ w) = Escaped (character x) ∷ w

abbrev pub no_word : List Written → List Written
no_word w = if is_word (run_sort w) then escape_first w else w

-- how a pattern is written, and how the characters of a name are
unfoldable pub pattern_written : List Glyph → List Written
pattern_written gs = no_word (map glyph_written gs)

abbrev pub as_char : ℕ → Glyph
as_char c = Char c

abbrev pub name_written : List ℕ → List Written
name_written cs = pattern_written (map as_char cs)

-- what a run that is no word is as a term, and one without a wildcard as a name
abbrev pub term_as : Sort → List Written → Term
term_as Star w = star
term_as (Wild v) w = wild v
term_as To w = exact to
term_as (Decimal v) w = exact (decimal v)
term_as s w = exact (plain w)

abbrev pub name_as : Sort → List Written → Name
name_as To w = to
name_as (Decimal v) w = decimal v
name_as s w = plain w

-- the term of a pattern, and a field's name
unfoldable pub term_for : List Glyph → Term
term_for gs = term_as (run_sort (pattern_written gs)) (pattern_written gs)

unfoldable pub name_for : List ℕ → Name
name_for cs = name_as (run_sort (name_written cs)) (name_written cs)

-- an end of a range: a number's decimal, or open; a number is one of 64 bits with a sign, but for the least
abbrev pub end_for : Option ℤ → End
end_for None = unbounded
end_for (Some z) = bound (signed_decimal z)

abbrev pub IsEnd : Option ℤ → Type 0
IsEnd None = ⊤
IsEnd (Some z) = IsWholeNumber z

-- the characters that a pattern names
abbrev pub characters : List Glyph → List ℕ
characters [] = []
characters (Char c ∷ gs) = c ∷ characters gs
characters (One ∷ gs) = characters gs
characters (Run ∷ gs) = characters gs

-- ---- the same of texts: AND, OR and NOT get a backslash in front

abbrev pub is_word_text : List ℕ → Bool
is_word_text t = bytes_eq t (codes "AND") || (bytes_eq t (codes "OR") || bytes_eq t (codes "NOT"))

abbrev pub word_escaped : List ℕ → List ℕ
word_escaped t = if is_word_text t then 92 ∷ t else t
