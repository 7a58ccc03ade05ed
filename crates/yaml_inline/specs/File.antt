-- A file as documents of lines (YAML 1.2, 5.4 on line breaks, 9.1 on documents).
use Rattle.std.specs.Prelude.{ℕ, suc, Bool, true, false, not, ◌&&◌, ◌||◌, ◌==◌, nat_lt, if◌then◌else◌, List, [], ◌∷◌, drop}
use Rattle.std.specs.List.{prefix_len, list_any}

-- a line of a file, without its end
pub record Line : Type 0 where
  pub number : ℕ
  pub text : List ℕ

-- a blank: a space or a tab
abbrev pub is_blank : ℕ → Bool
is_blank c = c == 32 || c == 9

abbrev pub is_space : ℕ → Bool
is_space c = c == 32

abbrev pub is_empty : List ℕ → Bool
is_empty [] = true
is_empty (c ∷ cs) = false

-- the text begins with this character
abbrev pub begins : ℕ → List ℕ → Bool
begins c [] = false
begins c (d ∷ ds) = d == c

-- the text begins with a blank, or is over
abbrev pub blank_or_end : List ℕ → Bool
blank_or_end [] = true
blank_or_end (c ∷ cs) = is_blank c

unfoldable pub skip_blanks : List ℕ → List ℕ
skip_blanks cs = drop (prefix_len is_blank cs) cs

-- nothing but blanks, or a comment behind them
unfoldable pub carries_nothing : List ℕ → Bool
carries_nothing cs = is_empty (skip_blanks cs) || begins 35 (skip_blanks cs)

-- after a value: nothing, or blanks and perhaps a comment
unfoldable pub ends_line : List ℕ → Bool
ends_line cs = blank_or_end cs && carries_nothing cs

-- ---- lines

abbrev pub put_first : ℕ → List (List ℕ) → List (List ℕ)
put_first c [] = (c ∷ []) ∷ []
put_first c (l ∷ ls) = (c ∷ l) ∷ ls

-- A line ends with a line feed, or with a carriage return and a line feed (YAML 1.2, 5.4); the last one also
-- where the text ends.
unfoldable pub line_texts : List ℕ → List (List ℕ)
line_texts [] = []
line_texts (c ∷ cs) =
    if c == 10 then [] ∷ line_texts cs
    else if c == 13 && begins 10 cs then line_texts cs
    else put_first c (line_texts cs)

abbrev pub numbered : ℕ → List (List ℕ) → List Line
numbered n [] = []
numbered n (t ∷ ts) = record { number = n; text = t } ∷ numbered (suc n) ts

-- without a first byte order mark
abbrev pub skip_mark : List ℕ → List ℕ
skip_mark [] = []
skip_mark (c ∷ cs) = if c == 0xFEFF then cs else c ∷ cs

unfoldable pub lines_of : List ℕ → List Line
lines_of cs = numbered 1 (line_texts (skip_mark cs))

-- No text has such a character: a control character but the tab, or U+007F. A carriage return that ends no line is one.
abbrev pub is_forbidden : ℕ → Bool
is_forbidden c = (nat_lt c 32 && not (c == 9)) || c == 127

-- ---- documents

-- what follows three of this character at the start of a line
abbrev pub after_three : ℕ → List ℕ → List ℕ
after_three c [] = 0 ∷ []
after_three c (x ∷ []) = 0 ∷ []
after_three c (x ∷ y ∷ []) = 0 ∷ []
after_three c (x ∷ y ∷ z ∷ cs) = if (x == c && y == c) && z == c then cs else 0 ∷ []

-- the line parts two documents: `---`, blanks, and perhaps a comment
unfoldable pub is_parting : Line → Bool
is_parting l = ends_line (after_three 45 l.text)

-- `--- text` and `...`, which are left out
unfoldable pub is_marker : Line → Bool
is_marker l = (blank_or_end (after_three 45 l.text) || blank_or_end (after_three 46 l.text)) && not (is_parting l)

abbrev pub put_line : Line → List (List Line) → List (List Line)
put_line l [] = (l ∷ []) ∷ []
put_line l (d ∷ ds) = (l ∷ d) ∷ ds

-- the lines between the lines that part
unfoldable pub parted : List Line → List (List Line)
parted [] = [] ∷ []
parted (l ∷ ls) = if is_parting l then [] ∷ parted ls else put_line l (parted ls)

abbrev pub carries : Line → Bool
carries l = not (carries_nothing l.text)

-- the documents with content
abbrev pub with_content : List (List Line) → List (List Line)
with_content [] = []
with_content (d ∷ ds) = if list_any carries d then d ∷ with_content ds else with_content ds

unfoldable pub documents_of : List ℕ → List (List Line)
documents_of cs = with_content (parted (lines_of cs))
