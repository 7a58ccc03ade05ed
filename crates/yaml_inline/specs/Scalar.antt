-- What scalars mean: words and numbers, quotes, and block scalars.
use Rattle.std.specs.Prelude.{ℕ, zero, suc, ◌+◌, ◌-◌, ◌*◌, ◌^◌, Bool, true, false, not, ◌&&◌, ◌||◌, ◌==◌, nat_lt, nat_le, if◌then◌else◌, List, [], ◌∷◌, ◌++◌, length, replicate, codes, Option, Some, None, option_map, option_and_then, ℤ, pos, neg_ℤ}
use Rattle.std.specs.List.{list_any, list_all}
use Rattle.std.specs.Str.{bytes_eq}
use Rattle.sig_base.specs.Digits.{is_digit, digits_from}
use Rattle.yaml_tree.specs.Tree.{Scalar, null, truth, whole, text}
use Rattle.yaml_inline.specs.File.{is_blank, is_empty}

abbrev pub is_one_of : List ℕ → List (List ℕ) → Bool
is_one_of s words = list_any (λ w. bytes_eq w s) words

abbrev pub are_digits : List ℕ → Bool
are_digits cs = not (is_empty cs) && list_all is_digit cs

-- the number of these digits, if there is one and it is at most this large
unfoldable pub value_within : ℕ → List ℕ → Option ℕ
value_within most cs = if are_digits cs && nat_le (digits_from 0 cs) most then Some (digits_from 0 cs) else None

-- an optional sign and digits that fit 64 bits
unfoldable pub whole_of : List ℕ → Option ℤ
whole_of [] = None
whole_of (c ∷ cs) =
    if c == 45 then option_map (λ n. neg_ℤ (pos n)) (value_within (2 ^ 63) cs)
    else if c == 43 then option_map pos (value_within (2 ^ 63 - 1) cs)
    else option_map pos (value_within (2 ^ 63 - 1) (c ∷ cs))

abbrev pub number_or_text : List ℕ → Option ℤ → Scalar
number_or_text s None = text s
number_or_text s (Some z) = whole z

abbrev pub is_null : List ℕ → Bool
is_null s = is_empty s || is_one_of s (codes "~" ∷ codes "null" ∷ codes "Null" ∷ codes "NULL" ∷ [])

abbrev pub is_true : List ℕ → Bool
is_true s = is_one_of s (codes "true" ∷ codes "True" ∷ codes "TRUE" ∷ [])

abbrev pub is_false : List ℕ → Bool
is_false s = is_one_of s (codes "false" ∷ codes "False" ∷ codes "FALSE" ∷ [])

-- what a plain scalar is
unfoldable pub resolved : List ℕ → Scalar
resolved s =
    if is_null s then null
    else if is_true s then truth true
    else if is_false s then truth false
    else number_or_text s (whole_of s)

-- ---- quotes

-- what follows an opening quote: the text and what comes after the closing quote; no closing quote; or an escape that there isn't, behind n characters
pub data Quoted : Type 0 where
  closed : List ℕ → List ℕ → Quoted
  open_ended : Quoted
  bad_escape : ℕ → Quoted

abbrev pub behind : ℕ → Quoted → Quoted
behind c (closed t rest) = closed (c ∷ t) rest
behind c open_ended = open_ended
behind c (bad_escape n) = bad_escape (suc n)

abbrev pub passed : Quoted → Quoted
passed (closed t rest) = closed t rest
passed open_ended = open_ended
passed (bad_escape n) = bad_escape (suc n)

-- two single quotes are one
unfoldable pub single : List ℕ → Quoted
single [] = open_ended
single (c ∷ []) = if c == 39 then closed [] [] else open_ended
single (c ∷ d ∷ ds) =
    if not (c == 39) then behind c (single (d ∷ ds))
    else if d == 39 then behind 39 (single ds)
    else closed [] (d ∷ ds)

abbrev pub hex_value : ℕ → Option ℕ
hex_value c =
    if is_digit c then Some (c - 48)
    else if nat_le 97 c && nat_le c 102 then Some (c - 87)
    else if nat_le 65 c && nat_le c 70 then Some (c - 55)
    else None

-- v with one more hexadecimal digit, and what follows it
abbrev pub hex_step : ℕ → List ℕ → Option (ℕ × List ℕ)
hex_step v [] = None
hex_step v (c ∷ cs) = option_map (λ d. (16 * v + d, cs)) (hex_value c)

-- the number of n hexadecimal digits at the front, behind v
abbrev pub hex_front : ℕ → ℕ → List ℕ → Option ℕ
hex_front zero v cs = Some v
hex_front (suc n) v cs = option_and_then (λ p. hex_front n p.0 p.1) (hex_step v cs)

abbrev pub is_surrogate : ℕ → Bool
is_surrogate v = nat_le 0xD800 v && nat_le v 0xDFFF

-- the character of this number
abbrev pub scalar_of : ℕ → Option ℕ
scalar_of v = if is_surrogate v then None else Some v

-- the character of an escape by its number, and how many characters it takes
abbrev pub taking : ℕ → Option ℕ → Option (ℕ × ℕ)
taking n o = option_map (λ v. (v, n)) (option_and_then scalar_of o)

-- the character of an escape behind its backslash, and how many characters it takes there
unfoldable pub escape : List ℕ → Option (ℕ × ℕ)
escape [] = None
escape (c ∷ cs) =
    if c == 92 then Some (92, 1) else if c == 34 then Some (34, 1) else if c == 47 then Some (47, 1)
    else if c == 110 then Some (10, 1) else if c == 116 then Some (9, 1) else if c == 114 then Some (13, 1)
    else if c == 48 then Some (0, 1)
    else if c == 120 then taking 3 (hex_front 2 0 cs)
    else if c == 117 then taking 5 (hex_front 4 0 cs)
    else None

-- an escape, and what comes behind it
abbrev pub escaped : (ℕ → Quoted) → Option (ℕ × ℕ) → Quoted
escaped rest None = bad_escape 0
escaped rest (Some e) = behind e.0 (rest e.1)

-- The number counts the characters that still belong to an escape.
unfoldable pub double : ℕ → List ℕ → Quoted
double n [] = open_ended
double (suc n) (c ∷ cs) = passed (double n cs)
double zero (c ∷ cs) =
    if c == 34 then closed [] cs
    else if c == 92 then escaped (λ k. double k cs) (escape cs)
    else behind c (double zero cs)

-- ---- block scalars

pub data Chomping : Type 0 where
  clip : Chomping
  strip : Chomping
  keep : Chomping

abbrev pub feeds : ℕ → List ℕ
feeds n = replicate n 10

-- the lines without empty ones at the end, and how many those are
abbrev pub drop_empty : List (List ℕ) → List (List ℕ)
drop_empty [] = []
drop_empty (t ∷ ts) = if is_empty t && no_lines (drop_empty ts) then [] else t ∷ drop_empty ts where
  no_lines : List (List ℕ) → Bool
  no_lines [] = true
  no_lines (t ∷ ts) = false

-- `|`: lines joined by line feeds
abbrev pub literal : List (List ℕ) → List ℕ
literal [] = []
literal (t ∷ []) = t
literal (t ∷ u ∷ ts) = t ++ (10 ∷ literal (u ∷ ts))

abbrev pub begins_blank : List ℕ → Bool
begins_blank [] = false
begins_blank (c ∷ cs) = is_blank c

-- what joins two lines with n empty ones between them
abbrev pub joint : Bool → ℕ → List ℕ
joint blank n = if blank then feeds (suc n) else if n == 0 then 32 ∷ [] else feeds n

-- the lines behind one that begins with a blank or not, and n empty ones
abbrev pub fold_from : Bool → ℕ → List (List ℕ) → List ℕ
fold_from before n [] = []
fold_from before n ([] ∷ ts) = fold_from before (suc n) ts
fold_from before n ((c ∷ cs) ∷ ts) = joint (before || is_blank c) n ++ ((c ∷ cs) ++ fold_from (is_blank c) 0 ts)

-- `>`: lines folded
abbrev pub folded : List (List ℕ) → List ℕ
folded [] = []
folded ([] ∷ ts) = 10 ∷ folded ts
folded ((c ∷ cs) ∷ ts) = (c ∷ cs) ++ fold_from (is_blank c) 0 ts

abbrev pub chomped : Chomping → Bool → ℕ → List ℕ
chomped strip has_text n = []
chomped clip has_text n = if has_text then 10 ∷ [] else []
chomped keep has_text n = if has_text then feeds (suc n) else feeds n

-- the text of a block scalar by its lines without indentation
unfoldable pub block_text : Bool → Chomping → List (List ℕ) → List ℕ
block_text is_folded e ts =
    let kept = drop_empty ts in
    (if is_folded then folded kept else literal kept) ++ chomped e (nat_lt 0 (length kept)) (length ts - length kept)

-- ---- plain scalars over several lines

-- what joins a line to the ones before it, with n empty lines between
abbrev pub plain_joint : ℕ → List ℕ
plain_joint n = joint false n
