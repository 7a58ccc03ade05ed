-- The text of a query is scanned as the query's spelling.
use Rattle.std.proofs.Common.{ℕ, ◌≡◌, refl, sym, ◌∙◌, ap, Bool, true, false, List, [], ◌∷◌, ◌++◌, codes, append_assoc, append-nil, ◌&&◌, arith, inl, inr, subst}
use Rattle.std.specs.Prelude.{◌==◌, ◌||◌, not, nat_le, if◌then◌else◌, Option, None, Some, map}
use Rattle.std.specs.List.{list_all}
use Rattle.std.specs.Str.{bytes_eq}
use Rattle.std.proofs.lemmas.Bool.Decides.{nat_tests}
use Rattle.std.proofs.lemmas.Slice.Eq.{bytes_eq-Decides}
use Rattle.std.proofs.lemmas.Bool.{and_parts, or_cases}
use Rattle.sig_base.specs.Digits.{is_digit, is_positive, unsigned}
use Rattle.query_tokens.specs.Places.{At, origin, after}
use Rattle.query_tokens.specs.Tokens.{sorts}
use Rattle.lucene_lang.specs.declared.query.Word.{Word}
use Rattle.lucene_lang.specs.declared.query.Word.TheVariants.{And, Or}
use Rattle.lucene_lang.specs.declared.written.Written.{Written}
use Rattle.lucene_lang.specs.declared.written.Written.TheVariants.{Bare, Escaped}
use Rattle.lucene_lang.specs.Tokens.{Sort, Joins, Not, Star, Wild, To, Decimal, Plain, Phrase, Opening, Closing, Opens, Closes, Colon, Unclosed, Outside, InRun, InPhrase, goes_on, on_sign, start, ends_run, is_sign, sign_of, is_blank, scan, tokens, run_sort, is_decimal, character, is_bare, bare_sort}
use Rattle.lucene_lang.specs.Grammar.{End, Value, a_term, a_phrase, a_range, Leaf, everything, sought, Group, last, joined, Clause, asked, forbidden, Atom, a_leaf, enclosed, spell_name, spell_term, spell_end, spell_value, spell_leaf, spell_group, spell_clause, spell_atom}
use Rattle.lucene_layout.specs.Layout.{written, word_text, open_text, close_text, token_text, in_run, in_phrase, is_empty, IsRunOf, HasText, EachHasText, text_value, text_leaf, text_group, text_clause, text_atom}

pub not_true : (b : Bool) → not b ≡ true → b ≡ false
not_true false h = refl
not_true true h = absurd cc

-- what goes on so can't lengthen the token before it
pub data Parts : List ℕ → Type 0 where
  at_end : Parts []
  at_space : (cs : List ℕ) → Parts (32 ∷ cs)
  at_closing : (cs : List ℕ) → Parts (41 ∷ cs)
  at_colon : (cs : List ℕ) → Parts (58 ∷ cs)
  at_square : (cs : List ℕ) → Parts (93 ∷ cs)
  at_brace : (cs : List ℕ) → Parts (125 ∷ cs)

-- the text before such a rest has these tokens
abbrev pub Scans : List ℕ → List Sort → Type 0
Scans text ss = (p : At) (rest : List ℕ) → Parts rest → (q : At) × (sorts (scan Outside p (text ++ rest)) ≡ ss ++ sorts (scan Outside q rest))

-- ---- runs

run_ends : (w : List Written) (q p : At) (rest : List ℕ) → Parts rest → sorts (scan (InRun w q) p rest) ≡ run_sort w ∷ sorts (scan Outside p rest)
unfolding scan
run_ends w q p _ at_end = refl
run_ends w q p _ (at_space cs) = refl
run_ends w q p _ (at_closing cs) = refl
run_ends w q p _ (at_colon cs) = refl
run_ends w q p _ (at_square cs) = refl
run_ends w q p _ (at_brace cs) = refl

bare_goes : (w : List Written) (q p : At) (c : ℕ) (rest : List ℕ) → in_run (Bare c) ≡ true
    → scan (InRun w q) p (c ∷ rest) ≡ scan (InRun (w ++ Bare c ∷ []) q) (after p c) rest
unfolding scan
bare_goes w q p c rest is =
    let each = and_parts (not (ends_run c)) (not (c == 92)) is in
    let goes = not_true (ends_run c) each.0 in
    let other = not_true (c == 92) each.1 in
    rw (goes, other) refl

escaped_goes : (w : List Written) (q p : At) (c : ℕ) (rest : List ℕ)
    → scan (InRun w q) p (92 ∷ c ∷ rest) ≡ scan (InRun (w ++ Escaped c ∷ []) q) (after (after p 92) c) rest
unfolding scan
escaped_goes w q p c rest = refl

-- behind a run that goes on so
InRunGoes : List Written → List Written → List ℕ → Type 0
InRunGoes v w rest = (q p : At) → (r : At) × (sorts (scan (InRun v q) p (written w ++ rest)) ≡ run_sort (v ++ w) ∷ sorts (scan Outside r rest))

in_run_goes : (w v : List Written) (rest : List ℕ) → list_all in_run w ≡ true → Parts rest → (q p : At)
    → (r : At) × (sorts (scan (InRun v q) p (written w ++ rest)) ≡ run_sort (v ++ w) ∷ sorts (scan Outside r rest))
in_run_goes [] v rest all parts q p =
    (p, run_ends v q p rest parts ∙ ap (λ (x : List Written). run_sort x ∷ sorts (scan Outside p rest)) (sym (append-nil v)))
in_run_goes (Bare c ∷ w) v rest all parts q p =
    let each = and_parts (in_run (Bare c)) (list_all in_run w) all in
    let more = in_run_goes w (v ++ Bare c ∷ []) rest each.1 parts q (after p c) in (
      more.0,
      ap sorts (bare_goes v q p c (written w ++ rest) each.0)
          ∙ (more.1 ∙ ap (λ (x : List Written). run_sort x ∷ sorts (scan Outside more.0 rest)) (append_assoc v (Bare c ∷ []) w)),
    )
in_run_goes (Escaped c ∷ w) v rest all parts q p =
    let more = in_run_goes w (v ++ Escaped c ∷ []) rest all parts q (after (after p 92) c) in (
      more.0,
      ap sorts (escaped_goes v q p c (written w ++ rest))
          ∙ (more.1 ∙ ap (λ (x : List Written). run_sort x ∷ sorts (scan Outside more.0 rest)) (append_assoc v (Escaped c ∷ []) w)),
    )

sign_none : (o : Option Sort) (p : At) (c : ℕ) → is_sign o ≡ false → on_sign o p c ≡ goes_on (InRun (Bare c ∷ []) p)
sign_none None p c is = refl
sign_none (Some s) p c is = absurd cc

none_of : (a b c : Bool) → (a || b || c) ≡ false → (a ≡ false) × (b ≡ false) × (c ≡ false)
none_of false false false h = (refl, refl, refl)
none_of false false true h = absurd cc
none_of false true c h = absurd cc
none_of true b c h = absurd cc

bare_starts : (p : At) (c : ℕ) → in_run (Bare c) ≡ true → start p c ≡ goes_on (InRun (Bare c ∷ []) p)
bare_starts p c is =
    let each = and_parts (not (ends_run c)) (not (c == 92)) is in
    let none = none_of (is_blank c) (c == 34) (is_sign (sign_of c)) (not_true (ends_run c) each.0) in
    let blank = none.0 in
    let quote = none.1 in
    let other = not_true (c == 92) each.1 in
    rw (blank, quote, other) (sign_none (sign_of c) p c none.2)

bare_begins : (p : At) (c : ℕ) (rest : List ℕ) → in_run (Bare c) ≡ true
    → scan Outside p (c ∷ rest) ≡ scan (InRun (Bare c ∷ []) p) (after p c) rest
unfolding scan
bare_begins p c rest is = let e = bare_starts p c is in rw e refl

escaped_begins : (p : At) (c : ℕ) (rest : List ℕ)
    → scan Outside p (92 ∷ c ∷ rest) ≡ scan (InRun (Escaped c ∷ []) p) (after (after p 92) c) rest
unfolding scan
escaped_begins p c rest = refl

pub scans_run : (w : List Written) → is_empty w ≡ false → list_all in_run w ≡ true → Scans (written w) (run_sort w ∷ [])
scans_run [] some all p rest parts = absurd cc
scans_run (Bare c ∷ w) some all p rest parts =
    let each = and_parts (in_run (Bare c)) (list_all in_run w) all in
    let more = in_run_goes w (Bare c ∷ []) rest each.1 parts p (after p c) in
    (more.0, ap sorts (bare_begins p c (written w ++ rest) each.0) ∙ more.1)
scans_run (Escaped c ∷ w) some all p rest parts =
    let more = in_run_goes w (Escaped c ∷ []) rest all parts p (after (after p 92) c) in
    (more.0, ap sorts (escaped_begins p c (written w ++ rest)) ∙ more.1)

scans_run_of : (s : Sort) (w : List Written) → IsRunOf s w → Scans (written w) (s ∷ [])
scans_run_of s w r = subst (λ (t : Sort). Scans (written w) (t ∷ [])) r.sorted (scans_run w r.some r.runs)

-- ---- runs of characters without a backslash

abbrev pub as_bare : ℕ → Written
as_bare c = Bare c

pub written_bare : (cs : List ℕ) → written (map as_bare cs) ≡ cs
written_bare [] = refl
written_bare (c ∷ cs) = ap (λ (ds : List ℕ). c ∷ ds) (written_bare cs)

scans_bare : (cs : List ℕ) (s : Sort) → is_empty (map as_bare cs) ≡ false → list_all in_run (map as_bare cs) ≡ true → run_sort (map as_bare cs) ≡ s
    → Scans cs (s ∷ [])
scans_bare cs s some runs sorted =
    subst (λ (t : List ℕ). Scans t (s ∷ [])) (written_bare cs) (subst (λ (t : Sort). Scans (written (map as_bare cs)) (t ∷ [])) sorted (scans_run (map as_bare cs) some runs))

scans_word : (w : Word) → Scans (word_text w) (Joins w ∷ [])
unfolding run_sort is_decimal
scans_word And = scans_bare (codes "AND") (Joins And) refl refl refl
scans_word Or = scans_bare (codes "OR") (Joins Or) refl refl refl

scans_not : Scans (codes "NOT") (Not ∷ [])
unfolding run_sort is_decimal
scans_not = scans_bare (codes "NOT") Not refl refl refl

scans_star : Scans (codes "*") (Star ∷ [])
unfolding run_sort is_decimal
scans_star = scans_bare (codes "*") Star refl refl refl

scans_to : Scans (codes "TO") (To ∷ [])
unfolding run_sort is_decimal
scans_to = scans_bare (codes "TO") To refl refl refl

-- ---- decimals: their characters may stand in a run, and they are no other run

pub record IsDecimalRun (w : List ℕ) : Type 0 where
  some : is_empty (map as_bare w) ≡ false
  runs : list_all in_run (map as_bare w) ≡ true
  sorted : run_sort (map as_bare w) ≡ Decimal w

digit_runs : (c : ℕ) → is_digit c ≡ true → in_run (Bare c) ≡ true
digit_runs c h = grind (arith, nat_tests)

pub digits_run : (w : List ℕ) → list_all is_digit w ≡ true → list_all in_run (map as_bare w) ≡ true
digits_run [] all = refl
digits_run (c ∷ w) all =
    let each = and_parts (is_digit c) (list_all is_digit w) all in
    let here = digit_runs c each.0 in
    let more = digits_run w each.1 in
    rw here more

all_bare : (w : List ℕ) → list_all is_bare (map as_bare w) ≡ true
all_bare [] = refl
all_bare (c ∷ w) = all_bare w

same_characters : (w : List ℕ) → map character (map as_bare w) ≡ w
same_characters [] = refl
same_characters (c ∷ w) = ap (λ (v : List ℕ). c ∷ v) (same_characters w)

-- the sort of a run without a backslash, of which the first character is none of A, O, N, T and *
abbrev is_plain_first : ℕ → Bool
is_plain_first c = not (c == 65 || c == 79 || c == 78 || c == 42 || c == 84)

first_differs : (c d : ℕ) (w v : List ℕ) → (c == d) ≡ false → bytes_eq (c ∷ w) (d ∷ v) ≡ false
first_differs c d w v is = rw is refl

plain_firsts : (c : ℕ) → is_plain_first c ≡ true → ((c == 65) ≡ false) × ((c == 79) ≡ false) × ((c == 78) ≡ false) × ((c == 42) ≡ false) × ((c == 84) ≡ false)
plain_firsts c h = (grind (arith, nat_tests), grind (arith, nat_tests), grind (arith, nat_tests), grind (arith, nat_tests), grind (arith, nat_tests))

decimal_bare : (c : ℕ) (w : List ℕ) (v : List Written) → is_plain_first c ≡ true → is_decimal (c ∷ w) ≡ true → bare_sort (c ∷ w) v ≡ Decimal (c ∷ w)
decimal_bare c w v first is =
    let f = plain_firsts c first in
    let and' = first_differs c 65 w (codes "ND") f.0 in
    let or' = first_differs c 79 w (codes "R") f.1 in
    let not' = first_differs c 78 w (codes "OT") f.2 in
    let star' = first_differs c 42 w [] f.3 in
    let to' = first_differs c 84 w (codes "O") f.4 in
    rw (and', or', not', star', to', is) refl

bare_run : (cs : List ℕ) → run_sort (map as_bare cs) ≡ bare_sort cs (map as_bare cs)
unfolding run_sort
bare_run cs = let b = all_bare cs in rw b (ap (λ (v : List ℕ). bare_sort v (map as_bare cs)) (same_characters cs))

decimal_sorted : (c : ℕ) (w : List ℕ) → is_plain_first c ≡ true → is_decimal (c ∷ w) ≡ true → run_sort (map as_bare (c ∷ w)) ≡ Decimal (c ∷ w)
decimal_sorted c w first is = bare_run (c ∷ w) ∙ decimal_bare c w (map as_bare (c ∷ w)) first is

pub three_true : (a b c : Bool) → (a && b && c) ≡ true → (a ≡ true) × (b ≡ true) × (c ≡ true)
three_true true true true h = (refl, refl, refl)
three_true true true false h = absurd cc
three_true true false c h = absurd cc
three_true false b c h = absurd cc

pub equal_is : (c k : ℕ) → (c == k) ≡ true → c ≡ k
equal_is c k h = grind (arith, nat_tests)

-- a digit or a minus stands first in a decimal, and digits behind it
abbrev pub may_begin : ℕ → Bool
may_begin c = is_digit c || c == 45

abbrev pub DecimalIs : List ℕ → Type 0
DecimalIs [] = ⊥
DecimalIs (c ∷ w) = (may_begin c ≡ true) × (list_all is_digit w ≡ true)

positive_begins : (c : ℕ) → (nat_le 49 c && nat_le c 57) ≡ true → (may_begin c ≡ true) × (is_digit c ≡ true)
positive_begins c h = (grind (arith, nat_tests), grind (arith, nat_tests))

positive_digits : (w : List ℕ) → is_positive w ≡ true → list_all is_digit w ≡ true
positive_digits [] h = absurd cc
positive_digits (c ∷ w) h =
    let each = and_parts (nat_le 49 c && nat_le c 57) (list_all is_digit w) h in
    let first = (positive_begins c each.0).1 in
    rw first each.1

pub decimal_is : (w : List ℕ) → is_decimal w ≡ true → DecimalIs w
unfolding is_decimal
decimal_is w h = elim (or_cases (bytes_eq w (codes "0")) (is_positive (unsigned w)) h) [
  | inl zero ↦ subst DecimalIs (sym ((bytes_eq-Decides w (codes "0")).0 zero)) (refl, refl)
  | inr positive ↦ by w positive
] where
  by_minus : (c : ℕ) (v : List ℕ) (b : Bool) → (c == 45) ≡ b → is_positive (if b then v else c ∷ v) ≡ true → DecimalIs (c ∷ v)
  by_minus c v true is p = subst (λ (d : ℕ). DecimalIs (d ∷ v)) (sym (equal_is c 45 is)) (refl, positive_digits v p)
  by_minus c v false is p =
      let each = and_parts (nat_le 49 c && nat_le c 57) (list_all is_digit v) p in
      ((positive_begins c each.0).0, each.1)

  by : (v : List ℕ) → is_positive (unsigned v) ≡ true → DecimalIs v
  by [] p = absurd cc
  by (c ∷ v) p = by_minus c v (c == 45) refl p

begins_plain : (c : ℕ) → may_begin c ≡ true → (is_plain_first c ≡ true) × (in_run (Bare c) ≡ true)
begins_plain c h = (grind (arith, nat_tests), grind (arith, nat_tests))

pub decimal_run : (w : List ℕ) → is_decimal w ≡ true → IsDecimalRun w
decimal_run w h = by w (decimal_is w h) h where
  by : (v : List ℕ) → DecimalIs v → is_decimal v ≡ true → IsDecimalRun v
  by [] d h = absurd d
  by (c ∷ v) d h =
      let f = begins_plain c d.0 in
      let first = f.1 in
      let more = digits_run v d.1 in
      record { some = refl; runs = rw first more; sorted = decimal_sorted c v f.0 h }

scans_decimal : (w : List ℕ) → is_decimal w ≡ true → Scans w (Decimal w ∷ [])
scans_decimal w h = let d = decimal_run w h in scans_bare w (Decimal w) d.some d.runs d.sorted

-- ---- signs and phrases

scans_open : (b : Bool) (p : At) (rest : List ℕ) → sorts (scan Outside p (open_text b ++ rest)) ≡ Opens b ∷ sorts (scan Outside (after p 91) rest)
unfolding scan
scans_open true p rest = refl
scans_open false p rest = refl

scans_close : (b : Bool) (p : At) (rest : List ℕ) → sorts (scan Outside p (close_text b ++ rest)) ≡ Closes b ∷ sorts (scan Outside (after p 93) rest)
unfolding scan
scans_close true p rest = refl
scans_close false p rest = refl

colon_goes : (p : At) (rest : List ℕ) → sorts (scan Outside p (58 ∷ rest)) ≡ Colon ∷ sorts (scan Outside (after p 58) rest)
unfolding scan
colon_goes p rest = refl

opening_goes : (p : At) (rest : List ℕ) → sorts (scan Outside p (40 ∷ rest)) ≡ Opening ∷ sorts (scan Outside (after p 40) rest)
unfolding scan
opening_goes p rest = refl

closing_goes : (p : At) (rest : List ℕ) → sorts (scan Outside p (41 ∷ rest)) ≡ Closing ∷ sorts (scan Outside (after p 41) rest)
unfolding scan
closing_goes p rest = refl

space_goes : (p : At) (rest : List ℕ) → sorts (scan Outside p (32 ∷ rest)) ≡ sorts (scan Outside (after p 32) rest)
unfolding scan
space_goes p rest = refl

phrase_char : (w : List Written) (q p : At) (c : ℕ) (rest : List ℕ) → in_phrase (Bare c) ≡ true
    → scan (InPhrase w q) p (c ∷ rest) ≡ scan (InPhrase (w ++ Bare c ∷ []) q) (after p c) rest
unfolding scan
phrase_char w q p c rest is =
    let each = and_parts (not (c == 34)) (not (c == 92)) is in
    let quote = not_true (c == 34) each.0 in
    let other = not_true (c == 92) each.1 in
    rw (quote, other) refl

phrase_escaped : (w : List Written) (q p : At) (c : ℕ) (rest : List ℕ)
    → scan (InPhrase w q) p (92 ∷ c ∷ rest) ≡ scan (InPhrase (w ++ Escaped c ∷ []) q) (after (after p 92) c) rest
unfolding scan
phrase_escaped w q p c rest = refl

phrase_ends : (w : List Written) (q p : At) (rest : List ℕ) → sorts (scan (InPhrase w q) p (34 ∷ rest)) ≡ Phrase w ∷ sorts (scan Outside (after p 34) rest)
unfolding scan
phrase_ends w q p rest = refl

in_phrase_goes : (w v : List Written) (rest : List ℕ) → list_all in_phrase w ≡ true → (q p : At)
    → (r : At) × (sorts (scan (InPhrase v q) p (written w ++ 34 ∷ rest)) ≡ Phrase (v ++ w) ∷ sorts (scan Outside r rest))
in_phrase_goes [] v rest all q p =
    (after p 34, phrase_ends v q p rest ∙ ap (λ (x : List Written). Phrase x ∷ sorts (scan Outside (after p 34) rest)) (sym (append-nil v)))
in_phrase_goes (Bare c ∷ w) v rest all q p =
    let each = and_parts (in_phrase (Bare c)) (list_all in_phrase w) all in
    let more = in_phrase_goes w (v ++ Bare c ∷ []) rest each.1 q (after p c) in (
      more.0,
      ap sorts (phrase_char v q p c (written w ++ 34 ∷ rest) each.0)
          ∙ (more.1 ∙ ap (λ (x : List Written). Phrase x ∷ sorts (scan Outside more.0 rest)) (append_assoc v (Bare c ∷ []) w)),
    )
in_phrase_goes (Escaped c ∷ w) v rest all q p =
    let more = in_phrase_goes w (v ++ Escaped c ∷ []) rest all q (after (after p 92) c) in (
      more.0,
      ap sorts (phrase_escaped v q p c (written w ++ 34 ∷ rest))
          ∙ (more.1 ∙ ap (λ (x : List Written). Phrase x ∷ sorts (scan Outside more.0 rest)) (append_assoc v (Escaped c ∷ []) w)),
    )

scans_phrase : (w : List Written) → list_all in_phrase w ≡ true → Scans (token_text (Phrase w)) (Phrase w ∷ [])
unfolding scan
scans_phrase w all p rest parts =
    let more = in_phrase_goes w [] rest all p (after p 34) in
    (more.0, ap (λ (cs : List ℕ). sorts (scan (InPhrase [] p) (after p 34) cs)) (append_assoc (written w) (34 ∷ []) rest) ∙ more.1)

-- ---- names, terms and ends

pub scans_token : (s : Sort) → HasText s → Scans (token_text s) (s ∷ [])
scans_token (Joins w) has = scans_word w
scans_token Not has = scans_not
scans_token Star has = scans_star
scans_token (Wild w) has = scans_run_of (Wild w) w has
scans_token To has = scans_to
scans_token (Decimal w) has = scans_decimal w has
scans_token (Plain w) has = scans_run_of (Plain w) w has
scans_token (Phrase w) has = scans_phrase w has.0
scans_token Opening has = λ p rest parts. (after p 40, opening_goes p rest)
scans_token Closing has = λ p rest parts. (after p 41, closing_goes p rest)
scans_token (Opens b) has = λ p rest parts. (after p 91, scans_open b p rest)
scans_token (Closes b) has = λ p rest parts. (after p 93, scans_close b p rest)
scans_token Colon has = λ p rest parts. (after p 58, colon_goes p rest)
scans_token Unclosed has = absurd has

-- two texts with a space between
then_spaced : (a b : List ℕ) (ss ts : List Sort) → Scans a ss → Scans b ts → Scans (a ++ 32 ∷ b) (ss ++ ts)
then_spaced a b ss ts first second p rest parts =
    let f = first p (32 ∷ (b ++ rest)) (at_space (b ++ rest)) in
    let g = second (after f.0 32) rest parts in
    let end = sorts (scan Outside g.0 rest) in (
      g.0,
      ap (λ (cs : List ℕ). sorts (scan Outside p cs)) (append_assoc a (32 ∷ b) rest)
          ∙ (f.1 ∙ (ap (λ (us : List Sort). ss ++ us) (space_goes f.0 (b ++ rest) ∙ g.1) ∙ sym (append_assoc ss ts end))),
    )

close_parts : (c : Bool) (rest : List ℕ) → Parts (close_text c ++ rest)
close_parts true rest = at_square rest
close_parts false rest = at_brace rest

-- an end of a range, and the bracket behind it
scans_high : (f : End) (c : Bool) → HasText (spell_end f) → (p : At) (rest : List ℕ)
    → (q : At) × (sorts (scan Outside p (token_text (spell_end f) ++ (close_text c ++ rest))) ≡ spell_end f ∷ Closes c ∷ sorts (scan Outside q rest))
scans_high f c has p rest =
    let e = scans_token (spell_end f) has p (close_text c ++ rest) (close_parts c rest) in
    (after e.0 93, e.1 ∙ ap (λ (us : List Sort). spell_end f ∷ us) (scans_close c e.0 rest))

scans_range : (b : Bool) (e f : End) (c : Bool) → HasText (spell_end e) → HasText (spell_end f) → Scans (text_value (a_range b e f c)) (spell_value (a_range b e f c))
scans_range b e f c low high p rest parts =
    let upto = codes " TO " in
    let behind = token_text (spell_end f) ++ (close_text c ++ rest) in
    let x = scans_token (spell_end e) low (after p 91) (upto ++ behind) (at_space _) in
    let t = scans_to (after x.0 32) (32 ∷ behind) (at_space behind) in
    let y = scans_high f c high (after t.0 32) rest in
    let text : (open_text b ++ (token_text (spell_end e) ++ (upto ++ (token_text (spell_end f) ++ close_text c)))) ++ rest
    ≡ open_text b ++ (token_text (spell_end e) ++ (upto ++ behind)) = simp append_assoc in (
      y.0,
      ap (λ (cs : List ℕ). sorts (scan Outside p cs)) text
          ∙ (scans_open b p (token_text (spell_end e) ++ (upto ++ behind))
          ∙ ap (λ (us : List Sort). Opens b ∷ us) (x.1
          ∙ ap (λ (us : List Sort). spell_end e ∷ us) (space_goes x.0 _
          ∙ (t.1 ∙ ap (λ (us : List Sort). To ∷ us) (space_goes t.0 behind ∙ y.1))))),
    )

scans_value : (v : Value) → EachHasText (spell_value v) → Scans (text_value v) (spell_value v)
scans_value (a_term t) has = scans_token (spell_term t) has.0
scans_value (a_phrase w) has = scans_token (Phrase w) has.0
scans_value (a_range b e f c) has = scans_range b e f c has.1.0 has.1.1.1.0

scans_leaf : (l : Leaf) → EachHasText (spell_leaf l) → Scans (text_leaf l) (spell_leaf l)
scans_leaf everything has p rest parts =
    let x = scans_star p (58 ∷ 42 ∷ rest) (at_colon (42 ∷ rest)) in
    let y = scans_star (after x.0 58) rest parts in
    (y.0, x.1 ∙ ap (λ (us : List Sort). Star ∷ us) (colon_goes x.0 (42 ∷ rest) ∙ ap (λ (us : List Sort). Colon ∷ us) y.1))
scans_leaf (sought n v) has p rest parts =
    let x = scans_token (spell_name n) has.0 p (58 ∷ (text_value v ++ rest)) (at_colon _) in
    let y = scans_value v has.1.1 (after x.0 58) rest parts in (
      y.0,
      ap (λ (cs : List ℕ). sorts (scan Outside p cs)) (append_assoc (token_text (spell_name n)) (58 ∷ text_value v) rest)
          ∙ (x.1 ∙ ap (λ (us : List Sort). spell_name n ∷ us) (colon_goes x.0 (text_value v ++ rest) ∙ ap (λ (us : List Sort). Colon ∷ us) y.1)),
    )

-- ---- groups

texts_parted : (ss ts : List Sort) → EachHasText (ss ++ ts) → EachHasText ss × EachHasText ts
texts_parted [] ts all = (tt, all)
texts_parted (s ∷ ss) ts all = let more = texts_parted ss ts all.1 in ((all.0, more.0), more.1)

scans_enclosed : (g : Group) → Scans (text_group g) (spell_group g) → Scans (text_atom (enclosed g)) (spell_atom (enclosed g))
scans_enclosed g inner p rest parts =
    let f = inner (after p 40) (41 ∷ rest) (at_closing rest) in
    let text : (text_group g ++ 41 ∷ []) ++ rest ≡ text_group g ++ 41 ∷ rest = append_assoc (text_group g) (41 ∷ []) rest in
    let end = sorts (scan Outside (after f.0 41) rest) in (
      after f.0 41,
      opening_goes p ((text_group g ++ 41 ∷ []) ++ rest)
          ∙ ap (λ (us : List Sort). Opening ∷ us)
          (ap (λ (cs : List ℕ). sorts (scan Outside (after p 40) cs)) text
          ∙ (f.1 ∙ (ap (λ (us : List Sort). spell_group g ++ us) (closing_goes f.0 rest) ∙ sym (append_assoc (spell_group g) (Closing ∷ []) end)))),
    )

mutual
  pub scans_group : (g : Group) → EachHasText (spell_group g) → Scans (text_group g) (spell_group g)
  scans_group (last c) all = scans_clause c all
  scans_group (joined c w g) all =
      let each = texts_parted (spell_clause c) (Joins w ∷ spell_group g) all in
      then_spaced (text_clause c) (word_text w ++ 32 ∷ text_group g) (spell_clause c) (Joins w ∷ spell_group g) (scans_clause c each.0)
      (then_spaced (word_text w) (text_group g) (Joins w ∷ []) (spell_group g) (scans_word w) (scans_group g each.1.1))

  pub scans_clause : (c : Clause) → EachHasText (spell_clause c) → Scans (text_clause c) (spell_clause c)
  scans_clause (asked a) all = scans_atom a all
  scans_clause (forbidden a) all = then_spaced (codes "NOT") (text_atom a) (Not ∷ []) (spell_atom a) scans_not (scans_atom a all.1)

  pub scans_atom : (a : Atom) → EachHasText (spell_atom a) → Scans (text_atom a) (spell_atom a)
  scans_atom (a_leaf l) all = scans_leaf l all
  scans_atom (enclosed g) all = scans_enclosed g (scans_group g (texts_parted (spell_group g) (Closing ∷ []) all.1).0)

pub group_scanned : (g : Group) → EachHasText (spell_group g) → sorts (tokens (text_group g)) ≡ spell_group g
unfolding tokens scan
group_scanned g all =
    let f = scans_group g all origin [] at_end in
    ap (λ (cs : List ℕ). sorts (scan Outside origin cs)) (sym (append-nil (text_group g))) ∙ (f.1 ∙ append-nil (spell_group g))
