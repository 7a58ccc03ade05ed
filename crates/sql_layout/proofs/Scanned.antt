-- The text of a query is scanned as the query's spelling.
use Rattle.std.proofs.Common.{ℕ, ◌≡◌, refl, sym, ◌∙◌, ap, Bool, true, false, List, [], ◌∷◌, ◌++◌, codes, append_assoc, append-nil, arith, ◌⊎◌, inl, inr, subst}
use Rattle.std.specs.Prelude.{◌==◌, if◌then◌else◌}
use Rattle.std.specs.List.{list_all}
use Rattle.std.specs.Str.{all_scalars}
use Rattle.std.proofs.lemmas.List.Folds.{list_all-append}
use Rattle.std.proofs.lemmas.Bool.Decides.{eqb_tells, nat_tests}
use Rattle.std.proofs.lemmas.Bool.{and_parts}
use Rattle.sig_base.specs.Digits.{is_digit, unsigned}
use Rattle.query_tokens.specs.Places.{At, after, origin}
use Rattle.sql_lang.specs.Tokens.{Keyword, SELECT, FROM, WHERE, OR, AND, NOT, IS, NULL, LIKE, ESCAPE, GLOB, REGEXP, IN, BETWEEN, COLLATE, NOCASE, BINARY, Op, Eq, Ne, Lt, Lte, Gt, Gte, Sort, Word, Name, Text, Number, Opening, Closing, Comma, Star, Semicolon, Compares, Unclosed, Other, Mode, Outside, Whole, InRun, InQuotes, AfterQuotes, start, scan, tokens, run_sort, text_sort, quoted_sort, is_run_char, is_number, are_digits, is_plain}
use Rattle.query_tokens.specs.Tokens.{sorts}
use Rattle.sql_lang.specs.Grammar.{Ors, last_and, and_or, Ands, last_not, not_and, Nots, not_not, a_test, enclosed, Query, spell_test, spell_or, spell_and, spell_nots, spell_head, spell_end, spell_query}
use Rattle.sql_layout.specs.Layout.{doubled, in_quotes, keyword_text, op_text, token_text, has_text, spaced, text_or, text_and, text_not, text_end, text_query, is_writable}

-- what goes on so can't lengthen the token before it
pub data Parts : List ℕ → Type 0 where
  at_end : Parts []
  at_space : (cs : List ℕ) → Parts (32 ∷ cs)
  at_closing : (cs : List ℕ) → Parts (41 ∷ cs)
  at_semicolon : (cs : List ℕ) → Parts (59 ∷ cs)

-- the text before such a rest has these tokens
abbrev pub Scans : List ℕ → List Sort → Type 0
Scans text ss = (p : At) (rest : List ℕ) → Parts rest → (q : At) × (sorts (scan Outside p (text ++ rest)) ≡ ss ++ sorts (scan Outside q rest))

-- ---- words and numbers

run_ends : (w : List ℕ) (q p : At) (rest : List ℕ) → Parts rest → sorts (scan (InRun w q) p rest) ≡ run_sort w ∷ sorts (scan Outside p rest)
unfolding scan
run_ends w q p _ at_end = refl
run_ends w q p _ (at_space cs) = refl
run_ends w q p _ (at_closing cs) = refl
run_ends w q p _ (at_semicolon cs) = refl

run_goes : (w : List ℕ) (q p : At) (c : ℕ) (rest : List ℕ) → is_run_char c ≡ true
    → scan (InRun w q) p (c ∷ rest) ≡ scan (InRun (w ++ c ∷ []) q) (after p c) rest
unfolding scan
run_goes w q p c rest is = rw is refl

in_run : (v w : List ℕ) (q p : At) (rest : List ℕ) → list_all is_run_char v ≡ true → Parts rest
    → (r : At) × (sorts (scan (InRun w q) p (v ++ rest)) ≡ run_sort (w ++ v) ∷ sorts (scan Outside r rest))
in_run [] w q p rest all parts =
    (p, run_ends w q p rest parts ∙ ap (λ (x : List ℕ). run_sort x ∷ sorts (scan Outside p rest)) (sym (append-nil w)))
in_run (c ∷ v) w q p rest all parts =
    let each = and_parts (is_run_char c) (list_all is_run_char v) all in
    let more = in_run v (w ++ c ∷ []) q (after p c) rest each.1 parts in
    let regrouped : (w ++ c ∷ []) ++ v ≡ w ++ c ∷ v = append_assoc w (c ∷ []) v in
    (more.0, ap sorts (run_goes w q p c (v ++ rest) each.0) ∙ (more.1 ∙ ap (λ (x : List ℕ). run_sort x ∷ sorts (scan Outside more.0 rest)) regrouped))

scans_run : (c : ℕ) (v : List ℕ) → ((p : At) → start p c ≡ InRun (c ∷ []) p) → list_all is_run_char v ≡ true → Scans (c ∷ v) (run_sort (c ∷ v) ∷ [])
unfolding scan
scans_run c v begins all p rest parts =
    let more = in_run v (c ∷ []) p (after p c) rest all parts in
    let begun : scan Outside p (c ∷ (v ++ rest)) ≡ scan (InRun (c ∷ []) p) (after p c) (v ++ rest)
    = ap (λ (m : Mode). scan m (after p c) (v ++ rest)) (begins p) in
    (more.0, ap sorts begun ∙ more.1)

scans_keyword : (k : Keyword) → Scans (keyword_text k) (Word k ∷ [])
unfolding run_sort is_number
scans_keyword SELECT = scans_run 83 (codes "ELECT") (λ p. refl) refl
scans_keyword FROM = scans_run 70 (codes "ROM") (λ p. refl) refl
scans_keyword WHERE = scans_run 87 (codes "HERE") (λ p. refl) refl
scans_keyword OR = scans_run 79 (codes "R") (λ p. refl) refl
scans_keyword AND = scans_run 65 (codes "ND") (λ p. refl) refl
scans_keyword NOT = scans_run 78 (codes "OT") (λ p. refl) refl
scans_keyword IS = scans_run 73 (codes "S") (λ p. refl) refl
scans_keyword NULL = scans_run 78 (codes "ULL") (λ p. refl) refl
scans_keyword LIKE = scans_run 76 (codes "IKE") (λ p. refl) refl
scans_keyword ESCAPE = scans_run 69 (codes "SCAPE") (λ p. refl) refl
scans_keyword GLOB = scans_run 71 (codes "LOB") (λ p. refl) refl
scans_keyword REGEXP = scans_run 82 (codes "EGEXP") (λ p. refl) refl
scans_keyword IN = scans_run 73 (codes "N") (λ p. refl) refl
scans_keyword BETWEEN = scans_run 66 (codes "ETWEEN") (λ p. refl) refl
scans_keyword COLLATE = scans_run 67 (codes "OLLATE") (λ p. refl) refl
scans_keyword NOCASE = scans_run 78 (codes "OCASE") (λ p. refl) refl
scans_keyword BINARY = scans_run 66 (codes "INARY") (λ p. refl) refl

digit_begins : (c : ℕ) → is_digit c ≡ true → (p : At) → start p c ≡ InRun (c ∷ []) p
digit_begins c h p = grind (arith, nat_tests)

digit_runs : (c : ℕ) → is_digit c ≡ true → is_run_char c ≡ true
digit_runs c h = grind (arith, nat_tests)

-- the text of a number: a digit or a minus, and digits
run_of : (v : List ℕ) → list_all is_digit v ≡ true → list_all is_run_char v ≡ true
run_of [] all = refl
run_of (c ∷ v) all =
    let each = and_parts (is_digit c) (list_all is_digit v) all in
    let here = digit_runs c each.0 in
    let more = run_of v each.1 in
    rw here more

scans_digits : (v : List ℕ) → are_digits v ≡ true → Scans v (run_sort v ∷ [])
scans_digits [] all = absurd cc
scans_digits (c ∷ v) all =
    let each = and_parts (is_digit c) (list_all is_digit v) all in
    scans_run c v (digit_begins c each.0) (run_of v each.1)

pub minus_or : (c : ℕ) (v : List ℕ) → are_digits (unsigned (c ∷ v)) ≡ true
    → ((c ≡ 45) × (list_all is_digit v ≡ true)) ⊎ (are_digits (c ∷ v) ≡ true)
minus_or c v all = elim (eqb_tells c 45) [ inl same ↦ inl (same.1, digits_behind v (rw same.0 at all)) | inr other ↦ inr (rw other.0 at all) ] where
  digits_behind : (v : List ℕ) → are_digits v ≡ true → list_all is_digit v ≡ true
  digits_behind [] h = refl
  digits_behind (c ∷ v) h = h

scans_signed : (w : List ℕ) → are_digits (unsigned w) ≡ true → Scans w (run_sort w ∷ [])
scans_signed [] all = absurd cc
scans_signed (c ∷ v) all = elim (minus_or c v all) [
  | inl minus ↦ subst (λ (d : ℕ). Scans (d ∷ v) (run_sort (d ∷ v) ∷ [])) (sym minus.0) (scans_run 45 v (λ p. refl) (run_of v minus.1))
  | inr digits ↦ scans_digits (c ∷ v) digits
]

number_sort : (w : List ℕ) → is_number w ≡ true → run_sort w ≡ Number w
unfolding run_sort
number_sort w is = rw is refl

pub number_digits : (w : List ℕ) → is_number w ≡ true → are_digits (unsigned w) ≡ true
unfolding is_number
number_digits w is = (and_parts _ _ is).0

scans_number : (w : List ℕ) → is_number w ≡ true → Scans w (Number w ∷ [])
scans_number w is = subst (λ (s : Sort). Scans w (s ∷ [])) (number_sort w is) (scans_signed w (number_digits w is))

-- ---- signs

pub sign_ends : (s : Sort) (q p : At) (rest : List ℕ) → sorts (scan (Whole s q) p rest) ≡ s ∷ sorts (scan Outside p rest)
unfolding scan
sign_ends s q p [] = refl
sign_ends s q p (c ∷ cs) = refl

scans_op : (op : Op) → Scans (op_text op) (Compares op ∷ [])
unfolding scan
scans_op Eq p _ at_end = (p, refl)
scans_op Eq p _ (at_space cs) = (after p 61, refl)
scans_op Eq p _ (at_closing cs) = (after p 61, refl)
scans_op Eq p _ (at_semicolon cs) = (after p 61, refl)
scans_op Lt p _ at_end = (p, refl)
scans_op Lt p _ (at_space cs) = (after p 60, refl)
scans_op Lt p _ (at_closing cs) = (after p 60, refl)
scans_op Lt p _ (at_semicolon cs) = (after p 60, refl)
scans_op Gt p _ at_end = (p, refl)
scans_op Gt p _ (at_space cs) = (after p 62, refl)
scans_op Gt p _ (at_closing cs) = (after p 62, refl)
scans_op Gt p _ (at_semicolon cs) = (after p 62, refl)
scans_op Ne p rest parts = (after (after p 60) 62, refl)
scans_op Lte p rest parts = (after (after p 60) 61, refl)
scans_op Gte p rest parts = (after (after p 62) 61, refl)

-- ---- names and texts in quotes

name_ends : (w : List ℕ) (q p : At) (rest : List ℕ) → Parts rest → sorts (scan (AfterQuotes 34 w q) p rest) ≡ Name w ∷ sorts (scan Outside p rest)
unfolding scan
name_ends w q p _ at_end = refl
name_ends w q p _ (at_space cs) = refl
name_ends w q p _ (at_closing cs) = refl
name_ends w q p _ (at_semicolon cs) = refl

text_ends : (w : List ℕ) (q p : At) (rest : List ℕ) → Parts rest → sorts (scan (AfterQuotes 39 w q) p rest) ≡ text_sort w ∷ sorts (scan Outside p rest)
unfolding scan
text_ends w q p _ at_end = refl
text_ends w q p _ (at_space cs) = refl
text_ends w q p _ (at_closing cs) = refl
text_ends w q p _ (at_semicolon cs) = refl

quotes_end : (k : ℕ) (w : List ℕ) (q p : At) (rest : List ℕ) → (k ≡ 34) ⊎ (k ≡ 39) → Parts rest
    → sorts (scan (AfterQuotes k w q) p rest) ≡ quoted_sort k w ∷ sorts (scan Outside p rest)
quotes_end k w q p rest is parts =
    let Ends : ℕ → Type 0 = λ n. sorts (scan (AfterQuotes n w q) p rest) ≡ quoted_sort n w ∷ sorts (scan Outside p rest) in
    elim is [ inl name ↦ subst Ends (sym name) (name_ends w q p rest parts) | inr text ↦ subst Ends (sym text) (text_ends w q p rest parts) ]

-- the next character inside quotes: another one, the quote doubled, and the closing one
char_goes : (k : ℕ) (w : List ℕ) (q p : At) (c : ℕ) (rest : List ℕ) → (c == k) ≡ false
    → scan (InQuotes k w q) p (c ∷ rest) ≡ scan (InQuotes k (w ++ c ∷ []) q) (after p c) rest
unfolding scan
char_goes k w q p c rest is = rw is refl

quote_goes : (k : ℕ) (w : List ℕ) (q p : At) (rest : List ℕ) → (k == k) ≡ true
    → scan (InQuotes k w q) p (k ∷ rest) ≡ scan (AfterQuotes k w q) (after p k) rest
unfolding scan
quote_goes k w q p rest is = rw is refl

second_goes : (k : ℕ) (w : List ℕ) (q p : At) (rest : List ℕ) → (k == k) ≡ true
    → scan (AfterQuotes k w q) p (k ∷ rest) ≡ scan (InQuotes k (w ++ k ∷ []) q) (after p k) rest
unfolding scan
second_goes k w q p rest is = rw is refl

same_quote : (k : ℕ) → (k == k) ≡ true
same_quote k = grind (arith, nat_tests)

doubled_other : (k c : ℕ) (cs : List ℕ) → (c == k) ≡ false → doubled k (c ∷ cs) ≡ c ∷ doubled k cs
doubled_other k c cs is = rw is refl

doubled_quote : (k : ℕ) (cs : List ℕ) → doubled k (k ∷ cs) ≡ k ∷ k ∷ doubled k cs
doubled_quote k cs = rw (same_quote k) refl

abbrev Quoted : ℕ → List ℕ → Type 0
Quoted k n = (w : List ℕ) (q p : At) (rest : List ℕ) → Parts rest
    → (r : At) × (sorts (scan (InQuotes k w q) p ((doubled k n ++ k ∷ []) ++ rest)) ≡ quoted_sort k (w ++ n) ∷ sorts (scan Outside r rest))

quoted_more : (k c : ℕ) (n : List ℕ) → (c == k) ≡ false → Quoted k n → Quoted k (c ∷ n)
quoted_more k c n is more w q p rest parts =
    let f = more (w ++ c ∷ []) q (after p c) rest parts in
    let behind = (doubled k n ++ k ∷ []) ++ rest in (
      f.0,
      ap (λ (ds : List ℕ). sorts (scan (InQuotes k w q) p ((ds ++ k ∷ []) ++ rest))) (doubled_other k c n is)
          ∙ (ap sorts (char_goes k w q p c behind is)
          ∙ (f.1 ∙ ap (λ (x : List ℕ). quoted_sort k x ∷ sorts (scan Outside f.0 rest)) (append_assoc w (c ∷ []) n))),
    )

quoted_quote : (k : ℕ) (n : List ℕ) → Quoted k n → Quoted k (k ∷ n)
quoted_quote k n more w q p rest parts =
    let f = more (w ++ k ∷ []) q (after (after p k) k) rest parts in
    let behind = (doubled k n ++ k ∷ []) ++ rest in (
      f.0,
      ap (λ (ds : List ℕ). sorts (scan (InQuotes k w q) p ((ds ++ k ∷ []) ++ rest))) (doubled_quote k n)
          ∙ (ap sorts (quote_goes k w q p (k ∷ behind) (same_quote k))
          ∙ (ap sorts (second_goes k w q (after p k) behind (same_quote k))
          ∙ (f.1 ∙ ap (λ (x : List ℕ). quoted_sort k x ∷ sorts (scan Outside f.0 rest)) (append_assoc w (k ∷ []) n)))),
    )

quoted_none : (k : ℕ) → (k ≡ 34) ⊎ (k ≡ 39) → Quoted k []
quoted_none k is w q p rest parts = (
  after p k,
  ap sorts (quote_goes k w q p rest (same_quote k))
      ∙ (quotes_end k w q (after p k) rest is parts
      ∙ ap (λ (x : List ℕ). quoted_sort k x ∷ sorts (scan Outside (after p k) rest)) (sym (append-nil w))),
)

quoted : (k : ℕ) → (k ≡ 34) ⊎ (k ≡ 39) → (n : List ℕ) → Quoted k n
quoted k is [] = quoted_none k is
quoted k is (c ∷ n) = elim (eqb_tells c k) [
  | inl same ↦ subst (λ (d : ℕ). Quoted k (d ∷ n)) (sym same.1) (quoted_quote k n (quoted k is n))
  | inr other ↦ quoted_more k c n other.0 (quoted k is n)
]

-- ---- tokens and texts

scans_name : (n : List ℕ) → Scans (in_quotes 34 n) (Name n ∷ [])
unfolding scan
scans_name n p rest parts = quoted 34 (inl refl) n [] p (after p 34) rest parts

plain_text : (t : List ℕ) → has_text (Text t) ≡ true → text_sort t ≡ Text t
unfolding text_sort
plain_text t has =
    elim (is_plain t) as (λ b. b ≡ true → (if b then Text t else Other) ≡ Text t) [ true ↦ λ h. refl | false ↦ λ h. absurd cc ]
    (and_parts (all_scalars t) (is_plain t) has).1

scans_text : (t : List ℕ) → has_text (Text t) ≡ true → Scans (in_quotes 39 t) (Text t ∷ [])
unfolding scan
scans_text t has p rest parts =
    let f = quoted 39 (inr refl) t [] p (after p 39) rest parts in
    (f.0, f.1 ∙ ap (λ (s : Sort). s ∷ sorts (scan Outside f.0 rest)) (plain_text t has))

scans_token : (t : Sort) → has_text t ≡ true → Scans (token_text t) (t ∷ [])
unfolding scan
scans_token (Word k) has = scans_keyword k
scans_token (Name n) has = scans_name n
scans_token (Text t) has = scans_text t has
scans_token (Number w) has = scans_number w has
scans_token Opening has = λ p rest parts. (after p 40, sign_ends Opening p (after p 40) rest)
scans_token Closing has = λ p rest parts. (after p 41, sign_ends Closing p (after p 41) rest)
scans_token Comma has = λ p rest parts. (after p 44, sign_ends Comma p (after p 44) rest)
scans_token Star has = λ p rest parts. (after p 42, sign_ends Star p (after p 42) rest)
scans_token Semicolon has = λ p rest parts. (after p 59, sign_ends Semicolon p (after p 59) rest)
scans_token (Compares op) has = scans_op op
scans_token Unclosed has = absurd cc
scans_token Other has = absurd cc

-- two texts with a space between
then_spaced : (a b : List ℕ) (ss ts : List Sort) → Scans a ss → Scans b ts → Scans (a ++ 32 ∷ b) (ss ++ ts)
unfolding scan
then_spaced a b ss ts first second p rest parts =
    let f = first p (32 ∷ (b ++ rest)) (at_space (b ++ rest)) in
    let g = second (after f.0 32) rest parts in
    let end = sorts (scan Outside g.0 rest) in (
      g.0,
      ap (λ (cs : List ℕ). sorts (scan Outside p cs)) (append_assoc a (32 ∷ b) rest)
          ∙ (f.1 ∙ (ap (λ (us : List Sort). ss ++ us) g.1 ∙ sym (append_assoc ss ts end))),
    )

scans_spaced : (ts : List Sort) → list_all has_text ts ≡ true → Scans (spaced ts) ts
scans_spaced [] all = λ p rest parts. (p, refl)
scans_spaced (t ∷ []) all = scans_token t (and_parts (has_text t) true all).0
scans_spaced (t ∷ u ∷ ts) all =
    let each = and_parts (has_text t) (list_all has_text (u ∷ ts)) all in
    then_spaced (token_text t) (spaced (u ∷ ts)) (t ∷ []) (u ∷ ts) (scans_token t each.0) (scans_spaced (u ∷ ts) each.1)

-- ---- queries

pub texts_parted : (ss ts : List Sort) → list_all has_text (ss ++ ts) ≡ true → (list_all has_text ss ≡ true) × (list_all has_text ts ≡ true)
texts_parted ss ts all = and_parts (list_all has_text ss) (list_all has_text ts) (sym (list_all-append has_text ss ts) ∙ all)

scans_enclosed : (o : Ors) → Scans (text_or o) (spell_or o) → Scans (text_not (enclosed o)) (spell_nots (enclosed o))
unfolding scan
scans_enclosed o inner p rest parts =
    let f = inner (after p 40) (41 ∷ rest) (at_closing rest) in
    let behind = sorts (scan Outside (after f.0 41) rest) in
    let text : (text_or o ++ 41 ∷ []) ++ rest ≡ text_or o ++ 41 ∷ rest = append_assoc (text_or o) (41 ∷ []) rest in (
      after f.0 41,
      sign_ends Opening p (after p 40) ((text_or o ++ 41 ∷ []) ++ rest)
          ∙ ap (λ (us : List Sort). Opening ∷ us)
          (ap (λ (cs : List ℕ). sorts (scan Outside (after p 40) cs)) text
          ∙ (f.1 ∙ (ap (λ (us : List Sort). spell_or o ++ us) (sign_ends Closing f.0 (after f.0 41) rest)
          ∙ sym (append_assoc (spell_or o) (Closing ∷ []) behind)))),
    )

mutual
  pub scans_or : (o : Ors) → list_all has_text (spell_or o) ≡ true → Scans (text_or o) (spell_or o)
  scans_or (last_and a) all = scans_and a all
  scans_or (and_or a o) all =
      let each = texts_parted (spell_and a) (Word OR ∷ spell_or o) all in
      then_spaced (text_and a) (codes "OR " ++ text_or o) (spell_and a) (Word OR ∷ spell_or o) (scans_and a each.0)
      (then_spaced (codes "OR") (text_or o) (Word OR ∷ []) (spell_or o) (scans_keyword OR) (scans_or o each.1))

  pub scans_and : (a : Ands) → list_all has_text (spell_and a) ≡ true → Scans (text_and a) (spell_and a)
  scans_and (last_not n) all = scans_not n all
  scans_and (not_and n a) all =
      let each = texts_parted (spell_nots n) (Word AND ∷ spell_and a) all in
      then_spaced (text_not n) (codes "AND " ++ text_and a) (spell_nots n) (Word AND ∷ spell_and a) (scans_not n each.0)
      (then_spaced (codes "AND") (text_and a) (Word AND ∷ []) (spell_and a) (scans_keyword AND) (scans_and a each.1))

  pub scans_not : (n : Nots) → list_all has_text (spell_nots n) ≡ true → Scans (text_not n) (spell_nots n)
  scans_not (not_not n) all = then_spaced (codes "NOT") (text_not n) (Word NOT ∷ []) (spell_nots n) (scans_keyword NOT) (scans_not n all)
  scans_not (a_test t) all = scans_spaced (spell_test t) all
  scans_not (enclosed o) all = scans_enclosed o (scans_or o (texts_parted (spell_or o) (Closing ∷ []) all).0)

scans_end : (o : Ors) (b : Bool) → Scans (text_or o) (spell_or o) → Scans (text_or o ++ text_end b) (spell_or o ++ spell_end b)
unfolding scan
scans_end o false inner p rest parts =
    let f = inner p rest parts in (
      f.0,
      ap (λ (cs : List ℕ). sorts (scan Outside p (cs ++ rest))) (append-nil (text_or o))
          ∙ (f.1 ∙ ap (λ (us : List Sort). us ++ sorts (scan Outside f.0 rest)) (sym (append-nil (spell_or o)))),
    )
scans_end o true inner p rest parts =
    let f = inner p (59 ∷ rest) (at_semicolon rest) in
    let behind = sorts (scan Outside (after f.0 59) rest) in (
      after f.0 59,
      ap (λ (cs : List ℕ). sorts (scan Outside p cs)) (append_assoc (text_or o) (59 ∷ []) rest)
          ∙ (f.1 ∙ (ap (λ (us : List Sort). spell_or o ++ us) (sign_ends Semicolon f.0 (after f.0 59) rest)
          ∙ sym (append_assoc (spell_or o) (Semicolon ∷ []) behind))),
    )

scans_query : (q : Query) → is_writable q ≡ true → Scans (text_query q) (spell_query q)
scans_query q all =
    let head = texts_parted (spell_head q.table) (spell_or q.condition ++ spell_end q.ends) all in
    let condition = texts_parted (spell_or q.condition) (spell_end q.ends) head.1 in
    then_spaced (spaced (spell_head q.table)) (text_or q.condition ++ text_end q.ends) (spell_head q.table) (spell_or q.condition ++ spell_end q.ends)
    (scans_spaced (spell_head q.table) head.0)
    (scans_end q.condition q.ends (scans_or q.condition condition.0))

pub query_scanned : (q : Query) → is_writable q ≡ true → sorts (tokens (text_query q)) ≡ spell_query q
unfolding tokens scan
query_scanned q all =
    let f = scans_query q all origin [] at_end in
    ap (λ (cs : List ℕ). sorts (scan Outside origin cs)) (sym (append-nil (text_query q))) ∙ (f.1 ∙ append-nil (spell_query q))
