-- The text of a query is made of characters.
use Rattle.std.proofs.Common.{ℕ, ◌≡◌, refl, Bool, true, false, List, [], ◌∷◌, ◌++◌, codes, arith, inl, inr}
use Rattle.std.specs.List.{list_all}
use Rattle.std.specs.Str.{all_scalars}
use Rattle.std.proofs.Math.Utf8.{scalar}
use Rattle.std.proofs.lemmas.Bool.Decides.{eqb_tells, nat_tests}
use Rattle.std.proofs.lemmas.Bool.{and_parts}
use Rattle.sig_base.specs.Digits.{is_digit, unsigned}
use Rattle.sql_lang.specs.Tokens.{Keyword, SELECT, FROM, WHERE, OR, AND, NOT, IS, NULL, LIKE, ESCAPE, GLOB, REGEXP, IN, BETWEEN, COLLATE, NOCASE, BINARY, Op, Eq, Ne, Lt, Lte, Gt, Gte, Sort, Word, Name, Text, Number, Opening, Closing, Comma, Star, Semicolon, Compares, Unclosed, Other, are_digits, is_plain}
use Rattle.sql_lang.specs.Grammar.{Ors, last_and, and_or, Ands, last_not, not_and, Nots, not_not, a_test, enclosed, Query, spell_test, spell_or, spell_and, spell_nots, spell_head, spell_end}
use Rattle.sql_layout.specs.Layout.{doubled, in_quotes, keyword_text, op_text, token_text, has_text, spaced, text_or, text_and, text_not, text_end, text_query, is_writable}
use Rattle.sql_layout.proofs.Scanned.{texts_parted, number_digits, minus_or}

joined : (a b : List ℕ) → all_scalars a ≡ true → all_scalars b ≡ true → all_scalars (a ++ b) ≡ true
joined [] b first second = second
joined (c ∷ a) b first second =
    let each = and_parts (scalar c) (all_scalars a) first in
    let more = joined a b each.1 second in
    let here = each.0 in
    rw here more

doubled_scalars : (k : ℕ) (cs : List ℕ) → scalar k ≡ true → all_scalars cs ≡ true → all_scalars (doubled k cs) ≡ true
doubled_scalars k [] quote all = refl
doubled_scalars k (c ∷ cs) quote all =
    let each = and_parts (scalar c) (all_scalars cs) all in
    let more = doubled_scalars k cs quote each.1 in
    let here = each.0 in
    elim (eqb_tells c k) [ inl same ↦ rw (same.0, quote) more | inr other ↦ rw (other.0, here) more ]

quoted_scalars : (k : ℕ) (cs : List ℕ) → scalar k ≡ true → all_scalars cs ≡ true → all_scalars (in_quotes k cs) ≡ true
quoted_scalars k cs quote all =
    let body = joined (doubled k cs) (k ∷ []) (doubled_scalars k cs quote all) (rw quote refl) in
    rw quote body

keyword_scalars : (k : Keyword) → all_scalars (keyword_text k) ≡ true
keyword_scalars SELECT = refl
keyword_scalars FROM = refl
keyword_scalars WHERE = refl
keyword_scalars OR = refl
keyword_scalars AND = refl
keyword_scalars NOT = refl
keyword_scalars IS = refl
keyword_scalars NULL = refl
keyword_scalars LIKE = refl
keyword_scalars ESCAPE = refl
keyword_scalars GLOB = refl
keyword_scalars REGEXP = refl
keyword_scalars IN = refl
keyword_scalars BETWEEN = refl
keyword_scalars COLLATE = refl
keyword_scalars NOCASE = refl
keyword_scalars BINARY = refl

op_scalars : (op : Op) → all_scalars (op_text op) ≡ true
op_scalars Eq = refl
op_scalars Ne = refl
op_scalars Lt = refl
op_scalars Lte = refl
op_scalars Gt = refl
op_scalars Gte = refl

digit_scalar : (c : ℕ) → is_digit c ≡ true → scalar c ≡ true
digit_scalar c h = grind (arith, nat_tests)

digits_scalars : (v : List ℕ) → list_all is_digit v ≡ true → all_scalars v ≡ true
digits_scalars [] all = refl
digits_scalars (c ∷ v) all =
    let each = and_parts (is_digit c) (list_all is_digit v) all in
    let here = digit_scalar c each.0 in
    let more = digits_scalars v each.1 in
    rw here more

number_scalars : (w : List ℕ) → are_digits (unsigned w) ≡ true → all_scalars w ≡ true
number_scalars [] all = absurd cc
number_scalars (c ∷ v) all = elim (minus_or c v all)
    [ inl minus ↦ rw minus.0 (digits_scalars v minus.1) | inr digits ↦ digits_scalars (c ∷ v) digits ]

token_scalars : (t : Sort) → has_text t ≡ true → all_scalars (token_text t) ≡ true
token_scalars (Word k) has = keyword_scalars k
token_scalars (Name n) has = quoted_scalars 34 n refl has
token_scalars (Text t) has = quoted_scalars 39 t refl (and_parts (all_scalars t) (is_plain t) has).0
token_scalars (Number w) has = number_scalars w (number_digits w has)
token_scalars Opening has = refl
token_scalars Closing has = refl
token_scalars Comma has = refl
token_scalars Star has = refl
token_scalars Semicolon has = refl
token_scalars (Compares op) has = op_scalars op
token_scalars Unclosed has = refl
token_scalars Other has = refl

spaced_scalars : (ts : List Sort) → list_all has_text ts ≡ true → all_scalars (spaced ts) ≡ true
spaced_scalars [] all = refl
spaced_scalars (t ∷ []) all = token_scalars t (and_parts (has_text t) true all).0
spaced_scalars (t ∷ u ∷ ts) all =
    let each = and_parts (has_text t) (list_all has_text (u ∷ ts)) all in
    joined (token_text t) (32 ∷ spaced (u ∷ ts)) (token_scalars t each.0) (spaced_scalars (u ∷ ts) each.1)

mutual
  or_scalars : (o : Ors) → list_all has_text (spell_or o) ≡ true → all_scalars (text_or o) ≡ true
  or_scalars (last_and a) all = and_scalars a all
  or_scalars (and_or a o) all =
      let each = texts_parted (spell_and a) (Word OR ∷ spell_or o) all in
      joined (text_and a) (codes " OR " ++ text_or o) (and_scalars a each.0) (or_scalars o each.1)

  and_scalars : (a : Ands) → list_all has_text (spell_and a) ≡ true → all_scalars (text_and a) ≡ true
  and_scalars (last_not n) all = not_scalars n all
  and_scalars (not_and n a) all =
      let each = texts_parted (spell_nots n) (Word AND ∷ spell_and a) all in
      joined (text_not n) (codes " AND " ++ text_and a) (not_scalars n each.0) (and_scalars a each.1)

  not_scalars : (n : Nots) → list_all has_text (spell_nots n) ≡ true → all_scalars (text_not n) ≡ true
  not_scalars (not_not n) all = not_scalars n all
  not_scalars (a_test t) all = spaced_scalars (spell_test t) all
  not_scalars (enclosed o) all = joined (text_or o) (codes ")") (or_scalars o (texts_parted (spell_or o) (Closing ∷ []) all).0) refl

end_scalars : (b : Bool) → all_scalars (text_end b) ≡ true
end_scalars false = refl
end_scalars true = refl

pub query_scalars : (q : Query) → is_writable q ≡ true → all_scalars (text_query q) ≡ true
query_scalars q all =
    let head = texts_parted (spell_head q.table) (spell_or q.condition ++ spell_end q.ends) all in
    let condition = texts_parted (spell_or q.condition) (spell_end q.ends) head.1 in
    joined (spaced (spell_head q.table)) (codes " " ++ (text_or q.condition ++ text_end q.ends)) (spaced_scalars (spell_head q.table) head.0)
    (joined (text_or q.condition) (text_end q.ends) (or_scalars q.condition condition.0) (end_scalars q.ends))
