-- Timespans: numbers by their digits from the left, and texts by their bytes.
use Rattle.std.proofs.Common.{ℕ, ◌≡◌, ◌+◌, ◌*◌, ◌-◌, ◌≤◌, ◌<◌, Bool, true, false, ◌&&◌, List, [], ◌∷◌, ◌++◌, refl, sym, ap, subst, ◌∙◌, arith, nat_lt, nat_le}
use Rattle.std.specs.Prelude.{if◌then◌else◌, Option, Some, None, unwrap_or, ℤ, pos, ◌==◌, encode_utf8_all, codes}
use Rattle.std.specs.List.{list_all}
use Rattle.std.specs.Str.{chars, all_scalars}
use Rattle.std.proofs.lemmas.Bool.{and_parts, and_from, leb-true, lt-ltb, eqb-true, false≢true}
use Rattle.std.proofs.lemmas.Str.{chars-encodes}
use Rattle.sig_base.specs.Digits.{is_digit, is_positive, digits_from}
use Rattle.sig_base.specs.Texts.{is_ascii}
use Rattle.sig_base.proofs.DigitLemmas.{digits_from-le}
use Rattle.sig_base.proofs.TextLemmas.{ascii_encodes, ascii_chars}
use Rattle.std.proofs.lemmas.Int.{ints}
use Rattle.std.proofs.lemmas.Nat.{mul-le}
use Rattle.yaml_tree.specs.Tree.{Tree}
use Rattle.yaml_tree.specs.Nodes.{value_in, entries_in, text_in}
use Rattle.correlation_read.specs.Checks.{span_in, span_at}
use Rattle.correlation_read.specs.Correlations.{IsSpan}
use Rattle.correlation_read.specs.Timespans.{count_of, seconds_of, seconds_in, front_of, last_of, nanoseconds, span_of}

-- ---- the last character

pub front_is : (front : List ℕ) (c : ℕ) → front_of (front ++ c ∷ []) ≡ front
front_is [] c = refl
front_is (x ∷ []) c = refl
front_is (x ∷ y ∷ front) c = ap (λ (cs : List ℕ). x ∷ cs) (front_is (y ∷ front) c)

pub last_is : (front : List ℕ) (c : ℕ) → last_of (front ++ c ∷ []) ≡ Some c
last_is [] c = refl
last_is (x ∷ []) c = refl
last_is (x ∷ y ∷ front) c = last_is (y ∷ front) c

-- a text is a timespan where what stands before its last character is a count, and this a unit
pub parted : (text front : List ℕ) (c : ℕ) (r : Option ℤ) → text ≡ front ++ c ∷ [] → r ≡ nanoseconds (count_of front) (seconds_of c) → r ≡ span_of text
parted text front c r is read =
    read ∙ sym (
    ap span_of is ∙ (ap (λ (ds : List ℕ). nanoseconds (count_of ds) (seconds_in (last_of (front ++ c ∷ [])))) (front_is front c)
    ∙ ap (λ (last : Option ℕ). nanoseconds (count_of front) (seconds_in last)) (last_is front c)))

-- ---- the parts of a timespan

pub record Parts (text : List ℕ) (span : ℤ) : Type 0 where
  pub count : ℕ
  pub counted : count_of (front_of text) ≡ Some count
  pub unit : ℕ
  pub last : last_of text ≡ Some unit
  pub seconds : ℕ
  pub known : seconds_of unit ≡ Some seconds
  pub nanoseconds : span ≡ pos (count * seconds * 1000000000)

some_same : {A : Type 0} (a b : A) → Some a ≡ Some b → a ≡ b
some_same a b e = ap (λ o. unwrap_or o a) e

pub parts_of : (text : List ℕ) (span : ℤ) → span_of text ≡ Some span → Parts text span
parts_of text span is = by (count_of (front_of text)) refl (last_of text) refl where
  ended : (n : ℕ) → count_of (front_of text) ≡ Some n → (c : ℕ) → last_of text ≡ Some c → (o : Option ℕ) → seconds_of c ≡ o → nanoseconds (Some n) o ≡ Some span → Parts text span
  ended n counted c last None known e = absurd cc
  ended n counted c last (Some m) known e = record { count = n; counted = counted; unit = c; last = last; seconds = m; known = known; nanoseconds = sym (some_same _ _ e) }

  by : (o : Option ℕ) → count_of (front_of text) ≡ o → (p : Option ℕ) → last_of text ≡ p → Parts text span
  by None counted p last = absurd (let bad : None ≡ Some span = sym (ap (λ q. nanoseconds q (seconds_in (last_of text))) counted) ∙ is in cc)
  by (Some n) counted None last =
      absurd (let bad : None ≡ Some span = sym (ap (λ q. nanoseconds q (seconds_in (last_of text))) counted ∙ ap (λ q. nanoseconds (Some n) (seconds_in q)) last) ∙ is in cc)
  by (Some n) counted (Some c) last =
      ended n counted c last (seconds_of c) refl (sym (ap (λ q. nanoseconds q (seconds_in (last_of text))) counted ∙ ap (λ q. nanoseconds (Some n) (seconds_in q)) last) ∙ is)

both_hold : (b c : Bool) (x : ℕ) (o : Option ℕ) → (if b && c then o else None) ≡ Some x → (b ≡ true) × (c ≡ true) × (o ≡ Some x)
both_hold true true x o e = (refl, refl, e)
both_hold true false x o e = absurd cc
both_hold false c x o e = absurd cc

-- ---- characters of ASCII

low : (c k : ℕ) → k < 128 → (c == k) ≡ true → nat_lt c 128 ≡ true
low c k small h = let same : c ≡ k = eqb-true c k h in lt-ltb c 128 (omega (arith, same, small))

either : (b : Bool) (x rest : Option ℕ) (s : ℕ) (P : Type 0) → (b ≡ true → x ≡ Some s → P) → (rest ≡ Some s → P) → (if b then x else rest) ≡ Some s → P
either true x rest s P f g h = f refl h
either false x rest s P f g h = g h

unit_low : (c s : ℕ) → seconds_of c ≡ Some s → nat_lt c 128 ≡ true
unit_low c s h =
    let P : Type 0 = nat_lt c 128 ≡ true in
    either (c == 115) _ _ s P (λ t e. low c 115 (omega arith) t) (λ h.
    either (c == 109) _ _ s P (λ t e. low c 109 (omega arith) t) (λ h.
    either (c == 104) _ _ s P (λ t e. low c 104 (omega arith) t) (λ h.
    either (c == 100) _ _ s P (λ t e. low c 100 (omega arith) t) (λ h.
    either (c == 119) _ _ s P (λ t e. low c 119 (omega arith) t) (λ h. absurd cc) h) h) h) h) h

digit_low : (c : ℕ) → nat_le c 57 ≡ true → nat_lt c 128 ≡ true
digit_low c h = let most : c ≤ 57 = leb-true c 57 h in lt-ltb c 128 (omega (arith, most))

digits_ascii : (cs : List ℕ) → list_all is_digit cs ≡ true → is_ascii cs ≡ true
digits_ascii [] h = refl
digits_ascii (c ∷ cs) h =
    let p = and_parts (is_digit c) (list_all is_digit cs) h in
    and_from _ _ (digit_low c (and_parts (nat_le 48 c) (nat_le c 57) p.0).1) (digits_ascii cs p.1)

positive_ascii : (ds : List ℕ) → is_positive ds ≡ true → is_ascii ds ≡ true
positive_ascii [] h = absurd cc
positive_ascii (d ∷ ds) h =
    let p = and_parts (nat_le 49 d && nat_le d 57) (list_all is_digit ds) h in
    and_from _ _ (digit_low d (and_parts (nat_le 49 d) (nat_le d 57) p.0).1) (digits_ascii ds p.1)

joined_ascii : (text : List ℕ) (c : ℕ) → last_of text ≡ Some c → nat_lt c 128 ≡ true → is_ascii (front_of text) ≡ true → is_ascii text ≡ true
joined_ascii [] c last small front = refl
joined_ascii (x ∷ []) c last small front = and_from _ _ (ap (λ k. nat_lt k 128) (some_same x c last) ∙ small) refl
joined_ascii (x ∷ y ∷ cs) c last small front =
    let p = and_parts (nat_lt x 128) (is_ascii (front_of (y ∷ cs))) front in
    and_from _ _ p.0 (joined_ascii (y ∷ cs) c last small p.1)

span_ascii : (text : List ℕ) (span : ℤ) → span_of text ≡ Some span → is_ascii text ≡ true
span_ascii text span is =
    let p = parts_of text span is in
    joined_ascii text p.unit p.last (unit_low p.unit p.seconds p.known) (positive_ascii (front_of text) (both_hold _ _ p.count _ p.counted).0)

beyond : (text : List ℕ) → is_ascii text ≡ false → span_of text ≡ None
beyond text not_ascii = by (span_of text) refl where
  by : (o : Option ℤ) → span_of text ≡ o → o ≡ None
  by None is = refl
  by (Some span) is = absurd (false≢true (sym not_ascii ∙ span_ascii text span is))

-- the bytes of a text are a timespan exactly where its characters are
pub same_span : (bytes text : List ℕ) (r : Option ℤ) → bytes ≡ encode_utf8_all text → all_scalars text ≡ true → r ≡ span_of bytes → r ≡ span_of text
same_span bytes text r is scalars read = read ∙ by (is_ascii text) refl (is_ascii bytes) refl where
  by : (b : Bool) → is_ascii text ≡ b → (c : Bool) → is_ascii bytes ≡ c → span_of bytes ≡ span_of text
  by true ascii c of_bytes = ap span_of (is ∙ ascii_encodes text ascii)
  by false ascii true of_bytes =
      absurd (false≢true (sym ascii ∙ (ap is_ascii (sym (chars-encodes text scalars) ∙ (ap chars (sym is) ∙ ascii_chars bytes of_bytes)) ∙ of_bytes)))
  by false ascii false of_bytes = beyond bytes of_bytes ∙ sym (beyond text ascii)

-- ---- a timespan is from 1 to 2^100 nanoseconds

record Between (low high n : ℕ) : Type 0 where
  least : low ≤ n
  most : n ≤ high

count_between : (ds : List ℕ) (n : ℕ) → count_of ds ≡ Some n → Between 1 99999 n
count_between [] n h = absurd cc
count_between (d ∷ ds) n h =
    let p = both_hold (is_positive (d ∷ ds)) (nat_le (digits_from 0 (d ∷ ds)) 99999) n (Some (digits_from 0 (d ∷ ds))) h in
    let all = and_parts (nat_le 49 d && nat_le d 57) (list_all is_digit ds) p.0 in
    let first : 49 ≤ d = leb-true 49 d (and_parts (nat_le 49 d) (nat_le d 57) all.0).0 in
    let is : digits_from 0 (d ∷ ds) ≡ n = some_same _ n p.2 in
    let more : 10 * 0 + (d - 48) ≤ digits_from 0 (d ∷ ds) = digits_from-le (10 * 0 + (d - 48)) ds in
    let few : digits_from 0 (d ∷ ds) ≤ 99999 = leb-true _ 99999 p.1 in
    record { least = omega (arith, first, is, more); most = omega (arith, is, few) }

known_between : (k s : ℕ) → 1 ≤ k → k ≤ 604800 → Some k ≡ Some s → Between 1 604800 s
known_between k s least most e =
    let is : k ≡ s = some_same k s e in
    record { least = omega (arith, least, is); most = omega (arith, most, is) }

seconds_between : (c s : ℕ) → seconds_of c ≡ Some s → Between 1 604800 s
seconds_between c s h =
    let P : Type 0 = Between 1 604800 s in
    either (c == 115) _ _ s P (λ t e. known_between 1 s (omega arith) (omega arith) e) (λ h.
    either (c == 109) _ _ s P (λ t e. known_between 60 s (omega arith) (omega arith) e) (λ h.
    either (c == 104) _ _ s P (λ t e. known_between 3600 s (omega arith) (omega arith) e) (λ h.
    either (c == 100) _ _ s P (λ t e. known_between 86400 s (omega arith) (omega arith) e) (λ h.
    either (c == 119) _ _ s P (λ t e. known_between 604800 s (omega arith) (omega arith) e) (λ h. absurd cc) h) h) h) h) h

in_range : (text : List ℕ) (span : ℤ) → span_of text ≡ Some span → IsSpan span
in_range text span is =
    let p = parts_of text span is in
    let n = count_between (front_of text) p.count p.counted in
    let m = seconds_between p.unit p.seconds p.known in
    let least : 1 * 1 ≤ p.count * p.seconds = mul-le 1 1 p.count p.seconds n.least m.least in
    let most : p.count * p.seconds ≤ 99999 * 604800 = mul-le p.count p.seconds 99999 604800 n.most m.most in
    subst IsSpan (sym p.nanoseconds) (omega (arith, ints, least), omega (arith, ints, most))

pub span_known : (t : Tree) (span : ℤ) → span_at t ≡ Some span → IsSpan span
span_known t span is = by (value_in (codes "timespan") (entries_in t)) is where
  by : (o : Option Tree) → span_in o ≡ Some span → IsSpan span
  by None e = absurd cc
  by (Some v) e = in_range (text_in v) span e
