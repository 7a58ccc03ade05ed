-- Texts that pass the tests of addresses are addresses.
use Rattle.std.proofs.Common.{◌≡◌, ℕ, zero, suc, ◌+◌, ◌*◌, ◌<◌, ◌≤◌, Bool, true, false, cond, not, ◌&&◌, List, [], ◌∷◌, ◌++◌, length, get_or, take, drop, refl, sym, ap, ◌∙◌, subst, arith, inl, inr, nat_lt, nat_le, eq-eqb}
use Rattle.std.specs.Prelude.{encode_utf8_all, ◌==◌, ◌||◌, ◌⊎◌, slice_index}
use Rattle.std.specs.Fmt.{decimal}
use Rattle.std.specs.List.{list_all, prefix_len, position_or_len, before_first, after_first}
use Rattle.std.specs.Str.{chars, IsUtf8}
use Rattle.std.specs.Str.Parse.{AllDigits, digits_value}
use Rattle.std.proofs.lemmas.Bool.{false≢true, and_parts, and_from, le-leb, leb-true, eqb-true, lt-ltb}
use Rattle.std.proofs.lemmas.Fmt.{decimal-digits_value}
use Rattle.std.proofs.lemmas.Str.{digit_value_digit, encode_ascii, encodes-chars}
use Rattle.std.proofs.lemmas.Str.Parse.{IsNumeralModel, numerals_by_value, tells_digits}
use Rattle.sig_base.specs.Digits.{is_digit}
use Rattle.sig_base.specs.Texts.{is_ascii}
use Rattle.sig_base.proofs.TextLemmas.{ascii_chars}
use Rattle.event_read.proofs.Numerals.{digits_below}
use Rattle.event_read.specs.Quads.{is_within, is_octet, is_dot, are_octets, is_quad, begins_as_quad, is_address}
use Rattle.event_schema.specs.Addresses.{IsQuad, IsAddress}

own : IsNumeralModel (AllDigits 10) (digits_value 10)
own = numerals_by_value (AllDigits 10) tells_digits

either : (x y : Bool) → (x || y) ≡ true → (x ≡ true) ⊎ (y ≡ true)
either true y e = inl refl
either false y e = inr e

bounds : (low high c : ℕ) → is_within low high c ≡ true → (low ≤ c) × (c ≤ high)
bounds low high c e = let p = and_parts (nat_le low c) (nat_le c high) e in (leb-true low c p.0, leb-true c high p.1)

digit_between : (c : ℕ) → 48 ≤ c → c ≤ 57 → is_digit c ≡ true
digit_between c low high = and_from (nat_le 48 c) (nat_le c 57) (le-leb 48 c low) (le-leb c 57 high)

digits_ascii : (cs : List ℕ) → list_all is_digit cs ≡ true → is_ascii cs ≡ true
digits_ascii [] h = refl
digits_ascii (c ∷ cs) h =
    let p = and_parts (is_digit c) (list_all is_digit cs) h in
    let most : c ≤ 57 = (bounds 48 57 c p.0).1 in
    and_from _ _ (lt-ltb c 128 (omega (arith, most))) (digits_ascii cs p.1)

-- the decimal of a byte
record IsOctet (ds : List ℕ) : Type 0 where
  number : ℕ
  small : number < 256
  spelled : ds ≡ decimal number
  ascii : is_ascii ds ≡ true

octet_from : (ds : List ℕ) → list_all is_digit ds ≡ true → 0 < length ds → (get_or ds 0 0 ≡ 48 → length ds ≡ 1) → digits_value 10 ds < 256 → IsOctet ds
octet_from ds digits some lead small =
    record {
      number = digits_value 10 ds;
      small = small;
      spelled = sym (decimal-digits_value own ds (digits_below ds digits) some lead (omega (arith, small)));
      ascii = digits_ascii ds digits;
    }

octet_one : (a : ℕ) → (48 ≤ a) × (a ≤ 57) → IsOctet (a ∷ [])
octet_one a h =
    octet_from (a ∷ []) (and_from (is_digit a) true (digit_between a h.0 h.1) refl) (omega arith) (λ z. refl) (omega (arith, digit_value_digit a h, h.1))

octet_two : (a b : ℕ) → (49 ≤ a) × (a ≤ 57) → (48 ≤ b) × (b ≤ 57) → IsOctet (a ∷ b ∷ [])
octet_two a b h k =
    let low : 48 ≤ a = omega (arith, h.0) in
    octet_from (a ∷ b ∷ []) (and_from (is_digit a) _ (digit_between a low h.1) (and_from (is_digit b) true (digit_between b k.0 k.1) refl)) (omega arith)
    (λ z. absurd (omega (arith, h.0, z))) (omega (arith, digit_value_digit a (low, h.1), digit_value_digit b k, h.1, k.1))

octet_three : (a b c : ℕ) → (49 ≤ a) × (a ≤ 57) → (48 ≤ b) × (b ≤ 57) → (48 ≤ c) × (c ≤ 57) → 100 * a + 10 * b + c < 5584 → IsOctet (a ∷ b ∷ c ∷ [])
octet_three a b c h k m small =
    let low : 48 ≤ a = omega (arith, h.0) in
    octet_from (a ∷ b ∷ c ∷ [])
    (and_from (is_digit a) _ (digit_between a low h.1) (and_from (is_digit b) _ (digit_between b k.0 k.1) (and_from (is_digit c) true (digit_between c m.0 m.1) refl)))
    (omega arith) (λ z. absurd (omega (arith, h.0, z)))
    (omega (arith, digit_value_digit a (low, h.1), digit_value_digit b k, digit_value_digit c m, small))

octet_is : (ds : List ℕ) → is_octet ds ≡ true → IsOctet ds
octet_is [] e = absurd (false≢true e)
octet_is (a ∷ []) e = octet_one a (bounds 48 57 a e)
octet_is (a ∷ b ∷ []) e =
    let p = and_parts (is_within 49 57 a) (is_digit b) e in
    octet_two a b (bounds 49 57 a p.0) (bounds 48 57 b p.1)
octet_is (a ∷ b ∷ c ∷ []) e = outer (either _ _ e) where
  first : ((a == 49 && is_digit b) && is_digit c) ≡ true → IsOctet (a ∷ b ∷ c ∷ [])
  first e =
      let p = and_parts (a == 49 && is_digit b) (is_digit c) e in
      let q = and_parts (a == 49) (is_digit b) p.0 in
      let one : a ≡ 49 = eqb-true a 49 q.0 in
      let k = bounds 48 57 b q.1 in
      let m = bounds 48 57 c p.1 in
      octet_three a b c (omega (arith, one), omega (arith, one)) k m (omega (arith, one, k.1, m.1))

  second : ((a == 50 && is_within 48 52 b) && is_digit c) ≡ true → IsOctet (a ∷ b ∷ c ∷ [])
  second e =
      let p = and_parts (a == 50 && is_within 48 52 b) (is_digit c) e in
      let q = and_parts (a == 50) (is_within 48 52 b) p.0 in
      let two : a ≡ 50 = eqb-true a 50 q.0 in
      let k = bounds 48 52 b q.1 in
      let m = bounds 48 57 c p.1 in
      octet_three a b c (omega (arith, two), omega (arith, two)) (k.0, omega (arith, k.1)) m (omega (arith, two, k.1, m.1))

  third : ((a == 50 && b == 53) && is_within 48 53 c) ≡ true → IsOctet (a ∷ b ∷ c ∷ [])
  third e =
      let p = and_parts (a == 50 && b == 53) (is_within 48 53 c) e in
      let q = and_parts (a == 50) (b == 53) p.0 in
      let two : a ≡ 50 = eqb-true a 50 q.0 in
      let five : b ≡ 53 = eqb-true b 53 q.1 in
      let m = bounds 48 53 c p.1 in
      octet_three a b c (omega (arith, two), omega (arith, two)) (omega (arith, five), omega (arith, five)) (m.0, omega (arith, m.1)) (omega (arith, two, five, m.1))

  inner : (((a == 49 && is_digit b) && is_digit c) ≡ true) ⊎ (((a == 50 && is_within 48 52 b) && is_digit c) ≡ true) → IsOctet (a ∷ b ∷ c ∷ [])
  inner (inl x) = first x
  inner (inr x) = second x

  outer : ((((a == 49 && is_digit b) && is_digit c) || ((a == 50 && is_within 48 52 b) && is_digit c)) ≡ true) ⊎ (((a == 50 && b == 53) && is_within 48 53 c) ≡ true) → IsOctet (a ∷ b ∷ c ∷ [])
  outer (inl x) = inner (either _ _ x)
  outer (inr x) = third x
octet_is (a ∷ b ∷ c ∷ d ∷ ds) e = absurd (false≢true e)

-- where something stands behind the first dot, the text is what stands before it, the dot and that
parted : (text : List ℕ) → (text ≡ before_first is_dot text ++ 46 ∷ after_first is_dot text) ⊎ (after_first is_dot text ≡ [])
parted [] = inr refl
parted (x ∷ xs) = by (is_dot x) refl (parted xs) where
  n : ℕ
  n = position_or_len is_dot xs

  At : ℕ → ℕ → Type 0
  At k m = (x ∷ xs ≡ take k (x ∷ xs) ++ 46 ∷ drop m (x ∷ xs)) ⊎ (drop m (x ∷ xs) ≡ [])

  one_more : 1 + n ≡ suc n
  one_more = omega arith

  two_more : (1 + n) + 1 ≡ suc (n + 1)
  two_more = omega arith

  later : (xs ≡ before_first is_dot xs ++ 46 ∷ after_first is_dot xs) ⊎ (after_first is_dot xs ≡ []) → At (suc n) (suc (n + 1))
  later (inl e) = inl (ap (λ (ys : List ℕ). x ∷ ys) e)
  later (inr e) = inr e

  by : (b : Bool) → is_dot x ≡ b → (xs ≡ before_first is_dot xs ++ 46 ∷ after_first is_dot xs) ⊎ (after_first is_dot xs ≡ []) → At (cond (not (is_dot x)) (1 + n) 0) (cond (not (is_dot x)) (1 + n) 0 + 1)
  by true e rest = subst (λ (k : ℕ). At k (k + 1)) (sym (ap (λ (b : Bool). cond (not b) (1 + n) 0) e)) (inl (ap (λ (y : ℕ). y ∷ xs) (eqb-true x 46 e)))
  by false e rest =
      subst (λ (k : ℕ). At k (k + 1)) (sym (ap (λ (b : Bool). cond (not b) (1 + n) 0) e))
      (subst (At (1 + n)) (sym two_more) (subst (λ (k : ℕ). At k (suc (n + 1))) (sym one_more) (later rest)))

none : (n : ℕ) → are_octets n [] ≡ true → ⊥
none zero e = false≢true e
none (suc n) e = false≢true e

dotted : (n : ℕ) (text : List ℕ) → are_octets n (after_first is_dot text) ≡ true → text ≡ before_first is_dot text ++ 46 ∷ after_first is_dot text
dotted n text e = by (parted text) where
  by : (text ≡ before_first is_dot text ++ 46 ∷ after_first is_dot text) ⊎ (after_first is_dot text ≡ []) → text ≡ before_first is_dot text ++ 46 ∷ after_first is_dot text
  by (inl is) = is
  by (inr is) = absurd (none n (subst (λ (t : List ℕ). are_octets n t ≡ true) is e))

joined_ascii : (xs ys : List ℕ) → is_ascii xs ≡ true → is_ascii ys ≡ true → is_ascii (xs ++ 46 ∷ ys) ≡ true
joined_ascii [] ys h k = k
joined_ascii (x ∷ xs) ys h k = let p = and_parts (nat_lt x 128) (is_ascii xs) h in and_from _ _ p.0 (joined_ascii xs ys p.1 k)

octets_ascii : (n : ℕ) (text : List ℕ) → are_octets n text ≡ true → is_ascii text ≡ true
octets_ascii zero text e = (octet_is text e).ascii
octets_ascii (suc n) text e =
    let p = and_parts (is_octet (before_first is_dot text)) (are_octets n (after_first is_dot text)) e in
    subst (λ (t : List ℕ). is_ascii t ≡ true) (sym (dotted n text p.1))
    (joined_ascii (before_first is_dot text) (after_first is_dot text) (octet_is (before_first is_dot text) p.0).ascii (octets_ascii n (after_first is_dot text) p.1))

dotted_same : (xs xt ys yt text : List ℕ) → text ≡ xs ++ 46 ∷ ys → xs ≡ xt → ys ≡ yt → text ≡ xt ++ 46 ∷ yt
dotted_same xs xt ys yt text e x y = e ∙ (ap (λ (zs : List ℕ). zs ++ 46 ∷ ys) x ∙ ap (λ (zs : List ℕ). xt ++ 46 ∷ zs) y)

quad_is : (text : List ℕ) → is_quad text ≡ true → IsQuad text
quad_is text e =
    let rest_1 = after_first is_dot text in
    let rest_2 = after_first is_dot rest_1 in
    let rest_3 = after_first is_dot rest_2 in
    let p = and_parts (is_octet (before_first is_dot text)) (are_octets 2 rest_1) e in
    let q = and_parts (is_octet (before_first is_dot rest_1)) (are_octets 1 rest_2) p.1 in
    let r = and_parts (is_octet (before_first is_dot rest_2)) (are_octets 0 rest_3) q.1 in
    let a = octet_is (before_first is_dot text) p.0 in
    let b = octet_is (before_first is_dot rest_1) q.0 in
    let c = octet_is (before_first is_dot rest_2) r.0 in
    let d = octet_is rest_3 r.1 in
    record {
      first = a.number;
      second = b.number;
      third = c.number;
      fourth = d.number;
      bytes = (a.small, b.small, c.small, d.small);
      spelled =
          dotted_same _ _ _ _ text (dotted 2 text p.1) a.spelled
          (dotted_same _ _ _ _ rest_1 (dotted 1 rest_1 q.1) b.spelled (dotted_same _ _ _ _ rest_2 (dotted 0 rest_2 r.1) c.spelled d.spelled));
    }

-- the bytes of a text that begins with digits and a dot begin so too
fronted : (digits rest : List ℕ) → list_all is_digit digits ≡ true → encode_utf8_all (digits ++ 46 ∷ rest) ≡ digits ++ 46 ∷ encode_utf8_all rest
fronted [] rest e = ap (λ (bytes : List ℕ). bytes ++ encode_utf8_all rest) (encode_ascii 46 (omega arith))
fronted (d ∷ digits) rest e =
    let p = and_parts (is_digit d) (list_all is_digit digits) e in
    let most : d ≤ 57 = (bounds 48 57 d p.0).1 in
    ap (λ (bytes : List ℕ). bytes ++ encode_utf8_all (digits ++ 46 ∷ rest)) (encode_ascii d (omega (arith, most)))
    ∙ ap (λ (bytes : List ℕ). d ∷ bytes) (fronted digits rest p.1)

counted : (digits rest : List ℕ) → list_all is_digit digits ≡ true → prefix_len is_digit (digits ++ 46 ∷ rest) ≡ length digits
counted [] rest e = refl
counted (d ∷ digits) rest e =
    let p = and_parts (is_digit d) (list_all is_digit digits) e in
    ap (λ (b : Bool). cond b (1 + prefix_len is_digit (digits ++ 46 ∷ rest)) 0) p.0 ∙ omega (arith, counted digits rest p.1)

behind_digits : (digits rest : List ℕ) → slice_index (digits ++ 46 ∷ rest) (length digits) ≡ 46
behind_digits [] rest = refl
behind_digits (d ∷ digits) rest = behind_digits digits rest

begins_is : (bytes digits rest : List ℕ) → bytes ≡ digits ++ 46 ∷ rest → list_all is_digit digits ≡ true → 1 ≤ length digits → length digits ≤ 3 → begins_as_quad bytes ≡ true
begins_is bytes digits rest is all some few =
    let count : prefix_len is_digit bytes ≡ length digits = ap (prefix_len is_digit) is ∙ counted digits rest all in
    let dot : slice_index bytes (prefix_len is_digit bytes) ≡ 46 =
    ap (λ (n : ℕ). slice_index bytes n) count ∙ (ap (λ (bs : List ℕ). slice_index bs (length digits)) is ∙ behind_digits digits rest) in
    and_from (is_within 1 3 (prefix_len is_digit bytes)) _
    (and_from (nat_le 1 (prefix_len is_digit bytes)) (nat_le (prefix_len is_digit bytes) 3) (le-leb 1 _ (omega (arith, count, some))) (le-leb _ 3 (omega (arith, count, few))))
    (eq-eqb (slice_index bytes (prefix_len is_digit bytes)) 46 dot)

-- a text of bytes that pass is an address
pub address_is : (bytes : List ℕ) → IsUtf8 bytes → is_address bytes ≡ true → IsAddress (chars bytes)
address_is bytes utf8 e = by (either (is_quad bytes) (not (begins_as_quad bytes)) e) where
  by : (is_quad bytes ≡ true) ⊎ (not (begins_as_quad bytes) ≡ true) → IsAddress (chars bytes)
  by (inl quad) = inl (subst IsQuad (sym (ascii_chars bytes (octets_ascii 3 bytes quad))) (quad_is bytes quad))
  by (inr other) = inr (λ b. false≢true (sym (ap not (begins_is bytes b.digits (encode_utf8_all b.rest) (front b.digits b.rest b.parts b.are_digits) b.are_digits b.few.0 b.few.1)) ∙ other)) where
    front : (digits rest : List ℕ) → chars bytes ≡ digits ++ 46 ∷ rest → list_all is_digit digits ≡ true → bytes ≡ digits ++ 46 ∷ encode_utf8_all rest
    front digits rest parts all = sym (encodes-chars bytes utf8) ∙ (ap encode_utf8_all parts ∙ fronted digits rest all)
