-- What the bytes of a text say of the day that it is.
use Rattle.std.proofs.Common.{ℕ, ◌≡◌, ◌≤◌, ◌<◌, ◌+◌, ◌*◌, Bool, true, false, ◌&&◌, List, [], ◌∷◌, ◌++◌, length, get_or, refl, sym, ap, ◌∙◌, arith, eq-eqb, nat_lt, nat_le}
use Rattle.std.specs.Prelude.{encode_utf8_all, ◌==◌}
use Rattle.std.specs.List.{list_all}
use Rattle.std.specs.Str.{chars, all_scalars}
use Rattle.std.proofs.lemmas.Bool.{and_parts, and_from, leb-true, lt-ltb, eqb-true}
use Rattle.std.proofs.lemmas.Str.{chars-encodes}
use Rattle.sig_base.specs.Digits.{is_digit}
use Rattle.sig_base.specs.Texts.{is_ascii}
use Rattle.sig_base.proofs.TextLemmas.{ascii_encodes, ascii_chars}
use Rattle.rule_head.specs.Heads.{two_digits, is_calendar_day, is_day_text}

abbrev at : List ℕ → ℕ → ℕ
at bs k = get_or bs k 0

abbrev digits_in : List ℕ → List ℕ
digits_in bs = at bs 0 ∷ at bs 1 ∷ at bs 2 ∷ at bs 3 ∷ at bs 5 ∷ at bs 6 ∷ at bs 8 ∷ at bs 9 ∷ []

all_four : (w x y v r : Bool) → w ≡ true → x ≡ true → y ≡ true → r ≡ v → r ≡ (w && x && y && v)
all_four w x y v r p q s e = rw p (rw q (rw s e))

-- ten bytes that are read as a day
pub day_is : (bs : List ℕ) (r : Bool) → 10 ≤ length bs → length bs < 11 → list_all is_digit (digits_in bs) ≡ true → at bs 4 ≡ 45 → at bs 7 ≡ 45
    → r ≡ is_calendar_day (100 * two_digits (at bs 0) (at bs 1) + two_digits (at bs 2) (at bs 3)) (two_digits (at bs 5) (at bs 6)) (two_digits (at bs 8) (at bs 9))
    → r ≡ is_day_text bs
day_is (a ∷ b ∷ c ∷ d ∷ e ∷ f ∷ g ∷ h ∷ i ∷ j ∷ []) r least most digits first second is =
    all_four _ _ _ _ r digits (eq-eqb e 45 first) (eq-eqb h 45 second) is
day_is bs r least most digits first second is = absurd (omega arith)

digit_low : (c : ℕ) → is_digit c ≡ true → nat_lt c 128 ≡ true
digit_low c h =
    let most : c ≤ 57 = leb-true c 57 (and_parts (nat_le 48 c) (nat_le c 57) h).1 in
    lt-ltb c 128 (omega arith)

hyphen_low : (c : ℕ) → (c == 45) ≡ true → nat_lt c 128 ≡ true
hyphen_low c h =
    let same : c ≡ 45 = eqb-true c 45 h in
    lt-ltb c 128 (omega arith)

digits_ascii : (cs : List ℕ) → list_all is_digit cs ≡ true → is_ascii cs ≡ true
digits_ascii [] h = refl
digits_ascii (c ∷ cs) h = let p = and_parts (is_digit c) (list_all is_digit cs) h in and_from _ _ (digit_low c p.0) (digits_ascii cs p.1)

between : (xs ys : List ℕ) (c : ℕ) → is_ascii (xs ++ ys) ≡ true → nat_lt c 128 ≡ true → is_ascii (xs ++ c ∷ ys) ≡ true
between [] ys c h low = and_from _ _ low h
between (x ∷ xs) ys c h low = let p = and_parts (nat_lt x 128) (is_ascii (xs ++ ys)) h in and_from _ _ p.0 (between xs ys c p.1 low)

-- a day has characters of ASCII alone
day_ascii : (text : List ℕ) → is_day_text text ≡ true → is_ascii text ≡ true
day_ascii (a ∷ b ∷ c ∷ d ∷ e ∷ f ∷ g ∷ h ∷ i ∷ j ∷ []) day =
    let all = and_parts _ _ day in
    let second = and_parts _ _ all.0 in
    let first = and_parts _ _ second.0 in
    let digits = digits_ascii (a ∷ b ∷ c ∷ d ∷ f ∷ g ∷ i ∷ j ∷ []) first.0 in
    between (a ∷ b ∷ c ∷ d ∷ e ∷ f ∷ g ∷ []) (i ∷ j ∷ []) h (between (a ∷ b ∷ c ∷ d ∷ []) (f ∷ g ∷ i ∷ j ∷ []) e digits (hyphen_low e first.1)) (hyphen_low h second.1)
day_ascii text day = absurd cc

-- the bytes of a text are a day exactly where its characters are
pub same_day : (bytes text : List ℕ) (r : Bool) → bytes ≡ encode_utf8_all text → all_scalars text ≡ true → r ≡ is_day_text bytes → r ≡ is_day_text text
same_day bytes text r is scalars read =
    let there : is_day_text text ≡ true → is_day_text bytes ≡ true =
    λ h. ap is_day_text (is ∙ ascii_encodes text (day_ascii text h)) ∙ h in
    let back : is_day_text bytes ≡ true → is_day_text text ≡ true =
    λ h. ap is_day_text (sym (chars-encodes text scalars) ∙ (ap chars (sym is) ∙ ascii_chars bytes (day_ascii bytes h))) ∙ h in
    read ∙ both (is_day_text bytes) (is_day_text text) back there
  where
    both : (x y : Bool) → (x ≡ true → y ≡ true) → (y ≡ true → x ≡ true) → x ≡ y
    both true y f g = sym (f refl)
    both false true f g = g refl
    both false false f g = refl
