-- The text of a JSON string in UTF-8 is UTF-8: its characters, and those that its escapes spell.
use Rattle.std.proofs.Common.{◌≡◌, ℕ, ◌+◌, ◌-◌, ◌*◌, ◌<◌, ◌≤◌, Bool, true, false, cond, ◌&&◌, ◌||◌, ◌==◌, nat_lt, List, [], ◌∷◌, ◌++◌, length, get_or, Option, Some, None, option_and_then, IsUtf8, refl, sym, subst, arith, append_assoc, append-nil}
use Rattle.std.specs.Prelude.{⊤, nat_le}
use Rattle.std.specs.Char.{encode_utf8, is_digit, digit_value}
use Rattle.std.proofs.Math.Seq.{take-append_seam, drop-append-add, get_or-append_seam}
use Rattle.std.proofs.Math.Utf8.{scalar, low_scalar}
use Rattle.std.proofs.lemmas.Bool.{eqb-true, ltb-true, leb-true, lt-ltb, le-leb, and_parts}
use Rattle.std.proofs.lemmas.Bool.Decides.{nat_tests}
use Rattle.std.proofs.lemmas.List.{length-append}
use Rattle.std.proofs.lemmas.Str.{IsUtf8-append, IsUtf8-take, IsUtf8-drop, IsUtf8-encode, encode_ascii, IsCharBoundary-before_ascii, IsCharBoundary-after_ascii}
use Rattle.json.specs.Text.{code_unit, short_escape, is_high_surrogate, is_low_surrogate, surrogate_pair, Within, plain, after_backslash, after_u, after_high, prepend, content}

-- ---- a text is divided at an ASCII byte

pub ascii_apart : (before behind : List ℕ) (x : ℕ) → x < 128 → IsUtf8 (before ++ x ∷ behind) → IsUtf8 before × IsUtf8 behind
ascii_apart before behind x small utf8 =
    let whole : List ℕ = before ++ x ∷ behind in
    let here : get_or whole (length before) 0 ≡ x = get_or-append_seam before x behind 0 in
    let long : length whole ≡ length before + length (x ∷ behind) = length-append before (x ∷ behind) in
    let within : length before < length whole = omega (arith, long) in
    let low : get_or whole (length before) 0 < 128 = omega (arith, here, small) in (
      subst IsUtf8 (take-append_seam before (x ∷ behind)) (IsUtf8-take whole (length before) utf8 (IsCharBoundary-before_ascii whole (length before) within low)),
      subst IsUtf8 (drop-append-add before (x ∷ behind) 1) (IsUtf8-drop whole (length before + 1) utf8 (IsCharBoundary-after_ascii whole (length before) utf8 within low)),
    )

behind_ascii : (behind : List ℕ) (x : ℕ) → x < 128 → IsUtf8 (x ∷ behind) → IsUtf8 behind
behind_ascii behind x small utf8 = (ascii_apart [] behind x small utf8).1

ascii_text : (c : ℕ) → c < 128 → IsUtf8 (c ∷ [])
ascii_text c small = subst IsUtf8 (encode_ascii c small) (IsUtf8-encode c (low_scalar c (omega (arith, small))))

-- ---- scalar values

high_scalar : (c : ℕ) → 0xE000 ≤ c → c < 0x110000 → scalar c ≡ true
high_scalar c low high = let a = le-leb 0xE000 c low in let b = lt-ltb c 0x110000 high in rw (a, b) (by (nat_lt c 0xD800)) where
  by : (t : Bool) → cond t true (true && true) ≡ true
  by true = refl
  by false = refl

-- a code unit that is no surrogate
unit_scalar : (u : ℕ) → u < 0x10000 → is_high_surrogate u ≡ false → is_low_surrogate u ≡ false → scalar u ≡ true
unit_scalar u small high low = by (nat_lt u 0xD800) refl (nat_le 0xE000 u) refl where
  by : (a : Bool) → nat_lt u 0xD800 ≡ a → (b : Bool) → nat_le 0xE000 u ≡ b → scalar u ≡ true
  by true is b too = low_scalar u (ltb-true u 0xD800 is)
  by false is true too = high_scalar u (leb-true 0xE000 u too) (omega (arith, small))
  by false is false too = grind (arith, nat_tests, is, too, high, low)

high_bounds : (u : ℕ) → is_high_surrogate u ≡ true → (0xD800 ≤ u) × (u < 0xDC00)
high_bounds u h = let p = and_parts (nat_le 0xD800 u) (nat_lt u 0xDC00) h in (leb-true 0xD800 u p.0, ltb-true u 0xDC00 p.1)

low_bounds : (u : ℕ) → is_low_surrogate u ≡ true → (0xDC00 ≤ u) × (u < 0xE000)
low_bounds u h = let p = and_parts (nat_le 0xDC00 u) (nat_lt u 0xE000) h in (leb-true 0xDC00 u p.0, ltb-true u 0xE000 p.1)

pair_scalar : (h l : ℕ) → is_high_surrogate h ≡ true → is_low_surrogate l ≡ true → scalar (surrogate_pair h l) ≡ true
pair_scalar h l high low =
    let a = high_bounds h high in
    let b = low_bounds l low in
    let a0 = a.0 in
    let a1 = a.1 in
    let b0 = b.0 in
    let b1 = b.1 in
    high_scalar (surrogate_pair h l) (omega (arith, a0, a1, b0, b1)) (omega (arith, a0, a1, b0, b1))

-- ---- hexadecimal digits

hex_small : (c : ℕ) → is_digit c 16 ≡ true → c < 128
hex_small c h = by (nat_lt c 48) (nat_lt c 58) refl (nat_lt c 65) (nat_lt c 91) refl (nat_lt c 97) (nat_lt c 123) refl h where
  by : (a b : Bool) → nat_lt c 58 ≡ b → (d e : Bool) → nat_lt c 91 ≡ e → (f g : Bool) → nat_lt c 123 ≡ g
      → nat_lt (cond a 36 (cond b (c - 48) (cond d 36 (cond e (c - 55) (cond f 36 (cond g (c - 87) 36)))))) 16 ≡ true → c < 128
  by true b is d e too f g last h = absurd cc
  by false true is d e too f g last h = let small = ltb-true c 58 is in omega (arith, small)
  by false false is true e too f g last h = absurd cc
  by false false is false true too f g last h = let small = ltb-true c 91 too in omega (arith, small)
  by false false is false false too true g last h = absurd cc
  by false false is false false too false true last h = let small = ltb-true c 123 last in omega (arith, small)
  by false false is false false too false false last h = absurd cc

-- of four characters: they are ASCII, and spell at most sixteen bits
abbrev Spells : ℕ → ℕ → ℕ → ℕ → Option ℕ → Type 0
Spells a b c d None = ⊤
Spells a b c d (Some u) = (a < 128) × (b < 128) × (c < 128) × (d < 128) × (u < 0x10000)

spells : (a b c d : ℕ) → Spells a b c d (code_unit a b c d)
unfolding code_unit
spells a b c d = by (is_digit a 16 && is_digit b 16 && is_digit c 16 && is_digit d 16) refl where
  by : (t : Bool) → (is_digit a 16 && is_digit b 16 && is_digit c 16 && is_digit d 16) ≡ t
      → Spells a b c d (cond t (Some (digit_value a * 4096 + digit_value b * 256 + digit_value c * 16 + digit_value d)) None)
  by false e = tt
  by true e =
      let p = and_parts (is_digit a 16 && is_digit b 16 && is_digit c 16) (is_digit d 16) e in
      let q = and_parts (is_digit a 16 && is_digit b 16) (is_digit c 16) p.0 in
      let r = and_parts (is_digit a 16) (is_digit b 16) q.0 in
      let first = ltb-true (digit_value a) 16 r.0 in
      let second = ltb-true (digit_value b) 16 r.1 in
      let third = ltb-true (digit_value c) 16 q.1 in
      let fourth = ltb-true (digit_value d) 16 p.1 in
      (hex_small a r.0, hex_small b r.1, hex_small c q.1, hex_small d p.1, omega (arith, first, second, third, fourth))

-- ---- short escapes

-- both the escape's letter and what it stands for are ASCII
abbrev IsShort : ℕ → Option ℕ → Type 0
IsShort x None = ⊤
IsShort x (Some c) = (x < 128) × (c < 128)

equal_small : (x k : ℕ) → k < 128 → (x == k) ≡ true → x < 128
equal_small x k small e = let same = eqb-true x k e in omega (arith, small, same)

short_small : (x : ℕ) → IsShort x (short_escape x)
unfolding short_escape
short_small x = by ((x == 34 || x == 92) || x == 47) refl (x == 98) refl (x == 102) refl (x == 110) refl (x == 114) refl (x == 116) refl where
  itself : (a b c : Bool) → (x == 34) ≡ a → (x == 92) ≡ b → (x == 47) ≡ c → ((a || b) || c) ≡ true → x < 128
  itself true b c e f g h = equal_small x 34 (omega arith) e
  itself false true c e f g h = equal_small x 92 (omega arith) f
  itself false false true e f g h = equal_small x 47 (omega arith) g
  itself false false false e f g h = absurd cc

  by : (s : Bool) → ((x == 34 || x == 92) || x == 47) ≡ s → (b : Bool) → (x == 98) ≡ b → (f : Bool) → (x == 102) ≡ f → (n : Bool) → (x == 110) ≡ n → (r : Bool) → (x == 114) ≡ r
      → (t : Bool) → (x == 116) ≡ t
      → IsShort x (cond s (Some x) (cond b (Some 8) (cond f (Some 12) (cond n (Some 10) (cond r (Some 13) (cond t (Some 9) None))))))
  by true e b eb f ef n en r er t et = let small = itself (x == 34) (x == 92) (x == 47) refl refl refl e in (small, small)
  by false e true eb f ef n en r er t et = (equal_small x 98 (omega arith) eb, omega arith)
  by false e false eb true ef n en r er t et = (equal_small x 102 (omega arith) ef, omega arith)
  by false e false eb false ef true en r er t et = (equal_small x 110 (omega arith) en, omega arith)
  by false e false eb false ef false en true er t et = (equal_small x 114 (omega arith) er, omega arith)
  by false e false eb false ef false en false er true et = (equal_small x 116 (omega arith) et, omega arith)
  by false e false eb false ef false en false er false et = tt

-- ---- the content of a string

-- what was spelled so far, and what is left; in plain characters one may be divided between them
abbrev Begun : Within → List ℕ → List ℕ → Type 0
Begun plain done left = IsUtf8 (done ++ left)
Begun after_backslash done left = IsUtf8 done × IsUtf8 left
Begun after_u done left = IsUtf8 done × IsUtf8 left
Begun (after_high h) done left = (is_high_surrogate h ≡ true) × IsUtf8 done × IsUtf8 left

abbrev pub Ends : List ℕ → Option (List ℕ) → Type 0
Ends done None = ⊤
Ends done (Some s) = IsUtf8 (done ++ s)

prepended : (done bytes : List ℕ) (o : Option (List ℕ)) → Ends (done ++ bytes) o → Ends done (prepend bytes o)
prepended done bytes None h = tt
prepended done bytes (Some s) h = subst IsUtf8 (append_assoc done bytes s) h

-- more characters are spelled, and the rest goes on
goes_on : (done bytes left : List ℕ) → IsUtf8 done → IsUtf8 bytes → IsUtf8 left → (IsUtf8 ((done ++ bytes) ++ left) → Ends (done ++ bytes) (content plain left))
    → Ends done (prepend bytes (content plain left))
goes_on done bytes left first second third more = prepended done bytes (content plain left) (more (IsUtf8-append (done ++ bytes) left (IsUtf8-append done bytes first second) third))

plain_byte : (done left : List ℕ) (x : ℕ) → IsUtf8 (done ++ x ∷ left) → (IsUtf8 done × IsUtf8 left → Ends done (content after_backslash left))
    → (IsUtf8 ((done ++ x ∷ []) ++ left) → Ends (done ++ x ∷ []) (content plain left))
    → Ends done (cond (x == 34) (Some []) (cond (x == 92) (content after_backslash left) (cond (nat_lt x 32) None (prepend (x ∷ []) (content plain left)))))
plain_byte done left x utf8 escaped more = by (x == 34) refl (x == 92) refl (nat_lt x 32) where
  by : (q : Bool) → (x == 34) ≡ q → (b : Bool) → (x == 92) ≡ b → (l : Bool)
      → Ends done (cond q (Some []) (cond b (content after_backslash left) (cond l None (prepend (x ∷ []) (content plain left)))))
  by true e b f l = subst IsUtf8 (sym (append-nil done)) (ascii_apart done left x (equal_small x 34 (omega arith) e) utf8).0
  by false e true f l = escaped (ascii_apart done left x (equal_small x 92 (omega arith) f) utf8)
  by false e false f true = tt
  by false e false f false = prepended done (x ∷ []) (content plain left) (more (subst IsUtf8 (sym (append_assoc done (x ∷ []) left)) utf8))

escaped_byte : (done left : List ℕ) (x : ℕ) → IsUtf8 done → IsUtf8 (x ∷ left) → (IsUtf8 done × IsUtf8 left → Ends done (content after_u left))
    → ((c : ℕ) → IsUtf8 ((done ++ c ∷ []) ++ left) → Ends (done ++ c ∷ []) (content plain left))
    → Ends done (cond (x == 117) (content after_u left) (option_and_then (λ c. prepend (c ∷ []) (content plain left)) (short_escape x)))
escaped_byte done left x first utf8 unit more = by (x == 117) refl (short_escape x) (short_small x) where
  by : (b : Bool) → (x == 117) ≡ b → (o : Option ℕ) → IsShort x o → Ends done (cond b (content after_u left) (option_and_then (λ c. prepend (c ∷ []) (content plain left)) o))
  by true e o s = unit (first, behind_ascii left x (equal_small x 117 (omega arith) e) utf8)
  by false e None s = tt
  by false e (Some c) s = goes_on done (c ∷ []) left first (ascii_text c s.1) (behind_ascii left x s.0 utf8) (more c)

behind_four : (a b c d : ℕ) (left : List ℕ) → a < 128 → b < 128 → c < 128 → d < 128 → IsUtf8 (a ∷ b ∷ c ∷ d ∷ left) → IsUtf8 left
behind_four a b c d left sa sb sc sd utf8 =
    behind_ascii left d sd (behind_ascii (d ∷ left) c sc (behind_ascii (c ∷ d ∷ left) b sb (behind_ascii (b ∷ c ∷ d ∷ left) a sa utf8)))

unit_bytes : (done left : List ℕ) (a b c d : ℕ) → IsUtf8 done → IsUtf8 (a ∷ b ∷ c ∷ d ∷ left)
    → ((u : ℕ) → (is_high_surrogate u ≡ true) × IsUtf8 done × IsUtf8 left → Ends done (content (after_high u) left))
    → ((u : ℕ) → IsUtf8 ((done ++ encode_utf8 u) ++ left) → Ends (done ++ encode_utf8 u) (content plain left))
    → Ends done (option_and_then (λ u. cond (is_high_surrogate u) (content (after_high u) left) (cond (is_low_surrogate u) None (prepend (encode_utf8 u) (content plain left)))) (code_unit a b c d))
unit_bytes done left a b c d first utf8 high more = by (code_unit a b c d) (spells a b c d) where
  of : (u : ℕ) → u < 0x10000 → IsUtf8 left → (h : Bool) → is_high_surrogate u ≡ h → (l : Bool) → is_low_surrogate u ≡ l
      → Ends done (cond h (content (after_high u) left) (cond l None (prepend (encode_utf8 u) (content plain left))))
  of u small rest true e l f = high u (e, first, rest)
  of u small rest false e true f = tt
  of u small rest false e false f = goes_on done (encode_utf8 u) left first (IsUtf8-encode u (unit_scalar u small e f)) rest (more u)

  by : (o : Option ℕ) → Spells a b c d o
      → Ends done (option_and_then (λ u. cond (is_high_surrogate u) (content (after_high u) left) (cond (is_low_surrogate u) None (prepend (encode_utf8 u) (content plain left)))) o)
  by None s = tt
  by (Some u) s = of u s.4 (behind_four a b c d left s.0 s.1 s.2 s.3 utf8) (is_high_surrogate u) refl (is_low_surrogate u) refl

low_bytes : (h : ℕ) (done left : List ℕ) (s t a b c d : ℕ) → is_high_surrogate h ≡ true → IsUtf8 done → IsUtf8 (s ∷ t ∷ a ∷ b ∷ c ∷ d ∷ left)
    → ((l : ℕ) → IsUtf8 ((done ++ encode_utf8 (surrogate_pair h l)) ++ left) → Ends (done ++ encode_utf8 (surrogate_pair h l)) (content plain left))
    → Ends done (cond ((s == 92) && (t == 117)) (option_and_then (λ l. cond (is_low_surrogate l) (prepend (encode_utf8 (surrogate_pair h l)) (content plain left)) None) (code_unit a b c d)) None)
low_bytes h done left s t a b c d high first utf8 more = by ((s == 92) && (t == 117)) refl (code_unit a b c d) (spells a b c d) where
  of : (l : ℕ) → IsUtf8 left → (low : Bool) → is_low_surrogate l ≡ low → Ends done (cond low (prepend (encode_utf8 (surrogate_pair h l)) (content plain left)) None)
  of l rest true e = goes_on done (encode_utf8 (surrogate_pair h l)) left first (IsUtf8-encode (surrogate_pair h l) (pair_scalar h l high e)) rest (more l)
  of l rest false e = tt

  by : (u : Bool) → ((s == 92) && (t == 117)) ≡ u → (o : Option ℕ) → Spells a b c d o
      → Ends done (cond u (option_and_then (λ l. cond (is_low_surrogate l) (prepend (encode_utf8 (surrogate_pair h l)) (content plain left)) None) o) None)
  by true e None k = tt
  by true e (Some l) k =
      let p = and_parts (s == 92) (t == 117) e in
      let rest = behind_ascii (a ∷ b ∷ c ∷ d ∷ left) t (equal_small t 117 (omega arith) p.1) (behind_ascii (t ∷ a ∷ b ∷ c ∷ d ∷ left) s (equal_small s 92 (omega arith) p.0) utf8) in
      of l (behind_four a b c d left k.0 k.1 k.2 k.3 rest) (is_low_surrogate l) refl
  by false e o k = tt

inside : (w : Within) (done left : List ℕ) → Begun w done left → Ends done (content w left)
unfolding content
inside plain done [] h = tt
inside plain done (x ∷ left) h = plain_byte done left x h (inside after_backslash done left) (inside plain (done ++ x ∷ []) left)
inside after_backslash done [] h = tt
inside after_backslash done (x ∷ left) h = escaped_byte done left x h.0 h.1 (inside after_u done left) (λ c. inside plain (done ++ c ∷ []) left)
inside after_u done [] h = tt
inside after_u done (a ∷ []) h = tt
inside after_u done (a ∷ b ∷ []) h = tt
inside after_u done (a ∷ b ∷ c ∷ []) h = tt
inside after_u done (a ∷ b ∷ c ∷ d ∷ left) h =
    unit_bytes done left a b c d h.0 h.1 (λ u. inside (after_high u) done left) (λ u. inside plain (done ++ encode_utf8 u) left)
inside (after_high k) done [] h = tt
inside (after_high k) done (s ∷ []) h = tt
inside (after_high k) done (s ∷ t ∷ []) h = tt
inside (after_high k) done (s ∷ t ∷ a ∷ []) h = tt
inside (after_high k) done (s ∷ t ∷ a ∷ b ∷ []) h = tt
inside (after_high k) done (s ∷ t ∷ a ∷ b ∷ c ∷ []) h = tt
inside (after_high k) done (s ∷ t ∷ a ∷ b ∷ c ∷ d ∷ left) h =
    low_bytes k done left s t a b c d h.0 h.1 h.2 (λ l. inside plain (done ++ encode_utf8 (surrogate_pair k l)) left)

-- where a text goes on behind a quote, so is the string
pub content_utf8 : (left : List ℕ) → IsUtf8 left → Ends [] (content plain left)
content_utf8 left utf8 = inside plain [] left utf8
