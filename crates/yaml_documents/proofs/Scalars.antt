-- Texts of Unicode scalar values stay such where they are cut, joined and read.
use Rattle.std.proofs.Common.{◌≡◌, ℕ, zero, suc, ◌+◌, ◌-◌, ◌*◌, ◌≤◌, Bool, true, false, cond, not, ◌&&◌, ◌==◌, nat_le, List, [], ◌∷◌, ◌++◌, take, drop, Option, Some, None, option_map, option_and_then, Ok, Err, refl, subst, arith}
use Rattle.std.specs.Char.{IsScalar}
use Rattle.std.specs.List.{AllByRecursion, prefix_len}
use Rattle.std.specs.Str.{all_scalars}
use Rattle.std.proofs.Math.Utf8.{scalar}
use Rattle.std.proofs.lemmas.Bool.Decides.{nat_tests}
use Rattle.std.proofs.lemmas.Bool.{and_parts}
use Rattle.yaml_inline.specs.File.{is_blank, is_empty, skip_blanks}
use Rattle.yaml_inline.specs.Line.{Read, ◌>>=◌, plain_len, trimmed, plain_front, plain_rest}
use Rattle.sig_base.specs.Digits.{is_digit}
use Rattle.yaml_inline.specs.Scalar.{Quoted, closed, open_ended, bad_escape, behind, passed, single, hex_value, hex_step, hex_front, is_surrogate, taking, escape, escaped, double, feeds, joint}

abbrev pub AreScalars : List ℕ → Type 0
AreScalars cs = AllByRecursion IsScalar cs

pub are_scalars : (cs : List ℕ) → all_scalars cs ≡ true → AreScalars cs
are_scalars [] e = tt
are_scalars (c ∷ cs) e = let each = and_parts (scalar c) (all_scalars cs) e in (each.0, are_scalars cs each.1)

pub all_of_scalars : (cs : List ℕ) → AreScalars cs → all_scalars cs ≡ true
all_of_scalars [] h = refl
all_of_scalars (c ∷ cs) h = let here = h.0 in rw here (all_of_scalars cs h.1)

-- ---- on either branch, of each element, and where the reading does not stop

pub if_both : {A : Type 0} (P : A → Type 0) (b : Bool) (x y : A) → P x → P y → P (cond b x y)
if_both P true x y h k = h
if_both P false x y h k = k

pub all_drop : {A : Type 0} (P : A → Type 0) (n : ℕ) (xs : List A) → AllByRecursion P xs → AllByRecursion P (drop n xs)
all_drop P zero xs h = h
all_drop P (suc n) [] h = tt
all_drop P (suc n) (x ∷ xs) h = all_drop P n xs h.1

pub all_take : {A : Type 0} (P : A → Type 0) (n : ℕ) (xs : List A) → AllByRecursion P xs → AllByRecursion P (take n xs)
all_take P zero xs h = tt
all_take P (suc n) [] h = tt
all_take P (suc n) (x ∷ xs) h = (h.0, all_take P n xs h.1)

pub all_append : {A : Type 0} (P : A → Type 0) (xs ys : List A) → AllByRecursion P xs → AllByRecursion P ys → AllByRecursion P (xs ++ ys)
all_append P [] ys h k = k
all_append P (x ∷ xs) ys h k = (h.0, all_append P xs ys h.1 k)

abbrev pub Gives : {A : Type 0} → (A → Type 0) → Read A → Type 0
Gives P (Ok x) = P x
Gives P (Err s) = Unit {0}

pub gives_then : {A B : Type 0} (P : A → Type 0) (Q : B → Type 0) (r : Read A) (f : A → Read B) → Gives P r → ((x : A) → P x → Gives Q (f x)) → Gives Q (r >>= f)
gives_then P Q (Ok x) f h more = more x h
gives_then P Q (Err s) f h more = tt

pub given : {A : Type 0} (P : A → Type 0) (r : Read A) (x : A) → Gives P r → r ≡ Ok x → P x
given P r x h e = subst (Gives P) e h

-- ---- parts of texts

pub drop_scalars : (n : ℕ) (cs : List ℕ) → AreScalars cs → AreScalars (drop n cs)
drop_scalars n cs h = all_drop IsScalar n cs h

pub append_scalars : (cs ds : List ℕ) → AreScalars cs → AreScalars ds → AreScalars (cs ++ ds)
append_scalars cs ds h k = all_append IsScalar cs ds h k

pub skip_scalars : (cs : List ℕ) → AreScalars cs → AreScalars (skip_blanks cs)
unfolding skip_blanks
skip_scalars cs h = drop_scalars (prefix_len is_blank cs) cs h

trimmed_scalars : (cs : List ℕ) → AreScalars cs → AreScalars (trimmed cs)
unfolding trimmed
trimmed_scalars [] h = tt
trimmed_scalars (c ∷ cs) h = if_both AreScalars (is_blank c && is_empty (trimmed cs)) [] (c ∷ trimmed cs) tt (h.0, trimmed_scalars cs h.1)

pub front_scalars : (in_flow : Bool) (cs : List ℕ) → AreScalars cs → AreScalars (plain_front in_flow cs)
unfolding plain_front
front_scalars in_flow cs h = trimmed_scalars (take (plain_len in_flow cs) cs) (all_take IsScalar (plain_len in_flow cs) cs h)

pub rest_scalars : (in_flow : Bool) (cs : List ℕ) → AreScalars cs → AreScalars (plain_rest in_flow cs)
unfolding plain_rest
rest_scalars in_flow cs h = drop_scalars (plain_len in_flow cs) cs h

pub feeds_scalars : (n : ℕ) → AreScalars (feeds n)
feeds_scalars zero = tt
feeds_scalars (suc n) = (refl, feeds_scalars n)

pub joint_scalars : (blank : Bool) (n : ℕ) → AreScalars (joint blank n)
joint_scalars blank n = if_both AreScalars blank (feeds (suc n)) (cond (n == 0) (32 ∷ []) (feeds n)) (feeds_scalars (suc n)) (if_both AreScalars (n == 0) (32 ∷ []) (feeds n) (refl, tt) (feeds_scalars n))

-- ---- escapes

abbrev IfThere : {A : Type 0} → (A → Type 0) → Option A → Type 0
IfThere P None = Unit {0}
IfThere P (Some x) = P x

abbrev AtMost : ℕ → Option ℕ → Type 0
AtMost most o = IfThere (λ v. v ≤ most) o

digit_small : (c : ℕ) → AtMost 15 (hex_value c)
digit_small c = first (is_digit c) refl where
  upper : (b : Bool) → (nat_le 65 c && nat_le c 70) ≡ b → AtMost 15 (cond b (Some (c - 55)) None)
  upper true is = grind (arith, nat_tests)
  upper false is = tt

  lower : (b : Bool) → (nat_le 97 c && nat_le c 102) ≡ b → AtMost 15 (cond b (Some (c - 87)) (cond (nat_le 65 c && nat_le c 70) (Some (c - 55)) None))
  lower true is = grind (arith, nat_tests)
  lower false is = upper (nat_le 65 c && nat_le c 70) refl

  first : (b : Bool) → is_digit c ≡ b
      → AtMost 15 (cond b (Some (c - 48)) (cond (nat_le 97 c && nat_le c 102) (Some (c - 87)) (cond (nat_le 65 c && nat_le c 70) (Some (c - 55)) None)))
  first true is = grind (arith, nat_tests)
  first false is = lower (nat_le 97 c && nat_le c 102) refl

step_small : (v most : ℕ) (cs : List ℕ) → v ≤ most → IfThere (λ (p : ℕ × List ℕ). p.0 ≤ 16 * most + 15) (hex_step v cs)
step_small v most [] small = tt
step_small v most (c ∷ cs) small = by (hex_value c) (digit_small c) where
  by : (o : Option ℕ) → AtMost 15 o → IfThere (λ (p : ℕ × List ℕ). p.0 ≤ 16 * most + 15) (option_map (λ d. (16 * v + d, cs)) o)
  by None h = tt
  by (Some d) h = omega arith

-- the greatest number with n more hexadecimal digits
abbrev grown : ℕ → ℕ → ℕ
grown zero most = most
grown (suc n) most = grown n (16 * most + 15)

hex_small : (n v most : ℕ) (cs : List ℕ) → v ≤ most → AtMost (grown n most) (hex_front n v cs)
hex_small zero v most cs small = small
hex_small (suc n) v most cs small = by (hex_step v cs) (step_small v most cs small) (λ w ds. hex_small n w (16 * most + 15) ds) where
  by : (o : Option (ℕ × List ℕ)) → IfThere (λ (p : ℕ × List ℕ). p.0 ≤ 16 * most + 15) o
      → ((w : ℕ) (ds : List ℕ) → w ≤ 16 * most + 15 → AtMost (grown n (16 * most + 15)) (hex_front n w ds))
      → AtMost (grown n (16 * most + 15)) (option_and_then (λ p. hex_front n p.0 p.1) o)
  by None h more = tt
  by (Some p) h more = more p.0 p.1 h

abbrev IsEscape : Option (ℕ × ℕ) → Type 0
IsEscape o = IfThere (λ (e : ℕ × ℕ). IsScalar e.0) o

-- A number of four hexadecimal digits that is no surrogate is a scalar value.
no_surrogate : (v : ℕ) → v ≤ 65535 → is_surrogate v ≡ false → IsScalar v
no_surrogate v small other = grind (arith, nat_tests)

taking_scalar : (n : ℕ) (o : Option ℕ) → AtMost 65535 o → IsEscape (taking n o)
taking_scalar n None small = tt
taking_scalar n (Some v) small = by (is_surrogate v) refl where
  by : (b : Bool) → is_surrogate v ≡ b → IsEscape (option_map (λ w. (w, n)) (let o : Option ℕ = cond b None (Some v) in o))
  by true is = tt
  by false is = no_surrogate v small is

escape_scalar : (cs : List ℕ) → IsEscape (escape cs)
unfolding escape
escape_scalar [] = tt
escape_scalar (c ∷ cs) =
    if_both IsEscape (c == 92) _ _ refl (if_both IsEscape (c == 34) _ _ refl (if_both IsEscape (c == 47) _ _ refl
    (if_both IsEscape (c == 110) _ _ refl (if_both IsEscape (c == 116) _ _ refl (if_both IsEscape (c == 114) _ _ refl
    (if_both IsEscape (c == 48) _ _ refl
    (if_both IsEscape (c == 120) _ _ (taking_scalar 3 (hex_front 2 0 cs) (two (hex_front 2 0 cs) (hex_small 2 0 0 cs (omega arith))))
    (if_both IsEscape (c == 117) _ _ (taking_scalar 5 (hex_front 4 0 cs) (hex_small 4 0 0 cs (omega arith))) tt))))))))
  where
    two : (o : Option ℕ) → AtMost 255 o → AtMost 65535 o
    two None h = tt
    two (Some v) h = omega arith

-- ---- quotes

-- where the quotes close
abbrev pub ClosesOver : Quoted → Type 0
ClosesOver (closed t rest) = AreScalars t × AreScalars rest
ClosesOver open_ended = Unit {0}
ClosesOver (bad_escape n) = Unit {0}

behind_closes : (c : ℕ) (q : Quoted) → IsScalar c → ClosesOver q → ClosesOver (behind c q)
behind_closes c (closed t rest) first h = ((first, h.0), h.1)
behind_closes c open_ended first h = tt
behind_closes c (bad_escape n) first h = tt

passed_closes : (q : Quoted) → ClosesOver q → ClosesOver (passed q)
passed_closes (closed t rest) h = h
passed_closes open_ended h = tt
passed_closes (bad_escape n) h = tt

pub single_closes : (cs : List ℕ) → AreScalars cs → ClosesOver (single cs)
unfolding single
single_closes [] h = tt
single_closes (c ∷ []) h = if_both ClosesOver (c == 39) _ _ (tt, tt) tt
single_closes (c ∷ d ∷ ds) h =
    if_both ClosesOver (not (c == 39)) _ _
    (behind_closes c (single (d ∷ ds)) h.0 (single_closes (d ∷ ds) h.1))
    (if_both ClosesOver (d == 39) _ _ (behind_closes 39 (single ds) refl (single_closes ds h.1.1)) (tt, h.1))

escaped_closes : (f : ℕ → Quoted) (o : Option (ℕ × ℕ)) → IsEscape o → ((k : ℕ) → ClosesOver (f k)) → ClosesOver (escaped f o)
escaped_closes f None is h = tt
escaped_closes f (Some e) is h = behind_closes e.0 (f e.1) is (h e.1)

pub double_closes : (n : ℕ) (cs : List ℕ) → AreScalars cs → ClosesOver (double n cs)
unfolding double
double_closes zero [] h = tt
double_closes (suc n) [] h = tt
double_closes (suc n) (c ∷ cs) h = passed_closes (double n cs) (double_closes n cs h.1)
double_closes zero (c ∷ cs) h =
    if_both ClosesOver (c == 34) _ _ (tt, h.1)
    (if_both ClosesOver (c == 92) _ _
    (escaped_closes (λ k. double k cs) (escape cs) (escape_scalar cs) (λ k. double_closes k cs h.1))
    (behind_closes c (double zero cs) h.0 (double_closes zero cs h.1)))
