-- How often texts stand in a list to whose end a text comes, and whose first text goes.
use Rattle.std.proofs.Common.{◌≡◌, ℕ, zero, suc, ◌+◌, ◌-◌, ◌^◌, ◌<◌, ◌≤◌, Bool, true, false, cond, List, [], ◌∷◌, ◌++◌, refl, ap, sym, ◌∙◌, arith, true≢false}
use Rattle.std.specs.Prelude.{Option, Some, None, is_some, if◌then◌else◌, ◌||◌, length, min, Result, Ok, Err, IsOk, IfOk}
use Rattle.std.specs.List.{list_any}
use Rattle.std.specs.Map.{lookup}
use Rattle.std.specs.Str.{bytes_eq}
use Rattle.std.specs.Cmp.Lexicographic.{bytes_decides, nat_list_eq_equiv}
use Rattle.correlation_windows.specs.Windows.{distinct}
use Rattle.correlation_windows.specs.Tallies.{times, some_times, or_none, AreTimes}

text_is : (a b : List ℕ) → bytes_eq a b ≡ true → a ≡ b
text_is a b same = (bytes_decides a b).0 same

text_symm : (a b : List ℕ) → bytes_eq a b ≡ bytes_eq b a
text_symm a b = nat_list_eq_equiv.symm a b

text_refl : (a : List ℕ) → bytes_eq a a ≡ true
text_refl a = nat_list_eq_equiv.refl a

times_push : (q : List ℕ) (ts : List (List ℕ)) (t : List ℕ) → times q (ts ++ t ∷ []) ≡ times q ts + (if bytes_eq q t then 1 else 0)
times_push q [] t = omega arith
times_push q (x ∷ xs) t = let e : times q (xs ++ t ∷ []) ≡ times q xs + (if bytes_eq q t then 1 else 0) = times_push q xs t in omega (arith, e)

times_most : (q : List ℕ) (ts : List (List ℕ)) → times q ts ≤ length ts
times_most q [] = omega arith
times_most q (t ∷ ts) = by (bytes_eq q t) (times_most q ts)
  where
    by : (b : Bool) → times q ts ≤ length ts → (if b then 1 else 0) + times q ts ≤ length (t ∷ ts)
    by true le = omega (arith, le)
    by false le = omega (arith, le)

-- a text stands among others where its number isn't 0
any_times : (q : List ℕ) (ts : List (List ℕ)) → list_any (bytes_eq q) ts ≡ is_some (some_times (times q ts))
any_times q [] = refl
any_times q (t ∷ ts) = by (bytes_eq q t) (any_times q ts)
  where
    by : (b : Bool) → list_any (bytes_eq q) ts ≡ is_some (some_times (times q ts)) → (b || list_any (bytes_eq q) ts) ≡ is_some (some_times ((if b then 1 else 0) + times q ts))
    by true e = ap (λ (n : ℕ). is_some (some_times n)) (let one : suc (times q ts) ≡ 1 + times q ts = omega arith in one)
    by false e = e ∙ ap (λ (n : ℕ). is_some (some_times n)) (let none : times q ts ≡ 0 + times q ts = omega arith in none)

any_push : (q : List ℕ) (ts : List (List ℕ)) (t : List ℕ) → list_any (bytes_eq q) (ts ++ t ∷ []) ≡ (list_any (bytes_eq q) ts || bytes_eq q t)
any_push q [] t = by (bytes_eq q t)
  where
    by : (b : Bool) → (b || false) ≡ b
    by true = refl
    by false = refl
any_push q (x ∷ xs) t = by (bytes_eq q x) (any_push q xs t)
  where
    by : (b : Bool) → list_any (bytes_eq q) (xs ++ t ∷ []) ≡ (list_any (bytes_eq q) xs || bytes_eq q t) → (b || list_any (bytes_eq q) (xs ++ t ∷ [])) ≡ ((b || list_any (bytes_eq q) xs) || bytes_eq q t)
    by true e = refl
    by false e = e

-- a text that comes is one more where it isn't there
pub distinct_push : (ts : List (List ℕ)) (t : List ℕ) → distinct (ts ++ t ∷ []) ≡ distinct ts + (if list_any (bytes_eq t) ts then 0 else 1)
distinct_push [] t = refl
distinct_push (x ∷ xs) t =
    ap (λ (b : Bool). (if b then 0 else 1) + distinct (xs ++ t ∷ [])) (any_push x xs t)
    ∙ (ap (λ (n : ℕ). (if list_any (bytes_eq x) xs || bytes_eq x t then 0 else 1) + n) (distinct_push xs t)
    ∙ by (bytes_eq x t) refl (list_any (bytes_eq x) xs) refl (list_any (bytes_eq t) xs) refl
    ∙ ap (λ (b : Bool). ((if list_any (bytes_eq x) xs then 0 else 1) + distinct xs) + (if b || list_any (bytes_eq t) xs then 0 else 1)) (text_symm x t))
  where
    by : (s : Bool) → bytes_eq x t ≡ s → (a : Bool) → list_any (bytes_eq x) xs ≡ a → (c : Bool) → list_any (bytes_eq t) xs ≡ c
        → (if a || s then 0 else 1) + (distinct xs + (if c then 0 else 1)) ≡ ((if a then 0 else 1) + distinct xs) + (if s || c then 0 else 1)
    by true same true p true q = omega arith
    by true same false p false q = omega arith
    by true same true p false q = absurd (true≢false (sym p ∙ (ap (λ (k : List ℕ). list_any (bytes_eq k) xs) (text_is x t same) ∙ q)))
    by true same false p true q = absurd (true≢false (sym q ∙ (ap (λ (k : List ℕ). list_any (bytes_eq k) xs) (sym (text_is x t same)) ∙ p)))
    by false same true p true q = omega arith
    by false same true p false q = omega arith
    by false same false p true q = omega arith
    by false same false p false q = omega arith

or_none_times : (n : ℕ) → or_none (some_times n) ≡ n
or_none_times zero = refl
or_none_times (suc n) = refl

-- a map that has another number at one text
module _ (old new : List (List ℕ × ℕ)) (text : List ℕ) (w : Option ℕ) (set : (q : List ℕ) → lookup (bytes_eq q) new ≡ cond (bytes_eq text q) w (lookup (bytes_eq q) old)) where
  each_comes : (texts : List (List ℕ)) → AreTimes old texts → w ≡ Some (suc (times text texts)) → (q : List ℕ) → lookup (bytes_eq q) new ≡ some_times (times q (texts ++ text ∷ []))
  each_comes texts so is q = set q ∙ (by (bytes_eq text q) refl ∙ ap some_times (sym (times_push q texts text)))
    where
      by : (b : Bool) → bytes_eq text q ≡ b → cond b w (lookup (bytes_eq q) old) ≡ some_times (times q texts + (if bytes_eq q text then 1 else 0))
      by true p =
          let one : suc (times text texts) ≡ times text texts + 1 = omega arith in
          is ∙ (ap some_times one ∙ (ap (λ (b : Bool). some_times (times text texts + (if b then 1 else 0))) (sym (text_refl text)) ∙ ap (λ (k : List ℕ). some_times (times k texts + (if bytes_eq k text then 1 else 0))) (text_is text q p)))
      by false p =
          let none : times q texts ≡ times q texts + 0 = omega arith in
          so.each q ∙ (ap some_times none ∙ ap (λ (b : Bool). some_times (times q texts + (if b then 1 else 0))) (sym (text_symm q text ∙ p)))

  each_goes : (texts : List (List ℕ)) → AreTimes old (text ∷ texts) → w ≡ some_times (times text texts) → (q : List ℕ) → lookup (bytes_eq q) new ≡ some_times (times q texts)
  each_goes texts so is q = set q ∙ by (bytes_eq text q) refl
    where
      by : (b : Bool) → bytes_eq text q ≡ b → cond b w (lookup (bytes_eq q) old) ≡ some_times (times q texts)
      by true p = is ∙ ap (λ (k : List ℕ). some_times (times k texts)) (text_is text q p)
      by false p =
          let none : 0 + times q texts ≡ times q texts = omega arith in
          so.each q ∙ (ap (λ (b : Bool). some_times ((if b then 1 else 0) + times q texts)) (text_symm q text ∙ p) ∙ ap some_times none)

-- the text that comes
pub comes : (old new : List (List ℕ × ℕ)) (text : List ℕ) (n w : ℕ) (texts : List (List ℕ)) → n ≡ or_none (lookup (bytes_eq text) old) → w ≡ min (n + 1) (2 ^ 64 - 1) → length texts < 2 ^ 63
    → ((q : List ℕ) → lookup (bytes_eq q) new ≡ cond (bytes_eq text q) (Some w) (lookup (bytes_eq q) old))
    → length new ≡ length old + (if is_some (lookup (bytes_eq text) old) then 0 else 1) → AreTimes old texts → AreTimes new (texts ++ text ∷ [])
comes old new text n w texts found raised few set len so =
    let most = times_most text texts in
    let is : n ≡ times text texts = found ∙ (ap or_none (so.each text) ∙ or_none_times (times text texts)) in
    let up : w ≡ suc (times text texts) = omega (arith, raised, is, most, few) in
    record {
      each = each_comes old new text (Some w) set texts so (ap Some up);
      count = len ∙ (ap (λ (o : Option ℕ). length old + (if is_some o then 0 else 1)) (so.each text)
          ∙ (ap (λ (b : Bool). length old + (if b then 0 else 1)) (sym (any_times text texts))
          ∙ (ap (λ (k : ℕ). k + (if list_any (bytes_eq text) texts then 0 else 1)) so.count ∙ sym (distinct_push texts text))));
    }

first_times : (text : List ℕ) (texts : List (List ℕ)) → times text (text ∷ texts) ≡ suc (times text texts)
first_times text texts = ap (λ (b : Bool). (if b then 1 else 0) + times text texts) (text_refl text) ∙ (let one : 1 + times text texts ≡ suc (times text texts) = omega arith in one)

-- the first text goes, the only one of its kind
pub last_goes : (old new : List (List ℕ × ℕ)) (text : List ℕ) (n : ℕ) (left_out : Option ℕ) (texts : List (List ℕ)) → n ≡ or_none (lookup (bytes_eq text) old) → n < 2
    → ((q : List ℕ) → lookup (bytes_eq q) new ≡ cond (bytes_eq text q) None (lookup (bytes_eq q) old))
    → left_out ≡ lookup (bytes_eq text) old → length new + (if is_some left_out then 1 else 0) ≡ length old → AreTimes old (text ∷ texts) → AreTimes new texts
last_goes old new text n left_out texts found few set was len so =
    let here : lookup (bytes_eq text) old ≡ Some (suc (times text texts)) = so.each text ∙ ap some_times (first_times text texts) in
    let is : n ≡ suc (times text texts) = found ∙ ap or_none here in
    let none : times text texts ≡ 0 = omega (arith, few, is) in
    let apart : list_any (bytes_eq text) texts ≡ false = any_times text texts ∙ ap (λ (k : ℕ). is_some (some_times k)) none in
    let fewer : length new + 1 ≡ length old = ap (λ (o : Option ℕ). length new + (if is_some o then 1 else 0)) (sym (was ∙ here)) ∙ len in
    let before : length old ≡ 1 + distinct texts = so.count ∙ ap (λ (b : Bool). (if b then 0 else 1) + distinct texts) apart in
    record {
      each = each_goes old new text None set texts so (ap some_times (sym none));
      count = omega (arith, fewer, before);
    }

-- the first text goes, and stands there again
pub one_goes : (old new : List (List ℕ × ℕ)) (text : List ℕ) (n w : ℕ) (texts : List (List ℕ)) → n ≡ or_none (lookup (bytes_eq text) old) → 2 ≤ n → w ≡ n - 1
    → ((q : List ℕ) → lookup (bytes_eq q) new ≡ cond (bytes_eq text q) (Some w) (lookup (bytes_eq q) old))
    → length new ≡ length old → AreTimes old (text ∷ texts) → AreTimes new texts
one_goes old new text n w texts found many less set len so =
    let here : lookup (bytes_eq text) old ≡ Some (suc (times text texts)) = so.each text ∙ ap some_times (first_times text texts) in
    let is : n ≡ suc (times text texts) = found ∙ ap or_none here in
    let left : w ≡ times text texts = omega (arith, less, is) in
    let some : 0 < times text texts = omega (arith, many, is) in
    record {
      each = each_goes old new text (Some w) set texts so (ap Some left ∙ is_times (times text texts) some);
      count = len ∙ (so.count ∙ (ap (λ (b : Bool). (if b then 0 else 1) + distinct texts) (any_times text texts ∙ still (times text texts) some) ∙ (let none : 0 + distinct texts ≡ distinct texts = omega arith in none)));
    }
  where
    is_times : (k : ℕ) → 0 < k → Some k ≡ some_times k
    is_times zero lt = absurd (omega (arith, lt))
    is_times (suc k) lt = refl

    still : (k : ℕ) → 0 < k → is_some (some_times k) ≡ true
    still zero lt = absurd (omega (arith, lt))
    still (suc k) lt = refl

-- a map into which a text was put is one longer where it didn't have the text
pub more_long : {E : Type 0} (r : Result (Option ℕ) E) (o : Option ℕ) (new old : ℕ) → IsOk r → IfOk r (λ was. was ≡ o) → IfOk r (λ was. new ≡ old + (if is_some was then 0 else 1)) → new ≡ old + (if is_some o then 0 else 1)
more_long (Ok was) o new old ok is len = len ∙ ap (λ (p : Option ℕ). old + (if is_some p then 0 else 1)) is
more_long (Err e) o new old ok is len = absurd (true≢false (sym ok))
