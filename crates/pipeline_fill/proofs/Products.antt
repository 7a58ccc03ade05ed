-- Fillings that are counted and measured before they're made.
use Rattle.std.proofs.Common.{ℕ, zero, suc, ◌+◌, ◌*◌, ◌-◌, ◌^◌, ◌<◌, ◌≤◌, min, nat_le, ◌≡◌, Bool, true, false, length, get_or, drop, map, List, [], ◌∷◌, ◌++◌, refl, sym, subst, ap, ◌∙◌}
use native.Mathlib.Omega.{arith}
use Rattle.std.specs.Prelude.{if◌then◌else◌, ◌==◌}
use Rattle.std.proofs.lemmas.Bool.Decides.{nat_tests}
use Rattle.std.proofs.Math.Nat.{mul-zero, mul-suc, suc-mul, mul_assoc, mul_comm, mul-add, add-mul}
use Rattle.std.proofs.lemmas.Nat.{mul-le}
use Rattle.std.proofs.lemmas.Bool.{leb-true, leb-false}
use Rattle.std.proofs.lemmas.List.{drop_more, length-map, length-append}
use Rattle.sig_strings.specs.declared.part.Part.{Part}
use Rattle.pipeline_model.specs.declared.pipeline.Var.{Var}
use Rattle.pipeline_model.specs.declared.step.Action.{Action}
use Rattle.pipeline_fill.specs.declared.filling.Filling.{Filling}
use Rattle.pipeline_limits.specs.Sizes.{total}
use Rattle.pipeline_fill.specs.Counts.{capped}
use Rattle.pipeline_fill.specs.Entries.{largest}
use Rattle.pipeline_fill.specs.Filled.{choices, crossed, filled}
use Rattle.pipeline_fill.specs.Made.{counted, summed, filled_extent, fills, IsFilling, IsMeasured}
use Rattle.pipeline_fill.proofs.Sums.{largest_append, total_append}

-- ---- the product

cap_mul : (a c most : ℕ) → min (min a most * c) most ≡ min (a * c) most
cap_mul a zero most = ap (λ (n : ℕ). min n most) (mul-zero (min a most) ∙ sym (mul-zero a))
cap_mul a (suc c) most = by (nat_le a most) refl
  where
    by : (b : Bool) → nat_le a most ≡ b → min (min a most * suc c) most ≡ min (a * suc c) most
    by true e =
        let h : a ≤ most = leb-true a most e in
        let same : min a most ≡ a = omega (arith, h) in
        ap (λ (n : ℕ). min (n * suc c) most) same
    by false e =
        let h : most < a = leb-false a most e in
        let same : min a most ≡ most = omega (arith, h) in
        let one : 1 ≤ suc c = omega arith in
        let low : most * 1 ≤ most * suc c = mul-le most 1 most (suc c) (omega arith) one in
        let high : most * 1 ≤ a * suc c = mul-le most 1 a (suc c) (omega (arith, h)) one in
        ap (λ (n : ℕ). min (n * suc c) most) same ∙ omega (arith, low, high)

pub counted_turn : (vars : List Var) (action : Action) (parts : List Part) (i : ℕ) (x : Part) (f : Filling) (count n new : ℕ)
    → capped (count * counted vars action (drop i parts)) ≡ capped (counted vars action parts) → i < length parts → x ≡ get_or parts i x
    → IsFilling vars action x f → ((part : Part) → n ≡ length (fills part f)) → new ≡ capped (count * n)
    → capped (new * counted vars action (drop (i + 1) parts)) ≡ capped (counted vars action parts)
counted_turn vars action parts i x f count n new same inside is filling counts made =
    let front : drop i parts ≡ x ∷ drop (i + 1) parts = drop_more parts i x inside ∙ ap (λ (y : Part). y ∷ drop (i + 1) parts) (sym is) in
    let here : n ≡ length (choices vars action x) = counts x ∙ ap (λ (cs : List (List Part)). length cs) (sym filling.stands) in
    ap (λ (m : ℕ). capped (m * counted vars action (drop (i + 1) parts))) made
    ∙ (cap_mul (count * n) (counted vars action (drop (i + 1) parts)) (2 ^ 127 - 1)
    ∙ (ap (λ (m : ℕ). capped ((count * m) * counted vars action (drop (i + 1) parts))) here
    ∙ (ap capped (mul_assoc count (length (choices vars action x)) (counted vars action (drop (i + 1) parts)))
    ∙ (sym (ap (λ (ps : List Part). capped (count * counted vars action ps)) front) ∙ same))))

length_crossed : (fronts more : List (List Part)) → length (crossed fronts more) ≡ length fronts * length more
length_crossed [] more = omega arith
length_crossed (f ∷ fs) more =
    let first = length-append (map (λ rest. f ++ rest) more) (crossed fs more) in
    let rest = length_crossed fs more in
    let here = length-map more (λ (rest : List Part). f ++ rest) in
    let step = suc-mul (length fs) (length more) in
    omega (arith, first, rest, here, step)

-- the product is how many there are
pub counted_is : (vars : List Var) (action : Action) (parts : List Part) → length (filled vars action parts) ≡ counted vars action parts
counted_is vars action [] = refl
counted_is vars action (part ∷ parts) =
    length_crossed (choices vars action part) (filled vars action parts) ∙ ap (λ (n : ℕ). length (choices vars action part) * n) (counted_is vars action parts)

-- ---- the longest

pub summed_turn : (vars : List Var) (action : Action) (parts : List Part) (i : ℕ) (x : Part) (f : Filling) (longest n new : ℕ)
    → capped (longest + summed vars action (drop i parts)) ≡ capped (summed vars action parts) → i < length parts → x ≡ get_or parts i x
    → IsFilling vars action x f → ((part : Part) → IsMeasured f → n ≡ largest length (fills part f)) → new ≡ capped (longest + n)
    → capped (new + summed vars action (drop (i + 1) parts)) ≡ capped (summed vars action parts)
summed_turn vars action parts i x f longest n new same inside is filling measures made =
    let front : drop i parts ≡ x ∷ drop (i + 1) parts = drop_more parts i x inside ∙ ap (λ (y : Part). y ∷ drop (i + 1) parts) (sym is) in
    let here : n ≡ largest length (choices vars action x) =
    measures x filling.measured ∙ ap (λ (cs : List (List Part)). largest length cs) (sym filling.stands) in
    let all : summed vars action (drop i parts) ≡ largest length (choices vars action x) + summed vars action (drop (i + 1) parts) =
    ap (λ (ps : List Part). summed vars action ps) front in
    omega (arith, here, all, made, same)

longest_map : (x m : List Part) (ms : List (List Part)) → largest length (map (λ rest. x ++ rest) (m ∷ ms)) ≡ length x + largest length (m ∷ ms)
longest_map x m [] = let here = length-append x m in omega (arith, here)
longest_map x m (n ∷ ms) = let here = length-append x m in let rest = longest_map x n ms in omega (arith, here, rest)

longest_crossed : (x : List Part) (xs : List (List Part)) (m : List Part) (ms : List (List Part))
    → largest length (crossed (x ∷ xs) (m ∷ ms)) ≡ largest length (x ∷ xs) + largest length (m ∷ ms)
longest_crossed x [] m ms =
    let both = largest_append (λ (p : List Part). length p) (map (λ rest. x ++ rest) (m ∷ ms)) [] in
    let here = longest_map x m ms in
    omega (arith, both, here)
longest_crossed x (y ∷ xs) m ms =
    let both = largest_append (λ (p : List Part). length p) (map (λ rest. x ++ rest) (m ∷ ms)) (crossed (y ∷ xs) (m ∷ ms)) in
    let here = longest_map x m ms in
    let rest = longest_crossed y xs m ms in
    omega (arith, both, here, rest)

crossed_long : (cs more : List (List Part)) (n : ℕ) → 1 ≤ length cs * length more → largest length more ≡ n
    → largest length (crossed cs more) ≡ largest length cs + n
crossed_long [] more n some is = absurd (let h : 1 ≤ 0 * length more = some in omega (arith, h))
crossed_long (c ∷ cs) [] n some is = absurd (let h : 1 ≤ length (c ∷ cs) * 0 = some in let e = mul-zero (length (c ∷ cs)) in omega (arith, h, e))
crossed_long (c ∷ cs) (m ∷ ms) n some is = longest_crossed c cs m ms ∙ ap (λ (k : ℕ). largest length (c ∷ cs) + k) is

some_right : (a b : ℕ) → 1 ≤ a * b → 1 ≤ b
some_right a zero h = absurd (let e = mul-zero a in omega (arith, h, e))
some_right a (suc b) h = omega arith

-- where there is a filling, the longest has the longest of what may stand in each part's place
longest_filled : (vars : List Var) (action : Action) (parts : List Part) → 1 ≤ counted vars action parts → largest length (filled vars action parts) ≡ summed vars action parts
longest_filled vars action [] some = refl
longest_filled vars action (part ∷ parts) some =
    crossed_long (choices vars action part) (filled vars action parts) (summed vars action parts)
    (subst (λ (n : ℕ). 1 ≤ length (choices vars action part) * n) (sym (counted_is vars action parts)) some)
    (longest_filled vars action parts (some_right (length (choices vars action part)) (counted vars action parts) some))

none_long : (xs : List (List Part)) → length xs ≡ 0 → largest length xs ≡ 0
none_long [] none = refl
none_long (x ∷ xs) none = absurd (let h : suc (length xs) ≡ 0 = none in omega (arith, h))

pub longest_told : (vars : List Var) (action : Action) (parts : List Part) (tests longest : ℕ) → tests ≡ capped (counted vars action parts)
    → longest ≡ capped (summed vars action parts) → (if tests == 0 then 0 else longest) ≡ capped (largest length (filled vars action parts))
longest_told vars action parts tests longest counts measures = by (tests == 0) refl
  where
    by : (b : Bool) → (tests == 0) ≡ b → (if b then 0 else longest) ≡ capped (largest length (filled vars action parts))
    by true e =
        let zero_tests : tests ≡ 0 = grind (arith, nat_tests) in
        let none : counted vars action parts ≡ 0 = omega (arith, counts, zero_tests) in
        let empty = none_long (filled vars action parts) (counted_is vars action parts ∙ none) in
        omega (arith, empty)
    by false e =
        let some_tests : 1 ≤ tests = grind (arith, nat_tests) in
        measures ∙ ap capped (sym (longest_filled vars action parts (omega (arith, counts, some_tests))))

-- ---- all together

mul_same : (a b c : ℕ) → capped a ≡ capped b → capped (c * a) ≡ capped (c * b)
mul_same a b c same =
    ap capped (mul_comm c a)
    ∙ (sym (cap_mul a c (2 ^ 127 - 1)) ∙ (ap (λ (n : ℕ). min (n * c) (2 ^ 127 - 1)) same ∙ (cap_mul b c (2 ^ 127 - 1) ∙ ap capped (mul_comm b c))))

cap_sum : (a b x y z w : ℕ) → capped a ≡ capped x → capped b ≡ capped y → x + y ≡ z → capped z ≡ capped w → capped (a + b) ≡ capped w
cap_sum a b x y z w one two sums same = omega (arith, one, two, sums, same)

pub behind_each : (tests extent count sum n t more new made : ℕ) → made ≡ capped (more + new) → more ≡ capped (extent * n) → new ≡ capped (tests * t)
    → n ≡ count → t ≡ capped sum → made ≡ capped (extent * count + tests * sum)
behind_each tests extent count sum n t more new made all old others counts sums =
    let first : capped more ≡ capped (extent * count) = more_is (ap (λ (m : ℕ). capped (extent * m)) counts) in
    let second : capped new ≡ capped (tests * sum) = new_is (mul_same t sum tests (capped_is t sum sums)) in
    all ∙ cap_sum more new (extent * count) (tests * sum) (extent * count + tests * sum) (extent * count + tests * sum) first second refl refl
  where
    capped_is : (a b : ℕ) → a ≡ capped b → capped a ≡ capped b
    capped_is a b e = omega (arith, e)

    more_is : capped (extent * n) ≡ capped (extent * count) → capped more ≡ capped (extent * count)
    more_is e = capped_is more (extent * n) old ∙ e

    new_is : capped (tests * t) ≡ capped (tests * sum) → capped new ≡ capped (tests * sum)
    new_is e = capped_is new (tests * t) others ∙ e

both_behind : (extent tests count sum others more : ℕ)
    → (extent * count + tests * sum) * others + tests * count * more ≡ extent * (count * others) + tests * (sum * others + count * more)
both_behind extent tests count sum others more =
    ap (λ (n : ℕ). n + tests * count * more) (add-mul (extent * count) (tests * sum) others)
    ∙ add_up (extent * count * others) (tests * sum * others) (tests * count * more) (extent * (count * others)) (tests * (sum * others)) (tests * (count * more)) (tests * (sum * others + count * more))
    (mul_assoc extent count others) (mul_assoc tests sum others) (mul_assoc tests count more) (mul-add tests (sum * others) (count * more))
  where
    add_up : (a b c d e f g : ℕ) → a ≡ d → b ≡ e → c ≡ f → g ≡ e + f → a + b + c ≡ d + g
    add_up a b c d e f g p q r s = omega (arith, p, q, r, s)

pub extended_turn : (vars : List Var) (action : Action) (parts : List Part) (i : ℕ) (x : Part) (f : Filling) (tests extent n counts new : ℕ)
    → capped (extent * counted vars action (drop i parts) + tests * filled_extent vars action (drop i parts)) ≡ capped (filled_extent vars action parts) → i < length parts
    → x ≡ get_or parts i x → IsFilling vars action x f → ((part : Part) → n ≡ length (fills part f)) → counts ≡ capped (tests * n)
    → ((part : Part) → IsMeasured f → new ≡ capped (extent * length (fills part f) + tests * total length (fills part f)))
    → capped (new * counted vars action (drop (i + 1) parts) + counts * filled_extent vars action (drop (i + 1) parts)) ≡ capped (filled_extent vars action parts)
extended_turn vars action parts i x f tests extent n counts new same inside is filling many counted_so measures =
    let others : ℕ = counted vars action (drop (i + 1) parts) in
    let more : ℕ = filled_extent vars action (drop (i + 1) parts) in
    let count : ℕ = length (choices vars action x) in
    let sum : ℕ = total length (choices vars action x) in
    let front : drop i parts ≡ x ∷ drop (i + 1) parts = drop_more parts i x inside ∙ ap (λ (y : Part). y ∷ drop (i + 1) parts) (sym is) in
    let here : n ≡ count = many x ∙ ap (λ (cs : List (List Part)). length cs) (sym filling.stands) in
    let made : new ≡ capped (extent * count + tests * sum) =
    measures x filling.measured ∙ ap (λ (cs : List (List Part)). capped (extent * length cs + tests * total length cs)) (sym filling.stands) in
    let one : capped (new * others) ≡ capped ((extent * count + tests * sum) * others) =
    ap (λ (m : ℕ). capped (m * others)) made ∙ cap_mul (extent * count + tests * sum) others (2 ^ 127 - 1) in
    let two : capped (counts * more) ≡ capped (tests * count * more) =
    ap (λ (m : ℕ). capped (m * more)) (counted_so ∙ ap (λ (m : ℕ). capped (tests * m)) here) ∙ cap_mul (tests * count) more (2 ^ 127 - 1) in
    let left : capped (extent * (count * others) + tests * (sum * others + count * more)) ≡ capped (filled_extent vars action parts) =
    sym (ap (λ (ps : List Part). capped (extent * counted vars action ps + tests * filled_extent vars action ps)) front) ∙ same in
    cap_sum (new * others) (counts * more) ((extent * count + tests * sum) * others) (tests * count * more) (extent * (count * others) + tests * (sum * others + count * more))
    (filled_extent vars action parts) one two (both_behind extent tests count sum others more) left

total_map : (x : List Part) (more : List (List Part)) → total length (map (λ rest. x ++ rest) more) ≡ length x * length more + total length more
total_map x [] = let e = mul-zero (length x) in omega (arith, e)
total_map x (m ∷ ms) =
    let here = length-append x m in
    let rest = total_map x ms in
    let step = mul-suc (length x) (length ms) in
    omega (arith, here, rest, step)

total_crossed : (fronts more : List (List Part)) → total length (crossed fronts more) ≡ total length fronts * length more + length fronts * total length more
total_crossed [] more = omega arith
total_crossed (f ∷ fs) more =
    let both = total_append (λ (p : List Part). length p) (map (λ rest. f ++ rest) more) (crossed fs more) in
    let here = total_map f more in
    let rest = total_crossed fs more in
    let front = add-mul (length f) (total length fs) (length more) in
    let step = suc-mul (length fs) (total length more) in
    omega (arith, both, here, rest, front, step)

-- what is reckoned is how many parts all fillings have together
pub extended_is : (vars : List Var) (action : Action) (parts : List Part) → total length (filled vars action parts) ≡ filled_extent vars action parts
extended_is vars action [] = refl
extended_is vars action (part ∷ parts) =
    total_crossed (choices vars action part) (filled vars action parts)
    ∙ (ap (λ (n : ℕ). total length (choices vars action part) * n + length (choices vars action part) * total length (filled vars action parts)) (counted_is vars action parts)
    ∙ ap (λ (n : ℕ). total length (choices vars action part) * counted vars action parts + length (choices vars action part) * n) (extended_is vars action parts))
