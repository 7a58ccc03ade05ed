-- A chain in halves has the chain's value, and is no deeper than 63 and one for each halving above its deepest part.
use Rattle.std.proofs.Common.{ℕ, zero, suc, ◌+◌, ◌*◌, ◌^◌, ◌≡◌, ◌≤◌, ◌<◌, refl, sym, ◌∙◌, ap, Bool, true, false, List, arith, max, subst}
use Rattle.std.specs.Prelude.{Option, nat_le}
use Rattle.std.proofs.lemmas.Bool.Decides.{nat_tests}
use Rattle.event_schema.specs.declared.schema.Field.{Field}
use Rattle.event_schema.specs.declared.value.Value.{Value}
use Rattle.sql_lang.specs.Grammar.{Ors, last_and, and_or, Ands, last_not, not_and, Nots, enclosed}
use Rattle.sql_lang.specs.Expression.{or_expr, or_exprs, and_expr, and_exprs, not_expr, depth, chain_depth}
use Rattle.sql_lang.specs.Meaning.{Truth, both, either}
use Rattle.sql_layout.specs.Halves.{or_join, and_join, or_count, and_count, first_ors, later_ors, first_ands, later_ands, middle, ors_in_halves, ands_in_halves, halved_ors, halved_ands, ShallowOrs, ShallowAnds}
use Rattle.sql_layout.proofs.Joined.{value_or, value_and, joined_or, joined_and}

-- ---- a chain is its two parts

pub count_some : (o : Ors) → 1 ≤ or_count o
count_some (last_and a) = omega arith
count_some (and_or a o) = omega arith

ors_parted : (k : ℕ) (o : Ors) → suc k < or_count o → or_join (first_ors k o) (later_ors k o) ≡ o
ors_parted k (last_and a) more = absurd (omega arith)
ors_parted zero (and_or a o) more = refl
ors_parted (suc k) (and_or a o) more = ap (λ (p : Ors). and_or a p) (ors_parted k o (omega (arith, more)))

first_count : (k : ℕ) (o : Ors) → suc k < or_count o → or_count (first_ors k o) ≡ suc k
first_count k (last_and a) more = absurd (omega arith)
first_count zero (and_or a o) more = refl
first_count (suc k) (and_or a o) more = ap suc (first_count k o (omega (arith, more)))

pub later_count : (k : ℕ) (o : Ors) → suc k < or_count o → suc k + or_count (later_ors k o) ≡ or_count o
later_count k (last_and a) more = absurd (omega arith)
later_count zero (and_or a o) more = omega arith
later_count (suc k) (and_or a o) more = let h = later_count k o (omega (arith, more)) in omega (arith, h)

-- ---- the value

module _ (fields : List Field) (row : List (Option Value)) where
  or_step : (n : ℕ) (o : Ors) (b : Bool) → nat_le (or_count o) 64 ≡ b
      → ((p : Ors) → value_or fields row (ors_in_halves n p) ≡ value_or fields row p)
      → value_or fields row (ors_in_halves (suc n) o) ≡ value_or fields row o
  unfolding ors_in_halves
  or_step n o true is below = rw is refl
  or_step n o false is below =
      let k = middle (or_count o) in
      let first = ors_in_halves n (first_ors k o) in
      let second = ors_in_halves n (later_ors k o) in
      let more : suc k < or_count o = longer (or_count o) is in
      let same : value_or fields row (or_join first (last_and (last_not (enclosed second)))) ≡ value_or fields row o =
      joined_or fields row first (last_and (last_not (enclosed second)))
      ∙ (ap (λ (v : Truth). either v (value_or fields row second)) (below (first_ors k o))
      ∙ (ap (λ (v : Truth). either (value_or fields row (first_ors k o)) v) (below (later_ors k o))
      ∙ (sym (joined_or fields row (first_ors k o) (later_ors k o)) ∙ ap (value_or fields row) (ors_parted k o more)))) in
      rw is same
    where
      longer : (count : ℕ) → nat_le count 64 ≡ false → suc (middle count) < count
      longer count h = grind (arith, nat_tests)

  pub halves_value_or : (n : ℕ) (o : Ors) → value_or fields row (ors_in_halves n o) ≡ value_or fields row o
  unfolding ors_in_halves
  halves_value_or zero o = refl
  halves_value_or (suc n) o = or_step n o (nat_le (or_count o) 64) refl (halves_value_or n)

-- ---- the depth

module _ (fields : List Field) (d : ℕ) where
  shallow_first : (k : ℕ) (o : Ors) → ShallowOrs fields d o → ShallowOrs fields d (first_ors k o)
  shallow_first k (last_and a) s = s
  shallow_first zero (and_or a o) s = s.0
  shallow_first (suc k) (and_or a o) s = (s.0, shallow_first k o s.1)

  shallow_later : (k : ℕ) (o : Ors) → ShallowOrs fields d o → ShallowOrs fields d (later_ors k o)
  shallow_later k (last_and a) s = s
  shallow_later zero (and_or a o) s = s.1
  shallow_later (suc k) (and_or a o) s = shallow_later k o s.1

  -- a chain is at most one deeper for each part behind its first
  chain_bound : (o : Ors) (e : ℕ) → d ≤ e → ShallowOrs fields d o → chain_depth (or_exprs fields o) e ≤ e + or_count o
  chain_bound (last_and a) e under s = omega (arith, under, s)
  chain_bound (and_or a o) e under s =
      let here = s.0 in
      let f : 1 + max e (depth (and_expr fields a)) ≡ suc e = omega (arith, under, here) in
      let more = chain_bound o (suc e) (omega (arith, under)) s.1 in
      let whole : chain_depth (or_exprs fields o) (1 + max e (depth (and_expr fields a))) ≤ suc e + or_count o
      = subst (λ (x : ℕ). chain_depth (or_exprs fields o) x ≤ suc e + or_count o) (sym f) more in
      omega (arith, whole)

  chain_grows : (o : Ors) (e f : ℕ) → e ≤ f → chain_depth (or_exprs fields o) e ≤ chain_depth (or_exprs fields o) f
  chain_grows (last_and a) e f under = omega (arith, under)
  chain_grows (and_or a o) e f under = chain_grows o (1 + max e (depth (and_expr fields a))) (1 + max f (depth (and_expr fields a))) (omega (arith, under))

  plain_bound : (o : Ors) → ShallowOrs fields d o → suc (depth (or_expr fields o)) ≤ d + or_count o
  plain_bound (last_and a) s = omega (arith, s)
  plain_bound (and_or a o) s =
      let here = s.0 in
      let grown : chain_depth (or_exprs fields o) (depth (and_expr fields a)) ≤ chain_depth (or_exprs fields o) d = chain_grows o (depth (and_expr fields a)) d here in
      let bound : chain_depth (or_exprs fields o) d ≤ d + or_count o = chain_bound o d (omega arith) s.1 in
      omega (arith, grown, bound)

  -- behind a chain, one part more
  chain_last : (o : Ors) (e : ℕ) (a : Ands) → chain_depth (or_exprs fields (or_join o (last_and a))) e ≡ 1 + max (chain_depth (or_exprs fields o) e) (depth (and_expr fields a))
  chain_last (last_and b) e a = refl
  chain_last (and_or b o) e a = chain_last o (1 + max e (depth (and_expr fields b))) a

  pub last_part : (o : Ors) (a : Ands) → depth (or_expr fields (or_join o (last_and a))) ≡ 1 + max (depth (or_expr fields o)) (depth (and_expr fields a))
  last_part (last_and b) a = refl
  last_part (and_or b o) a = chain_last o (depth (and_expr fields b)) a

  few_bound : (o : Ors) → ShallowOrs fields d o → or_count o ≤ 64 → depth (or_expr fields o) ≤ d + 63
  few_bound o s few = let h = plain_bound o s in omega (arith, h, few)

  abbrev Bound : ℕ → ℕ → Ors → Type 0
  Bound n h o = depth (or_expr fields (ors_in_halves n o)) ≤ d + 63 + h

  bound_step : (n h : ℕ) (o : Ors) (b : Bool) → nat_le (or_count o) 64 ≡ b → ShallowOrs fields d o → or_count o ≤ 64 * 2 ^ suc h
      → ((p : Ors) → ShallowOrs fields d p → or_count p ≤ 64 * 2 ^ h → Bound n h p) → Bound (suc n) (suc h) o
  unfolding ors_in_halves
  bound_step n h o true is s many below =
      let few = few_bound o s (grind (arith, nat_tests)) in
      rw is (omega (arith, few))
  bound_step n h o false is s many below =
      let k = middle (or_count o) in
      let count = or_count o in
      let more : suc k < count = longer count is in
      let first = ors_in_halves n (first_ors k o) in
      let second = ors_in_halves n (later_ors k o) in
      let counted = first_count k o more in
      let left = later_count k o more in
      let power : 64 * 2 ^ suc h ≡ 64 * 2 ^ h + 64 * 2 ^ h = doubled h in
      let halves = even_halves count is in
      let one : Bound n h (first_ors k o) = below (first_ors k o) (shallow_first k o s) (omega (arith, counted, many, power, halves)) in
      let two : Bound n h (later_ors k o) = below (later_ors k o) (shallow_later k o s) (omega (arith, left, many, power, halves)) in
      let joined : depth (or_expr fields (or_join first (last_and (last_not (enclosed second))))) ≡ 1 + max (depth (or_expr fields first)) (depth (or_expr fields second))
      = last_part first (last_not (enclosed second)) in
      let whole : depth (or_expr fields (or_join first (last_and (last_not (enclosed second))))) ≤ d + 63 + suc h = omega (arith, joined, one, two) in
      rw is whole
    where
      longer : (count : ℕ) → nat_le count 64 ≡ false → suc (middle count) < count
      longer count g = grind (arith, nat_tests)

      doubled : (g : ℕ) → 64 * 2 ^ suc g ≡ 64 * 2 ^ g + 64 * 2 ^ g
      doubled g = omega arith

      -- the first half is the larger by one at most
      even_halves : (count : ℕ) → nat_le count 64 ≡ false → (count ≤ 2 * suc (middle count)) × (2 * suc (middle count) ≤ suc count)
      even_halves count g = (grind (arith, nat_tests), grind (arith, nat_tests))

  -- k parts, each at most d deep, are at most d + 63 + h deep, where k is at most 64 * 2 ^ h
  pub halves_bound : (n h : ℕ) (o : Ors) → h ≤ n → ShallowOrs fields d o → or_count o ≤ 64 * 2 ^ h → Bound n h o
  unfolding ors_in_halves
  halves_bound zero zero o within s few = let g = few_bound o s (omega (arith, few)) in omega (arith, g)
  halves_bound zero (suc h) o within s few = absurd (omega arith)
  halves_bound (suc n) zero o within s few = all_few (nat_le (or_count o) 64) refl where
    all_few : (b : Bool) → nat_le (or_count o) 64 ≡ b → Bound (suc n) zero o
    all_few true is = let g = few_bound o s (omega (arith, few)) in rw is (omega (arith, g))
    all_few false is = absurd (grind (arith, nat_tests))
  halves_bound (suc n) (suc h) o within s few =
      bound_step n h o (nat_le (or_count o) 64) refl s few (λ p t g. halves_bound n h p (omega (arith, within)) t g)

-- ==== the same of AND

-- ---- a chain is its two parts

pub and_count_some : (o : Ands) → 1 ≤ and_count o
and_count_some (last_not a) = omega arith
and_count_some (not_and a o) = omega arith

ands_parted : (k : ℕ) (o : Ands) → suc k < and_count o → and_join (first_ands k o) (later_ands k o) ≡ o
ands_parted k (last_not a) more = absurd (omega arith)
ands_parted zero (not_and a o) more = refl
ands_parted (suc k) (not_and a o) more = ap (λ (p : Ands). not_and a p) (ands_parted k o (omega (arith, more)))

first_and_count : (k : ℕ) (o : Ands) → suc k < and_count o → and_count (first_ands k o) ≡ suc k
first_and_count k (last_not a) more = absurd (omega arith)
first_and_count zero (not_and a o) more = refl
first_and_count (suc k) (not_and a o) more = ap suc (first_and_count k o (omega (arith, more)))

pub later_and_count : (k : ℕ) (o : Ands) → suc k < and_count o → suc k + and_count (later_ands k o) ≡ and_count o
later_and_count k (last_not a) more = absurd (omega arith)
later_and_count zero (not_and a o) more = omega arith
later_and_count (suc k) (not_and a o) more = let h = later_and_count k o (omega (arith, more)) in omega (arith, h)

-- ---- the value

module _ (fields : List Field) (row : List (Option Value)) where
  and_step : (n : ℕ) (o : Ands) (b : Bool) → nat_le (and_count o) 64 ≡ b
      → ((p : Ands) → value_and fields row (ands_in_halves n p) ≡ value_and fields row p)
      → value_and fields row (ands_in_halves (suc n) o) ≡ value_and fields row o
  unfolding ands_in_halves
  and_step n o true is below = rw is refl
  and_step n o false is below =
      let k = middle (and_count o) in
      let first = ands_in_halves n (first_ands k o) in
      let second = ands_in_halves n (later_ands k o) in
      let more : suc k < and_count o = longer (and_count o) is in
      let same : value_and fields row (and_join first (last_not (enclosed (last_and second)))) ≡ value_and fields row o =
      joined_and fields row first (last_not (enclosed (last_and second)))
      ∙ (ap (λ (v : Truth). both v (value_and fields row second)) (below (first_ands k o))
      ∙ (ap (λ (v : Truth). both (value_and fields row (first_ands k o)) v) (below (later_ands k o))
      ∙ (sym (joined_and fields row (first_ands k o) (later_ands k o)) ∙ ap (value_and fields row) (ands_parted k o more)))) in
      rw is same
    where
      longer : (count : ℕ) → nat_le count 64 ≡ false → suc (middle count) < count
      longer count h = grind (arith, nat_tests)

  pub halves_value_and : (n : ℕ) (o : Ands) → value_and fields row (ands_in_halves n o) ≡ value_and fields row o
  unfolding ands_in_halves
  halves_value_and zero o = refl
  halves_value_and (suc n) o = and_step n o (nat_le (and_count o) 64) refl (halves_value_and n)

-- ---- the depth

module _ (fields : List Field) (d : ℕ) where
  shallow_first_ands : (k : ℕ) (o : Ands) → ShallowAnds fields d o → ShallowAnds fields d (first_ands k o)
  shallow_first_ands k (last_not a) s = s
  shallow_first_ands zero (not_and a o) s = s.0
  shallow_first_ands (suc k) (not_and a o) s = (s.0, shallow_first_ands k o s.1)

  shallow_later_ands : (k : ℕ) (o : Ands) → ShallowAnds fields d o → ShallowAnds fields d (later_ands k o)
  shallow_later_ands k (last_not a) s = s
  shallow_later_ands zero (not_and a o) s = s.1
  shallow_later_ands (suc k) (not_and a o) s = shallow_later_ands k o s.1

  -- a chain is at most one deeper for each part behind its first
  and_chain_bound : (o : Ands) (e : ℕ) → d ≤ e → ShallowAnds fields d o → chain_depth (and_exprs fields o) e ≤ e + and_count o
  and_chain_bound (last_not a) e under s = omega (arith, under, s)
  and_chain_bound (not_and a o) e under s =
      let here = s.0 in
      let f : 1 + max e (depth (not_expr fields a)) ≡ suc e = omega (arith, under, here) in
      let more = and_chain_bound o (suc e) (omega (arith, under)) s.1 in
      let whole : chain_depth (and_exprs fields o) (1 + max e (depth (not_expr fields a))) ≤ suc e + and_count o
      = subst (λ (x : ℕ). chain_depth (and_exprs fields o) x ≤ suc e + and_count o) (sym f) more in
      omega (arith, whole)

  and_chain_grows : (o : Ands) (e f : ℕ) → e ≤ f → chain_depth (and_exprs fields o) e ≤ chain_depth (and_exprs fields o) f
  and_chain_grows (last_not a) e f under = omega (arith, under)
  and_chain_grows (not_and a o) e f under = and_chain_grows o (1 + max e (depth (not_expr fields a))) (1 + max f (depth (not_expr fields a))) (omega (arith, under))

  and_plain_bound : (o : Ands) → ShallowAnds fields d o → suc (depth (and_expr fields o)) ≤ d + and_count o
  and_plain_bound (last_not a) s = omega (arith, s)
  and_plain_bound (not_and a o) s =
      let here = s.0 in
      let grown : chain_depth (and_exprs fields o) (depth (not_expr fields a)) ≤ chain_depth (and_exprs fields o) d = and_chain_grows o (depth (not_expr fields a)) d here in
      let bound : chain_depth (and_exprs fields o) d ≤ d + and_count o = and_chain_bound o d (omega arith) s.1 in
      omega (arith, grown, bound)

  -- behind a chain, one part more
  and_chain_last : (o : Ands) (e : ℕ) (a : Nots) → chain_depth (and_exprs fields (and_join o (last_not a))) e ≡ 1 + max (chain_depth (and_exprs fields o) e) (depth (not_expr fields a))
  and_chain_last (last_not b) e a = refl
  and_chain_last (not_and b o) e a = and_chain_last o (1 + max e (depth (not_expr fields b))) a

  pub and_last_part : (o : Ands) (a : Nots) → depth (and_expr fields (and_join o (last_not a))) ≡ 1 + max (depth (and_expr fields o)) (depth (not_expr fields a))
  and_last_part (last_not b) a = refl
  and_last_part (not_and b o) a = and_chain_last o (depth (not_expr fields b)) a

  and_few_bound : (o : Ands) → ShallowAnds fields d o → and_count o ≤ 64 → depth (and_expr fields o) ≤ d + 63
  and_few_bound o s few = let h = and_plain_bound o s in omega (arith, h, few)

  abbrev AndBound : ℕ → ℕ → Ands → Type 0
  AndBound n h o = depth (and_expr fields (ands_in_halves n o)) ≤ d + 63 + h

  and_bound_step : (n h : ℕ) (o : Ands) (b : Bool) → nat_le (and_count o) 64 ≡ b → ShallowAnds fields d o → and_count o ≤ 64 * 2 ^ suc h
      → ((p : Ands) → ShallowAnds fields d p → and_count p ≤ 64 * 2 ^ h → AndBound n h p) → AndBound (suc n) (suc h) o
  unfolding ands_in_halves
  and_bound_step n h o true is s many below =
      let few = and_few_bound o s (grind (arith, nat_tests)) in
      rw is (omega (arith, few))
  and_bound_step n h o false is s many below =
      let k = middle (and_count o) in
      let count = and_count o in
      let more : suc k < count = longer count is in
      let first = ands_in_halves n (first_ands k o) in
      let second = ands_in_halves n (later_ands k o) in
      let counted = first_and_count k o more in
      let left = later_and_count k o more in
      let power : 64 * 2 ^ suc h ≡ 64 * 2 ^ h + 64 * 2 ^ h = doubled h in
      let halves = even_halves count is in
      let one : AndBound n h (first_ands k o) = below (first_ands k o) (shallow_first_ands k o s) (omega (arith, counted, many, power, halves)) in
      let two : AndBound n h (later_ands k o) = below (later_ands k o) (shallow_later_ands k o s) (omega (arith, left, many, power, halves)) in
      let joined : depth (and_expr fields (and_join first (last_not (enclosed (last_and second))))) ≡ 1 + max (depth (and_expr fields first)) (depth (and_expr fields second))
      = and_last_part first (enclosed (last_and second)) in
      let whole : depth (and_expr fields (and_join first (last_not (enclosed (last_and second))))) ≤ d + 63 + suc h = omega (arith, joined, one, two) in
      rw is whole
    where
      longer : (count : ℕ) → nat_le count 64 ≡ false → suc (middle count) < count
      longer count g = grind (arith, nat_tests)

      doubled : (g : ℕ) → 64 * 2 ^ suc g ≡ 64 * 2 ^ g + 64 * 2 ^ g
      doubled g = omega arith

      -- the first half is the larger by one at most
      even_halves : (count : ℕ) → nat_le count 64 ≡ false → (count ≤ 2 * suc (middle count)) × (2 * suc (middle count) ≤ suc count)
      even_halves count g = (grind (arith, nat_tests), grind (arith, nat_tests))

  -- k parts, each at most d deep, are at most d + 63 + h deep, where k is at most 64 * 2 ^ h
  pub halves_bound_and : (n h : ℕ) (o : Ands) → h ≤ n → ShallowAnds fields d o → and_count o ≤ 64 * 2 ^ h → AndBound n h o
  unfolding ands_in_halves
  halves_bound_and zero zero o within s few = let g = and_few_bound o s (omega (arith, few)) in omega (arith, g)
  halves_bound_and zero (suc h) o within s few = absurd (omega arith)
  halves_bound_and (suc n) zero o within s few = all_few (nat_le (and_count o) 64) refl where
    all_few : (b : Bool) → nat_le (and_count o) 64 ≡ b → AndBound (suc n) zero o
    all_few true is = let g = and_few_bound o s (omega (arith, few)) in rw is (omega (arith, g))
    all_few false is = absurd (grind (arith, nat_tests))
  halves_bound_and (suc n) (suc h) o within s few =
      and_bound_step n h o (nat_le (and_count o) 64) refl s few (λ p t g. halves_bound_and n h p (omega (arith, within)) t g)

power : (n : ℕ) → n ≤ 64 * 2 ^ n
power zero = omega arith
power (suc n) =
    let h = power n in
    let doubled : 64 * 2 ^ suc n ≡ 64 * 2 ^ n + 64 * 2 ^ n = omega arith in
    let some : 1 ≤ 64 * 2 ^ n = positive n in
    omega (arith, h, doubled, some)
  where
    positive : (m : ℕ) → 1 ≤ 64 * 2 ^ m
    positive zero = omega arith
    positive (suc m) =
        let g = positive m in
        let twice : 64 * 2 ^ suc m ≡ 64 * 2 ^ m + 64 * 2 ^ m = omega arith in
        omega (arith, g, twice)

pub ors_shallow : (fields : List Field) (d h : ℕ) (o : Ors) → ShallowOrs fields d o → or_count o ≤ 64 * 2 ^ h → depth (or_expr fields (halved_ors o)) ≤ d + 63 + h
ors_shallow fields d h o s few = by (nat_le h (or_count o)) refl where
  by : (b : Bool) → nat_le h (or_count o) ≡ b → depth (or_expr fields (halved_ors o)) ≤ d + 63 + h
  by true is = halves_bound fields d (or_count o) h o (grind (arith, nat_tests)) s few
  by false is =
      let all : depth (or_expr fields (halved_ors o)) ≤ d + 63 + or_count o = halves_bound fields d (or_count o) (or_count o) o (omega arith) s (power (or_count o)) in
      let past : or_count o < h = grind (arith, nat_tests) in
      omega (arith, all, past)

pub ands_shallow : (fields : List Field) (d h : ℕ) (a : Ands) → ShallowAnds fields d a → and_count a ≤ 64 * 2 ^ h → depth (and_expr fields (halved_ands a)) ≤ d + 63 + h
ands_shallow fields d h a s few = by (nat_le h (and_count a)) refl where
  by : (b : Bool) → nat_le h (and_count a) ≡ b → depth (and_expr fields (halved_ands a)) ≤ d + 63 + h
  by true is = halves_bound_and fields d (and_count a) h a (grind (arith, nat_tests)) s few
  by false is =
      let all : depth (and_expr fields (halved_ands a)) ≤ d + 63 + and_count a = halves_bound_and fields d (and_count a) (and_count a) a (omega arith) s (power (and_count a)) in
      let past : and_count a < h = grind (arith, nat_tests) in
      omega (arith, all, past)
