-- How many of the newest matches meet the listed rules, as matches come and go.
use Rattle.std.proofs.Common.{◌≡◌, ◌≢◌, ℕ, zero, suc, ◌+◌, ◌-◌, ◌^◌, ◌<◌, ◌≤◌, Bool, true, false, List, [], ◌∷◌, ◌++◌, refl, ap, sym, subst, ◌∙◌, arith}
use Rattle.std.specs.Prelude.{◌||◌, ◌&&◌, ◌==◌, nat_le, min, length, take, drop, reverse, get_or, slice_set}
use Rattle.std.specs.List.{list_all, list_any, range_with_len}
use Rattle.std.proofs.lemmas.List.Folds.{list_any-append}
use Rattle.std.proofs.lemmas.List.{get_or-reverse}
use Rattle.std.proofs.lemmas.Bool.{eqb-true, eqb-false, ne_eqb, le-leb, leb-true}
use Rattle.std.proofs.lemmas.List.{reverse-append, length-reverse, length-map, length-set, get_or-map, get_or-set_same, get_or-set_other, take-append-le, take_all}
use Rattle.correlation_windows.specs.Windows.{is_met, has_subsequence, has_subsequence_at_first}
use Rattle.correlation_windows.specs.declared.matches.Match.{Match}
use Rattle.correlation_windows.specs.Reaches.{newest, is_reached, AreReaches, before, entered}

-- the places from the last one back
range_more : (a n : ℕ) → range_with_len a (suc n) ≡ range_with_len a n ++ (a + n) ∷ []
range_more a zero = let e : a ≡ a + zero = omega arith in ap (λ (k : ℕ). k ∷ []) e
range_more a (suc n) = let e : a + 1 + n ≡ a + suc n = omega arith in ap (λ (ks : List ℕ). a ∷ ks) (range_more (a + 1) n ∙ ap (λ (k : ℕ). range_with_len (a + 1) n ++ k ∷ []) e)

down : (n : ℕ) → reverse (range_with_len 0 (suc n)) ≡ n ∷ reverse (range_with_len 0 n)
down n = let e : 0 + n ≡ n = omega arith in ap reverse (range_more 0 n) ∙ (reverse-append (range_with_len 0 n) ((0 + n) ∷ []) ∙ ap (λ (k : ℕ). k ∷ reverse (range_with_len 0 n)) e)

-- the listed rules up to one place, the last one first
abbrev back_from : ℕ → List ℕ
back_from n = reverse (range_with_len 0 n)

pub down_more : (n : ℕ) → back_from (n + 1) ≡ n ∷ back_from n
down_more n = let e : n + 1 ≡ suc n = omega arith in ap back_from e ∙ down n

-- comparisons
pub le_suc : (a j : ℕ) → nat_le (suc a) (suc j) ≡ nat_le a j
le_suc a j = by (nat_le a j) refl
  where
    by : (b : Bool) → nat_le a j ≡ b → nat_le (suc a) (suc j) ≡ b
    by true e = let le : a ≤ j = leb-true a j e in le-leb (suc a) (suc j) (omega (arith, le))
    by false e = grind (arith, e)

pub le_min : (a b j : ℕ) → nat_le (min a b) j ≡ (nat_le a j || nat_le b j)
le_min a b j = by (nat_le a j) refl (nat_le b j) refl
  where
    by : (p : Bool) → nat_le a j ≡ p → (q : Bool) → nat_le b j ≡ q → nat_le (min a b) j ≡ (p || q)
    by true e q f = let le : a ≤ j = leb-true a j e in le-leb (min a b) j (omega (arith, le))
    by false e true f = let le : b ≤ j = leb-true b j f in le-leb (min a b) j (omega (arith, le))
    by false e false f = grind (arith, e, f)

-- a number grown by one, within the greatest one
pub le_aged : (a j : ℕ) → j < 2 ^ 64 - 2 → nat_le (min (a + 1) (2 ^ 64 - 1)) (suc j) ≡ nat_le a j
le_aged a j lt = by (nat_le a j) refl
  where
    by : (b : Bool) → nat_le a j ≡ b → nat_le (min (a + 1) (2 ^ 64 - 1)) (suc j) ≡ b
    by true e = let le : a ≤ j = leb-true a j e in le-leb (min (a + 1) (2 ^ 64 - 1)) (suc j) (omega (arith, le))
    by false e = grind (arith, e, lt)

pub le_zero : (a : ℕ) → nat_le (min (a + 1) (2 ^ 64 - 1)) 0 ≡ false
le_zero a = grind arith

entered_at : (ordered : Bool) (place : ℕ) (rs : List ℕ) (p : ℕ) → p < length rs → get_or (entered ordered place rs) p 0 ≡ min (get_or (slice_set rs place (before ordered place rs)) p 0 + 1) (2 ^ 64 - 1)
entered_at ordered place rs p lt =
    let len = length-set rs place (before ordered place rs) in
    get_or-map (λ n. min (n + 1) (2 ^ 64 - 1)) (slice_set rs place (before ordered place rs)) p 0 0 (omega (arith, len, lt))

-- a match that has the place, and one that hasn't
module _ (ordered : Bool) (rs : List ℕ) (m : Match) (ms : List Match) (p j : ℕ) (lt : p < length rs) (known : (q : ℕ) → q < length rs → is_reached ordered q ms ≡ nat_le (get_or rs q 0) j) where
  hit : m.place ≡ p → (b : Bool) → b ≡ ordered → is_reached b p (m ∷ ms) ≡ nat_le (before b p rs) j
  hit is false o = ap (λ (t : Bool). t || list_any (λ x. x.place == p) ms) (same_place is) ∙ sym (le-leb 0 j (omega arith))
    where
      same_place : m.place ≡ p → (m.place == p) ≡ true
      same_place e = grind (arith, e)
  hit is true o = ap (λ (ps : List ℕ). has_subsequence ps (m ∷ ms)) (down_more p) ∙ (ap (λ (t : Bool). (t && has_subsequence (back_from p) ms) || has_subsequence (p ∷ back_from p) ms) (same_place is) ∙ by p refl)
    where
      same_place : m.place ≡ p → (m.place == p) ≡ true
      same_place e = grind (arith, e)

      at : (q : ℕ) → q < length rs → has_subsequence (back_from (q + 1)) ms ≡ nat_le (get_or rs q 0) j
      at q l = subst (λ (t : Bool). is_reached t q ms ≡ nat_le (get_or rs q 0) j) (sym o) (known q l)

      by : (q : ℕ) → q ≡ p → (has_subsequence (back_from q) ms || has_subsequence (q ∷ back_from q) ms) ≡ nat_le (before true q rs) j
      by zero e = sym (le-leb 0 j (omega arith))
      by (suc i) e =
          let l : suc i < length rs = omega (arith, lt, e) in
          let one : suc i ≡ i + 1 = omega arith in
          ap (λ (t : Bool). t || has_subsequence (suc i ∷ back_from (suc i)) ms) (ap (λ (k : ℕ). has_subsequence (back_from k) ms) one ∙ at i (omega (arith, l)))
          ∙ (ap (λ (t : Bool). nat_le (get_or rs i 0) j || t) (ap (λ (ps : List ℕ). has_subsequence ps ms) (sym (down_more (suc i))) ∙ at (suc i) l)
          ∙ sym (le_min (get_or rs i 0) (get_or rs (suc i) 0) j))

  miss : (m.place == p) ≡ false → (b : Bool) → b ≡ ordered → is_reached b p (m ∷ ms) ≡ nat_le (get_or rs p 0) j
  miss apart false o = ap (λ (t : Bool). t || list_any (λ x. x.place == p) ms) apart ∙ subst (λ (t : Bool). is_reached t p ms ≡ nat_le (get_or rs p 0) j) (sym o) (known p lt)
  miss apart true o =
      ap (λ (ps : List ℕ). has_subsequence ps (m ∷ ms)) (down_more p) ∙ (ap (λ (t : Bool). (t && has_subsequence (back_from p) ms) || has_subsequence (p ∷ back_from p) ms) apart
      ∙ (ap (λ (ps : List ℕ). has_subsequence ps ms) (sym (down_more p)) ∙ subst (λ (t : Bool). is_reached t p ms ≡ nat_le (get_or rs p 0) j) (sym o) (known p lt)))

  one_more : j < 2 ^ 64 - 2 → is_reached ordered p (m ∷ ms) ≡ nat_le (get_or (entered ordered m.place rs) p 0) (suc j)
  one_more few = by (m.place == p) refl
    where
      set_to : (d : ℕ) → get_or (slice_set rs m.place (before ordered m.place rs)) p 0 ≡ d → nat_le d j ≡ nat_le (get_or (entered ordered m.place rs) p 0) (suc j)
      set_to d is = sym (ap (λ (n : ℕ). nat_le n (suc j)) (entered_at ordered m.place rs p lt ∙ ap (λ (n : ℕ). min (n + 1) (2 ^ 64 - 1)) is) ∙ le_aged d j few)

      by : (b : Bool) → (m.place == p) ≡ b → is_reached ordered p (m ∷ ms) ≡ nat_le (get_or (entered ordered m.place rs) p 0) (suc j)
      by true e =
          let same : m.place ≡ p = eqb-true m.place p e in
          hit same ordered refl ∙ set_to (before ordered p rs)
          (ap (λ (q : ℕ). get_or (slice_set rs q (before ordered q rs)) p 0) same ∙ get_or-set_same rs p (before ordered p rs) 0 lt)
      by false e =
          let apart : p ≢ m.place = (λ q. eqb-false m.place p e (sym q)) in
          miss e ordered refl ∙ set_to (get_or rs p 0) (get_or-set_other rs m.place p (before ordered m.place rs) 0 apart)

none_reached : (ordered : Bool) (p : ℕ) → is_reached ordered p [] ≡ false
none_reached false p = refl
none_reached true p = ap (λ (ps : List ℕ). has_subsequence ps []) (down_more p)

newest_push : (j : ℕ) (w : List Match) (m : Match) → newest (suc j) (w ++ m ∷ []) ≡ m ∷ newest j w
newest_push j w m = ap (take (suc j)) (reverse-append w (m ∷ []))

pub entered_long : (ordered : Bool) (place : ℕ) (rs : List ℕ) → length (entered ordered place rs) ≡ length rs
entered_long ordered place rs = length-map (slice_set rs place (before ordered place rs)) (λ n. min (n + 1) (2 ^ 64 - 1)) ∙ length-set rs place (before ordered place rs)

-- a match comes
pub reaches_come : (ordered : Bool) (rs : List ℕ) (w : List Match) (m : Match) → length w < 2 ^ 63 → AreReaches ordered rs w → AreReaches ordered (entered ordered m.place rs) (w ++ m ∷ [])
reaches_come ordered rs w m few so = at
  where
    long : length (w ++ m ∷ []) ≡ suc (length w)
    long = let e = length-push w m in omega (arith, e)
      where
        length-push : (xs : List Match) (x : Match) → length (xs ++ x ∷ []) ≡ suc (length xs)
        length-push [] x = refl
        length-push (y ∷ ys) x = ap suc (length-push ys x)

    as_long : length (entered ordered m.place rs) ≡ length rs
    as_long = entered_long ordered m.place rs

    at : (p n : ℕ) → p < length (entered ordered m.place rs) → n ≤ length (w ++ m ∷ []) → is_reached ordered p (newest n (w ++ m ∷ [])) ≡ nat_le (get_or (entered ordered m.place rs) p 0) n
    at p zero lt le =
        let l : p < length rs = omega (arith, lt, as_long) in
        none_reached ordered p ∙ sym (ap (λ (n : ℕ). nat_le n 0) (entered_at ordered m.place rs p l) ∙ le_zero (get_or (slice_set rs m.place (before ordered m.place rs)) p 0))
    at p (suc j) lt le =
        let l : p < length rs = omega (arith, lt, as_long) in
        let within : j ≤ length w = omega (arith, le, long) in
        ap (is_reached ordered p) (newest_push j w m) ∙ one_more ordered rs m (newest j w) p j l (λ q lq. so q j lq within) (omega (arith, within, few))

-- the first match goes
pub reaches_go : (ordered : Bool) (rs : List ℕ) (w : List Match) → AreReaches ordered rs w → AreReaches ordered rs (drop 1 w)
reaches_go ordered rs [] so = so
reaches_go ordered rs (m ∷ ms) so = λ p n lt le.
    let len = length-reverse ms in
    ap (is_reached ordered p) (sym (ap (take n) (reverse-append (m ∷ []) ms) ∙ take-append-le n (reverse ms) (m ∷ []) (omega (arith, le, len)))) ∙ so p n lt (omega (arith, le))

-- no match is reached where there is none
pub reaches_none : (ordered : Bool) (rs : List ℕ) → ((p : ℕ) → p < length rs → 0 < get_or rs p 0) → AreReaches ordered rs []
reaches_none ordered rs some = λ p n lt le.
    let none : n ≡ 0 = omega (arith, le) in
    let above = some p lt in
    let greater : nat_le (get_or rs p 0) 0 ≡ false = grind (arith, above) in
    subst (λ (k : ℕ). is_reached ordered p (newest k []) ≡ nat_le (get_or rs p 0) k) (sym none) (none_reached ordered p ∙ sym greater)

-- all matches, the newest first
newest_all : (w : List Match) → newest (length w) w ≡ reverse w
newest_all w = let len = length-reverse w in take_all (length w) (reverse w) (omega (arith, len))

any_reverse : (p : Match → Bool) (w : List Match) → list_any p (reverse w) ≡ list_any p w
any_reverse p [] = refl
any_reverse p (m ∷ ms) = ap (list_any p) (reverse-append (m ∷ []) ms) ∙ (list_any-append p (reverse ms) (m ∷ []) ∙ (ap (λ (b : Bool). b || (p m || false)) (any_reverse p ms) ∙ by (list_any p ms) (p m)))
  where
    by : (a b : Bool) → (a || (b || false)) ≡ (b || a)
    by true true = refl
    by true false = refl
    by false true = refl
    by false false = refl

each_place : (f g : ℕ → Bool) (rs : List ℕ) (a : ℕ) → ((p : ℕ) → p < length rs → f (a + p) ≡ g (get_or rs p 0)) → list_all f (range_with_len a (length rs)) ≡ list_all g rs
each_place f g [] a same = refl
each_place f g (r ∷ rs) a same =
    let here : a + 0 ≡ a = omega arith in
    let now : f a ≡ g r = ap f (sym here) ∙ same 0 (omega arith) in
    let rest : list_all f (range_with_len (a + 1) (length rs)) ≡ list_all g rs = each_place f g rs (a + 1) (λ p lt. let e : a + 1 + p ≡ a + suc p = omega arith in ap f e ∙ same (suc p) (omega (arith, lt))) in
    ap (λ (b : Bool). b && list_all f (range_with_len (a + 1) (length rs))) now ∙ ap (λ (b : Bool). g r && b) rest

-- the listed rules are all met where no place takes more matches than there are
pub each_met : (rs : List ℕ) (rules : List ℕ) (w : List Match) (count : ℕ) → length rs ≡ length rules → count ≡ length w → AreReaches false rs w
    → list_all (λ n. nat_le n count) rs ≡ list_all (is_met w) (range_with_len 0 (length rules))
each_met rs rules w count len is so =
    sym (ap (λ (k : ℕ). list_all (is_met w) (range_with_len 0 k)) (sym len) ∙ each_place (is_met w) (λ n. nat_le n count) rs 0 one)
  where
    one : (p : ℕ) → p < length rs → is_met w (0 + p) ≡ nat_le (get_or rs p 0) count
    one p lt =
        let e : 0 + p ≡ p = omega arith in
        ap (is_met w) e ∙ (sym (any_reverse (λ m. m.place == p) w) ∙ (ap (λ (ms : List Match). list_any (λ m. m.place == p) ms) (sym (newest_all w)) ∙ (so p (length w) lt (omega arith) ∙ ap (λ (k : ℕ). nat_le (get_or rs p 0) k) (sym is))))

-- the last match
last_of : (w : List Match) (m : Match) → 0 < length w → m ≡ get_or w (length w - 1) m → (r : List Match) × (reverse w ≡ m ∷ r)
last_of w m some is = by (reverse w) refl
  where
    first : (r : List Match) → reverse w ≡ r → get_or r 0 m ≡ m
    first r e =
        let k : length w - 1 - 0 ≡ length w - 1 = omega arith in
        ap (λ (l : List Match). get_or l 0 m) (sym e) ∙ (get_or-reverse w 0 m some ∙ (ap (λ (n : ℕ). get_or w n m) k ∙ sym is))

    by : (r : List Match) → reverse w ≡ r → (s : List Match) × (reverse w ≡ m ∷ s)
    by [] e = let len = length-reverse w in let none : length (reverse w) ≡ 0 = ap length e in absurd (omega (arith, len, none, some))
    by (x ∷ s) e = (s, e ∙ ap (λ (y : Match). y ∷ s) (first (x ∷ s) e))

module _ (rs : List ℕ) (w : List Match) (m : Match) (some : 0 < length w) (is : m ≡ get_or w (length w - 1) m) (so : AreReaches true rs w) where
  in_order_at : (last : ℕ) (rest : Bool) → ((r : List Match) → reverse w ≡ m ∷ r → rest ≡ has_subsequence (back_from last) r) → has_subsequence_at_first (back_from (suc last)) (reverse w) ≡ ((m.place == last) && rest)
  in_order_at last rest known =
      let found = last_of w m some is in
      ap (λ (ms : List Match). has_subsequence_at_first (back_from (suc last)) ms) found.1 ∙ (ap (λ (ps : List ℕ). has_subsequence_at_first ps (m ∷ found.0)) (down last) ∙ ap (λ (b : Bool). (m.place == last) && b) (sym (known found.0 found.1)))

  -- the only rule
  pub only_met : has_subsequence_at_first (back_from 1) (reverse w) ≡ (m.place == 0)
  only_met = in_order_at 0 true (λ r e. refl) ∙ by (m.place == 0)
    where
      by : (b : Bool) → (b && true) ≡ b
      by true = refl
      by false = refl

  -- the last of several rules
  pub last_met : (i : ℕ) → i < length rs → has_subsequence_at_first (back_from (suc (suc i))) (reverse w) ≡ ((m.place == suc i) && nat_le (get_or rs i 0) (length w))
  last_met i lt = by (m.place == suc i) refl
    where
      others : m.place ≡ suc i → (r : List Match) → reverse w ≡ m ∷ r → nat_le (get_or rs i 0) (length w) ≡ has_subsequence (back_from (suc i)) r
      others same r e =
          let one : i + 1 ≡ suc i = omega arith in
          let apart : (m.place == i) ≡ false = ne_eqb m.place i (λ p. omega (arith, same, p)) in
          sym (so i (length w) lt (omega arith))
          ∙ (ap (λ (ms : List Match). has_subsequence (back_from (i + 1)) ms) (newest_all w ∙ e)
          ∙ (ap (λ (ps : List ℕ). has_subsequence ps (m ∷ r)) (down_more i)
          ∙ (ap (λ (b : Bool). (b && has_subsequence (back_from i) r) || has_subsequence (i ∷ back_from i) r) apart
          ∙ ap (λ (ps : List ℕ). has_subsequence ps r) (sym (down i)))))

      by : (b : Bool) → (m.place == suc i) ≡ b → has_subsequence_at_first (back_from (suc (suc i))) (reverse w) ≡ ((m.place == suc i) && nat_le (get_or rs i 0) (length w))
      by true hit = in_order_at (suc i) (nat_le (get_or rs i 0) (length w)) (others (eqb-true m.place (suc i) hit))
      by false apart =
          let any = last_of w m some is in
          in_order_at (suc i) (has_subsequence (back_from (suc i)) (reverse_rest any)) (λ r e. ap (has_subsequence (back_from (suc i))) (same_rest any r e))
          ∙ (ap (λ (b : Bool). b && has_subsequence (back_from (suc i)) (reverse_rest any)) apart ∙ sym (ap (λ (b : Bool). b && nat_le (get_or rs i 0) (length w)) apart))
        where
          reverse_rest : (r : List Match) × (reverse w ≡ m ∷ r) → List Match
          reverse_rest p = p.0

          same_rest : (p : (r : List Match) × (reverse w ≡ m ∷ r)) (r : List Match) → reverse w ≡ m ∷ r → reverse_rest p ≡ r
          same_rest p r e = ap (drop 1) (sym p.1 ∙ e)

-- no rule is always met, and no match none
pub no_rules : (w : List Match) → has_subsequence_at_first (back_from 0) (reverse w) ≡ true
no_rules w = refl

pub no_match : (rules : ℕ) (w : List Match) → 0 < rules → length w ≡ 0 → has_subsequence_at_first (back_from rules) (reverse w) ≡ false
no_match zero w some none = absurd (omega (arith, some))
no_match (suc n) [] some none = ap (λ (ps : List ℕ). has_subsequence_at_first ps []) (down n)
no_match (suc n) (m ∷ ms) some none = absurd (omega (arith, none))

pub ends_met : (rs : List ℕ) (w : List Match) (m : Match) (count : ℕ) (result : Bool) → 0 < length rs → count ≡ length w → 0 < length w → m ≡ get_or w (count - 1) m → AreReaches true rs w
    → (length rs ≡ 1 → result ≡ (m.place == 0)) → ((i : ℕ) → length rs ≡ i + 2 → result ≡ ((m.place == i + 1) && nat_le (get_or rs i 0) count))
    → result ≡ has_subsequence_at_first (reverse (range_with_len 0 (length rs))) (reverse w)
ends_met rs w m count result listed long some is so one several = by (length rs) refl
  where
    last : m ≡ get_or w (length w - 1) m
    last = subst (λ (n : ℕ). m ≡ get_or w (n - 1) m) long is

    by : (n : ℕ) → length rs ≡ n → result ≡ has_subsequence_at_first (reverse (range_with_len 0 n)) (reverse w)
    by zero e = absurd (omega (arith, listed, e))
    by (suc zero) e = one (e ∙ (let f : suc zero ≡ 1 = omega arith in f)) ∙ sym (only_met rs w m some last so)
    by (suc (suc i)) e =
        let two : suc (suc i) ≡ i + 2 = omega arith in
        let next : i + 1 ≡ suc i = omega arith in
        let within : i < length rs = omega (arith, e) in
        several i (e ∙ two) ∙ (ap (λ (k : ℕ). (m.place == k) && nat_le (get_or rs i 0) count) next ∙ (ap (λ (k : ℕ). (m.place == suc i) && nat_le (get_or rs i 0) k) long ∙ sym (last_met rs w m some last so i within)))
