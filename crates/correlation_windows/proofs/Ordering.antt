-- Queues stay in order as one of them gains a match or room.
use Rattle.std.proofs.Common.{◌≡◌, ℕ, zero, suc, ◌+◌, ◌<◌, Bool, true, false, cond, List, [], ◌∷◌, ◌++◌, refl, ap, sym, subst, ◌∙◌, arith, true≢false, ◌⊎◌, inl, inr}
use Rattle.std.specs.Prelude.{ℤ, pos, ◌≤ℤ◌, length, Option, Some, None, is_some}
use Rattle.std.specs.List.{AllByRecursion, IsDistinct}
use Rattle.std.specs.Map.{lookup, keys_of, set_value}
use Rattle.std.proofs.lemmas.List.{get_or_append_left, length-append}
use Rattle.std.proofs.Math.Seq.{get_or-append_seam}
use Rattle.correlation_windows.specs.Noted.{Queued}
use Rattle.correlation_windows.specs.Groups.{same_group}
use Rattle.correlation_windows.specs.Heaps.{at, fronts, first_moment, IsHeap, IsUntil, IsInTime, AllUntil, AllInTime, AllFilled, IsOrderly}
use Rattle.correlation_windows.specs.Queues.{Entries, held, items_of, IsFor, AllFor}
use Rattle.correlation_windows.specs.declared.bound.CorrelationKind.{CorrelationKind}
use Rattle.correlation_windows.specs.declared.matches.Match.{Match}
use Rattle.correlation_windows.proofs.Pushing.{group_is, group_refl}

abbrev Queue : Type 0
Queue = Queued

abbrev the : Queue → Option Queue → Queue
the q None = q
the q (Some v) = v

-- what holds of each queue holds of one that is found
pub found_has : (P : Queue → Type 0) (test : List (List ℕ) → Bool) (es : Entries) (q : Queue) → AllByRecursion (λ e. P e.1) es → lookup test es ≡ Some q → P q
found_has P test [] q all is = absurd (true≢false (sym (ap is_some is)))
found_has P test (e ∷ es) q all is = by (test e.0) is (found_has P test es q all.1)
  where
    by : (t : Bool) → cond t (Some e.1) (lookup test es) ≡ Some q → (lookup test es ≡ Some q → P q) → P q
    by true p rest = subst P (ap (the e.1) p) all.0
    by false p rest = rest p

-- and of all after one that has it is put in the place of another
set_has : (P : Queue → Type 0) (test : List (List ℕ) → Bool) (es : Entries) (w : Queue) → P w → AllByRecursion (λ e. P e.1) es → AllByRecursion (λ e. P e.1) (set_value test es w)
set_has P test [] w has all = tt
set_has P test (e ∷ es) w has all = by (test e.0) (set_has P test es w has all.1)
  where
    by : (t : Bool) → AllByRecursion (λ x. P x.1) (set_value test es w) → AllByRecursion (λ x. P x.1) (cond t ((e.0, w) ∷ es) (e ∷ set_value test es w))
    by true rest = (has, all.1)
    by false rest = (all.0, rest)

fronts_set : (test : List (List ℕ) → Bool) (es : Entries) (q w : Queue) → lookup test es ≡ Some q → first_moment w.items ≡ first_moment q.items → fronts (set_value test es w) ≡ fronts es
fronts_set test [] q w is same = refl
fronts_set test (e ∷ es) q w is same = by (test e.0) is (λ r. fronts_set test es q w r same)
  where
    by : (t : Bool) → cond t (Some e.1) (lookup test es) ≡ Some q → (lookup test es ≡ Some q → fronts (set_value test es w) ≡ fronts es) → fronts (cond t ((e.0, w) ∷ es) (e ∷ set_value test es w)) ≡ first_moment e.1.items ∷ fronts es
    by true p rest = ap (λ f. f ∷ fronts es) (same ∙ ap (λ (v : Queue). first_moment v.items) (sym (ap (the e.1) p)))
    by false p rest = ap (λ fs. first_moment e.1.items ∷ fs) (rest p)

-- a queue that takes another's place, with the same first moment
pub orderly_set : (test : List (List ℕ) → Bool) (es fs : Entries) (q w : Queue) → fs ≡ set_value test es w → IsDistinct same_group (keys_of fs) → lookup test es ≡ Some q
    → first_moment w.items ≡ first_moment q.items → IsInTime w.items → 0 < length w.items → IsOrderly es → IsOrderly fs
orderly_set test es fs q w is unique found same in_time some o = record {
  unique = unique;
  heap = subst IsHeap (sym (ap fronts is ∙ fronts_set test es q w found same)) o.heap;
  in_time = subst AllInTime (sym is) (set_has (λ v. IsInTime v.items) test es w in_time o.in_time);
  filled = subst AllFilled (sym is) (set_has (λ v. 0 < length v.items) test es w some o.filled);
}

pub orderly_room : (test : List (List ℕ) → Bool) (es fs : Entries) (q w : Queue) → fs ≡ set_value test es w → IsDistinct same_group (keys_of fs) → lookup test es ≡ Some q → w.items ≡ q.items → IsOrderly es → IsOrderly fs
orderly_room test es fs q w is unique found same o =
    orderly_set test es fs q w is unique found (ap first_moment same)
    (subst IsInTime (sym same) (found_has (λ v. IsInTime v.items) test es q o.in_time found))
    (subst (λ (ms : List Match). 0 < length ms) (sym same) (found_has (λ v. 0 < length v.items) test es q o.filled found)) o

-- a queue that notes the same
pub fit_room : (kind : CorrelationKind) (rules : ℕ) (test : List (List ℕ) → Bool) (es fs : Entries) (q w : Queue) → fs ≡ set_value test es w → lookup test es ≡ Some q → w.kind ≡ q.kind → w.rules ≡ q.rules → AllFor kind rules es → AllFor kind rules fs
fit_room kind rules test es fs q w is found kinds counts all =
    let has = found_has (λ v. IsFor kind rules v) test es q all found in
    subst (AllFor kind rules) (sym is) (set_has (λ v. IsFor kind rules v) test es w (record { kind = kinds ∙ has.kind; rules = counts ∙ has.rules }) all)

pub fit_found : (kind : CorrelationKind) (rules : ℕ) (test : List (List ℕ) → Bool) (es : Entries) (q : Queue) → lookup test es ≡ Some q → AllFor kind rules es → IsFor kind rules q
fit_found kind rules test es q found all = found_has (λ v. IsFor kind rules v) test es q all found

pub fit_set : (kind : CorrelationKind) (rules : ℕ) (test : List (List ℕ) → Bool) (es fs : Entries) (w : Queue) → fs ≡ set_value test es w → IsFor kind rules w → AllFor kind rules es → AllFor kind rules fs
fit_set kind rules test es fs w is has all = subst (AllFor kind rules) (sym is) (set_has (λ v. IsFor kind rules v) test es w has all)

all_push : {X : Type 0} (P : X → Type 0) (xs : List X) (y : X) → AllByRecursion P xs → P y → AllByRecursion P (xs ++ y ∷ [])
all_push P [] y all has = (has, tt)
all_push P (x ∷ xs) y all has = (all.0, all_push P xs y all.1 has)

in_time_push : (ms : List Match) (m : Match) → IsInTime ms → IsUntil m.moment ms → IsInTime (ms ++ m ∷ [])
in_time_push [] m t u = (tt, tt)
in_time_push (x ∷ xs) m t u = (all_push (λ y. x.moment ≤ℤ y.moment) xs m t.0 u.0, in_time_push xs m t.1 u.1)

first_push : (ms : List Match) (m : Match) → 0 < length ms → first_moment (ms ++ m ∷ []) ≡ first_moment ms
first_push [] m some = absurd (omega (arith, some))
first_push (x ∷ xs) m some = refl

some_push : (ms : List Match) (m : Match) → 0 < length (ms ++ m ∷ [])
some_push [] m = omega arith
some_push (x ∷ xs) m = omega arith

-- a queue that gained the newest match
pub orderly_gain : (test : List (List ℕ) → Bool) (es fs : Entries) (q w : Queue) (m : Match) → fs ≡ set_value test es w → IsDistinct same_group (keys_of fs) → lookup test es ≡ Some q → w.items ≡ q.items ++ m ∷ []
    → AllUntil m.moment es → IsOrderly es → IsOrderly fs
orderly_gain test es fs q w m is unique found gains until o =
    orderly_set test es fs q w is unique found
    (ap first_moment gains ∙ first_push q.items m (found_has (λ v. 0 < length v.items) test es q o.filled found))
    (subst IsInTime (sym gains) (in_time_push q.items m (found_has (λ v. IsInTime v.items) test es q o.in_time found) (found_has (λ v. IsUntil m.moment v.items) test es q until found)))
    (subst (λ (ms : List Match). 0 < length ms) (sym gains) (some_push q.items m)) o

pub until_gain : (test : List (List ℕ) → Bool) (es fs : Entries) (q w : Queue) (m : Match) (t : ℤ) → fs ≡ set_value test es w → lookup test es ≡ Some q → w.items ≡ q.items ++ m ∷ [] → m.moment ≤ℤ t → AllUntil t es → AllUntil t fs
until_gain test es fs q w m t is found gains le until =
    subst (AllUntil t) (sym is) (set_has (λ v. IsUntil t v.items) test es w
    (subst (IsUntil t) (sym gains) (all_push (λ x. x.moment ≤ℤ t) q.items m (found_has (λ v. IsUntil t v.items) test es q until found) le)) until)

-- a heap that gained a last element, which is at least as great as all
heap_push : (xs : List ℤ) (x : ℤ) → IsHeap xs → ((k : ℕ) → k < length xs → at xs k ≤ℤ x) → IsHeap (xs ++ x ∷ [])
heap_push xs x heap most p k below lt = by (k_is k (length xs) (omega (arith, lt, length-append xs (x ∷ []))))
  where
    k_is : (k n : ℕ) → k < n + 1 → (k < n) ⊎ (k ≡ n)
    k_is zero zero lt = inr refl
    k_is zero (suc n) lt = inl (omega arith)
    k_is (suc k) zero lt = absurd (omega (arith, lt))
    k_is (suc k) (suc n) lt = up (k_is k n (omega (arith, lt)))
      where
        up : (k < n) ⊎ (k ≡ n) → (suc k < suc n) ⊎ (suc k ≡ suc n)
        up (inl l) = inl (omega (arith, l))
        up (inr e) = inr (ap suc e)

    old : (i : ℕ) → i < length xs → at (xs ++ x ∷ []) i ≡ at xs i
    old i l = get_or_append_left xs (x ∷ []) (pos 0) i l

    by : (k < length xs) ⊎ (k ≡ length xs) → at (xs ++ x ∷ []) p ≤ℤ at (xs ++ x ∷ []) k
    by (inl l) = subst (λ (a : ℤ). a ≤ℤ at (xs ++ x ∷ []) k) (sym (old p (omega (arith, below, l)))) (subst (λ (b : ℤ). at xs p ≤ℤ b) (sym (old k l)) (heap p k below l))
    by (inr e) =
        let l : p < length xs = omega (arith, below, e) in
        subst (λ (a : ℤ). a ≤ℤ at (xs ++ x ∷ []) k) (sym (old p l)) (subst (λ (b : ℤ). at xs p ≤ℤ b) (sym (ap (at (xs ++ x ∷ [])) e ∙ get_or-append_seam xs x [] (pos 0))) (most p l))

fronts-push : (es : Entries) (e : List (List ℕ) × Queue) → fronts (es ++ e ∷ []) ≡ fronts es ++ first_moment e.1.items ∷ []
fronts-push [] e = refl
fronts-push (x ∷ es) e = ap (λ fs. first_moment x.1.items ∷ fs) (fronts-push es e)

first_until : (t : ℤ) (ms : List Match) → 0 < length ms → IsUntil t ms → first_moment ms ≤ℤ t
first_until t [] some until = absurd (omega (arith, some))
first_until t (m ∷ ms) some until = until.0

fronts_until : (t : ℤ) (es : Entries) → AllFilled es → AllUntil t es → (k : ℕ) → k < length (fronts es) → at (fronts es) k ≤ℤ t
fronts_until t [] filled until k lt = absurd (omega (arith, lt))
fronts_until t (e ∷ es) filled until zero lt = first_until t e.1.items filled.0 until.0
fronts_until t (e ∷ es) filled until (suc k) lt = fronts_until t es filled.1 until.1 k (omega (arith, lt))

pub fit_new : (kind : CorrelationKind) (rules : ℕ) (es fs : Entries) (g : List (List ℕ)) (w : Queue) → fs ≡ es ++ (g, w) ∷ [] → IsFor kind rules w → AllFor kind rules es → AllFor kind rules fs
fit_new kind rules es fs g w is has all = subst (AllFor kind rules) (sym is) (all_push (λ e. IsFor kind rules e.1) es (g, w) all has)

-- a group that came with the newest match
pub orderly_new : (es fs : Entries) (g : List (List ℕ)) (w : Queue) (m : Match) → fs ≡ es ++ (g, w) ∷ [] → IsDistinct same_group (keys_of fs) → w.items ≡ m ∷ [] → AllUntil m.moment es → IsOrderly es → IsOrderly fs
orderly_new es fs g w m is unique one until o = record {
  unique = unique;
  heap = subst IsHeap (sym (ap fronts is ∙ (fronts-push es (g, w) ∙ ap (λ ms. fronts es ++ first_moment ms ∷ []) one))) (heap_push (fronts es) m.moment o.heap (fronts_until m.moment es o.filled until));
  in_time = subst AllInTime (sym is) (all_push (λ e. IsInTime e.1.items) es (g, w) o.in_time (subst IsInTime (sym one) (tt, tt)));
  filled = subst AllFilled (sym is) (all_push (λ e. 0 < length e.1.items) es (g, w) o.filled (subst (λ (ms : List Match). 0 < length ms) (sym one) (omega arith)));
}

pub until_new : (es fs : Entries) (g : List (List ℕ)) (w : Queue) (m : Match) (t : ℤ) → fs ≡ es ++ (g, w) ∷ [] → w.items ≡ m ∷ [] → m.moment ≤ℤ t → AllUntil t es → AllUntil t fs
until_new es fs g w m t is one le until = subst (AllUntil t) (sym is) (all_push (λ e. IsUntil t e.1.items) es (g, w) until (subst (IsUntil t) (sym one) (le, tt)))

pub absent : (g : List (List ℕ)) (es : Entries) → AllByRecursion (λ k. same_group g k ≡ false) (keys_of es) → lookup (same_group g) es ≡ None
absent g [] all = refl
absent g (e ∷ es) all = rw all.0 (absent g es all.1)

-- what no group has later than a moment, no queue has
pub until_each : (t : ℤ) (es : Entries) → IsDistinct same_group (keys_of es) → ((g : List (List ℕ)) → IsUntil t (held es g)) → AllUntil t es
unfolding IsDistinct
until_each t [] unique all = tt
until_each t (e ∷ es) unique all = (subst (λ (b : Bool). IsUntil t (items_of (cond b (Some e.1) (lookup (same_group e.0) es)))) (group_refl e.0) (all e.0), until_each t es unique.1 (λ g. by g (same_group g e.0) refl (all g)))
  where
    by : (g : List (List ℕ)) (b : Bool) → same_group g e.0 ≡ b → IsUntil t (items_of (cond b (Some e.1) (lookup (same_group g) es))) → IsUntil t (held es g)
    by g true p has = subst (λ (h : List (List ℕ)). IsUntil t (held es h)) (sym (group_is g e.0 p)) (subst (λ (o : Option Queue). IsUntil t (items_of o)) (sym (absent e.0 es unique.0)) tt)
    by g false p has = has
