-- Windows over what is kept of a history.
use Rattle.std.proofs.Common.{◌≡◌, ℕ, Bool, true, false, List, [], ◌∷◌, ◌++◌, refl, ap, sym, subst, ◌∙◌, arith, append-nil, true≢false}
use Rattle.std.proofs.lemmas.List.{append_assoc}
use Rattle.std.specs.Prelude.{ℤ, ◌-ℤ◌, ◌≤ℤ◌, int_lt, ◌&&◌, Option, Some, None, if◌then◌else◌, ◌+◌, slice_index_or}
use Rattle.std.specs.List.{filter, zip, AllByRecursion}
use Rattle.std.proofs.lemmas.Int.{ints}
use Rattle.std.proofs.lemmas.List.Elements.{filter-append}
use Rattle.correlation_windows.specs.Groups.{same_group}
use Rattle.correlation_windows.specs.History.{Taken, Grouped, group_by, counted_text, in_group, match_with, matches_from, event_matches, matches_of, last_moment}
use Rattle.correlation_windows.specs.Kept.{kept, kept_at}
use Rattle.correlation_windows.specs.Laws.{IsBehind, recent, Suffices, Goes}
use Rattle.correlation_windows.specs.Over.{reports_over}
use Rattle.correlation_windows.specs.Reports.{report_of, reports_after}
use Rattle.correlation_windows.specs.Windows.{of_group, is_within}
use Rattle.correlation_windows.specs.declared.matches.Match.{Match}
use Rattle.correlation_windows.specs.declared.bound.Bound.{Bound}

pub of_group-append : (g : List (List ℕ)) (xs ys : List Grouped) → of_group g (xs ++ ys) ≡ of_group g xs ++ of_group g ys
of_group-append g [] ys = refl
of_group-append g (x ∷ xs) ys = by (same_group g x.0) (of_group-append g xs ys)
  where
    by : (t : Bool) → of_group g (xs ++ ys) ≡ of_group g xs ++ of_group g ys → (if t then x.1 ∷ of_group g (xs ++ ys) else of_group g (xs ++ ys)) ≡ (if t then x.1 ∷ of_group g xs else of_group g xs) ++ of_group g ys
    by true e = ap (λ r. x.1 ∷ r) e
    by false e = e

-- the matches of a group later than a moment are those later than it of the group
of_group-recent : (g : List (List ℕ)) (a : ℤ) (xs : List Grouped) → of_group g (filter (λ m. int_lt a m.1.moment) xs) ≡ recent a (of_group g xs)
of_group-recent g a [] = refl
of_group-recent g a (x ∷ xs) = by (int_lt a x.1.moment) (same_group g x.0) refl refl (of_group-recent g a xs)
  where
    by : (t s : Bool) → int_lt a x.1.moment ≡ t → same_group g x.0 ≡ s → of_group g (filter (λ m. int_lt a m.1.moment) xs) ≡ recent a (of_group g xs)
        → of_group g (filter (λ m. int_lt a m.1.moment) (x ∷ xs)) ≡ recent a (of_group g (x ∷ xs))
    by true true p q e = rw p (rw q (rw p (ap (λ r. x.1 ∷ r) e)))
    by true false p q e = rw p (rw q e)
    by false true p q e = rw p (rw q (rw p e))
    by false false p q e = rw p (rw q e)

-- what a test of later matches alone takes is among those
abbrev Later : ℤ → (Match → Bool) → Type 0
Later after test = (m : Match) → test m ≡ true → int_lt after m.moment ≡ true

filter-recent : (after : ℤ) (test : Match → Bool) → Later after test → (xs : List Match) → filter test (recent after xs) ≡ filter test xs
filter-recent after test later [] = refl
filter-recent after test later (x ∷ xs) = by (int_lt after x.moment) (test x) refl refl (filter-recent after test later xs)
  where
    by : (t s : Bool) → int_lt after x.moment ≡ t → test x ≡ s → filter test (recent after xs) ≡ filter test xs → filter test (recent after (x ∷ xs)) ≡ filter test (x ∷ xs)
    by true true p q e = rw p (rw q (ap (λ r. x ∷ r) e))
    by true false p q e = rw p (rw q e)
    by false true p q e = absurd (true≢false (sym (later x q) ∙ p))
    by false false p q e = rw p (rw q e)

first_part : (a b : Bool) → (a && b) ≡ true → a ≡ true
first_part true b e = refl
first_part false b e = e

later_than : (after limit m : ℤ) → after ≤ℤ limit → int_lt limit m ≡ true → int_lt after m ≡ true
later_than after limit m le lt = grind (arith, ints, le, lt)

within_is_later : (span last t : ℤ) → last ≤ℤ t → Later (last -ℤ span) (is_within span t)
within_is_later span last t le m inside =
    let below : (last -ℤ span) ≤ℤ (t -ℤ span) = omega (arith, ints, le) in
    later_than (last -ℤ span) (t -ℤ span) m.moment below (first_part _ _ inside)

recent_is_later : (span last t : ℤ) → last ≤ℤ t → Later (last -ℤ span) (λ m. int_lt (t -ℤ span) m.moment)
recent_is_later span last t le m inside =
    let below : (last -ℤ span) ≤ℤ (t -ℤ span) = omega (arith, ints, le) in
    later_than (last -ℤ span) (t -ℤ span) m.moment below inside

-- the matches of an event have its moment
abbrev pub AllAt : ℤ → List Grouped → Type 0
AllAt t ms = AllByRecursion (λ m. m.1.moment ≡ t) ms

all_at-append : (t : ℤ) (xs ys : List Grouped) → AllAt t xs → AllAt t ys → AllAt t (xs ++ ys)
all_at-append t [] ys p q = q
all_at-append t (x ∷ xs) ys p q = (p.0, all_at-append t xs ys p.1 q)

in_group_at : (g : Option (List (List ℕ))) (m : Match) → AllAt m.moment (in_group g m)
in_group_at None m = tt
in_group_at (Some g) m = (refl, tt)

match_with_at : (counted : Option ℕ) (e : Taken) (place : ℕ) (listed : ℕ × List ℕ) → AllAt e.moment (match_with counted e place listed)
match_with_at counted e place listed = by (slice_index_or e.hits listed.0 false) _ (in_group_at (group_by e.values listed.1) (record { line = e.line; moment = e.moment; place = place; counted = counted_text e.values counted }))
  where
    by : (hit : Bool) (ms : List Grouped) → AllAt e.moment ms → AllAt e.moment (if hit then ms else [])
    by true ms all = all
    by false ms all = tt

matches_from_at : (counted : Option ℕ) (e : Taken) (place : ℕ) (listed : List (ℕ × List ℕ)) → AllAt e.moment (matches_from counted e place listed)
matches_from_at counted e place [] = tt
matches_from_at counted e place (l ∷ ls) = all_at-append e.moment _ _ (match_with_at counted e place l) (matches_from_at counted e (place + 1) ls)

pub event_matches_at : (b : Bound) (e : Taken) → AllAt e.moment (event_matches b e)
event_matches_at b e = matches_from_at b.counted e 0 (zip b.rules b.groups)

-- queues and matches of which a test takes the same, with the same matches behind both
same_window : (test : Match → Bool) (queue : List (List ℕ) → List Match) (before done : List Grouped) (g : List (List ℕ)) → ((h : List (List ℕ)) → filter test (queue h) ≡ filter test (of_group h before))
    → filter test (queue g ++ of_group g done) ≡ filter test (of_group g (before ++ done))
same_window test queue before done g agree =
    filter-append test (queue g) (of_group g done) ∙ (ap (λ r. r ++ filter test (of_group g done)) (agree g) ∙ (sym (filter-append test (of_group g before) (of_group g done)) ∙ ap (filter test) (sym (of_group-append g before done))))

over_same : (number : ℕ) (b : Bound) (t : ℤ) (queue : List (List ℕ) → List Match) (before done ms : List Grouped) → AllAt t ms → ((h : List (List ℕ)) → filter (is_within b.span t) (queue h) ≡ filter (is_within b.span t) (of_group h before))
    → reports_over number b queue done ms ≡ reports_after number b (before ++ done) ms
over_same number b t queue before done [] at agree = refl
over_same number b t queue before done (m ∷ ms) at agree =
    let here : filter (is_within b.span m.1.moment) (queue m.0 ++ of_group m.0 (done ++ m ∷ [])) ≡ filter (is_within b.span m.1.moment) (of_group m.0 ((before ++ done) ++ m ∷ [])) =
    subst (λ (a : ℤ). filter (is_within b.span a) (queue m.0 ++ of_group m.0 (done ++ m ∷ [])) ≡ filter (is_within b.span a) (of_group m.0 ((before ++ done) ++ m ∷ []))) (sym at.0)
    (same_window (is_within b.span t) queue before (done ++ m ∷ []) m.0 agree ∙ ap (λ l. filter (is_within b.span t) (of_group m.0 l)) (sym (append_assoc before done (m ∷ [])))) in
    let rest : reports_over number b queue (done ++ m ∷ []) ms ≡ reports_after number b ((before ++ done) ++ m ∷ []) ms =
    over_same number b t queue before (done ++ m ∷ []) ms at.1 agree ∙ ap (λ l. reports_after number b l ms) (sym (append_assoc before done (m ∷ []))) in
    ap (λ w. report_of number b w m ++ reports_over number b queue (done ++ m ∷ []) ms) here ∙ ap (λ r. report_of number b (filter (is_within b.span m.1.moment) (of_group m.0 ((before ++ done) ++ m ∷ []))) m ++ r) rest

-- a history with an event has a last moment
last_some : (e : Taken) (es : List Taken) → (t : ℤ) × (last_moment (e ∷ es) ≡ Some t)
last_some e [] = (e.moment, refl)
last_some e (next ∷ es) = last_some next es

last_moment-push : (history : List Taken) (next : Taken) → last_moment (history ++ next ∷ []) ≡ Some next.moment
last_moment-push [] next = refl
last_moment-push (e ∷ []) next = refl
last_moment-push (e ∷ n ∷ es) next = last_moment-push (n ∷ es) next

matches_of-push : (b : Bound) (history : List Taken) (next : Taken) → matches_of b (history ++ next ∷ []) ≡ matches_of b history ++ event_matches b next
matches_of-push b [] next = append-nil (event_matches b next)
matches_of-push b (e ∷ es) next = ap (λ r. event_matches b e ++ r) (matches_of-push b es next) ∙ sym (append_assoc (event_matches b e) (matches_of b es) (event_matches b next))

-- a test of matches later than the last moment's span takes the same of what is kept as of all
kept_agrees : (b : Bound) (history : List Taken) (t : ℤ) (test : Match → Bool) → ((last : ℤ) → last ≤ℤ t → Later (last -ℤ b.span) test) → (g : List (List ℕ)) → IsBehind (last_moment history) t
    → filter test (of_group g (kept b history)) ≡ filter test (of_group g (matches_of b history))
kept_agrees b [] t test later g behind = refl
kept_agrees b (e ∷ es) t test later g behind =
    let last = last_some e es in
    let le : last.0 ≤ℤ t = subst (λ (l : Option ℤ). IsBehind l t) last.1 behind in
    subst (λ (l : Option ℤ). filter test (of_group g (kept_at b.span l (matches_of b (e ∷ es)))) ≡ filter test (of_group g (matches_of b (e ∷ es)))) (sym last.1)
    (ap (filter test) (of_group-recent g (last.0 -ℤ b.span) (matches_of b (e ∷ es))) ∙ filter-recent (last.0 -ℤ b.span) test (later last.0 le) (of_group g (matches_of b (e ∷ es))))

pub suffices : Suffices
suffices number b history next queue behind holds =
    let t = next.moment in
    over_same number b t queue (matches_of b history) [] (event_matches b next) (event_matches_at b next)
    (λ h. ap (filter (is_within b.span t)) (holds h) ∙ kept_agrees b history t (is_within b.span t) (λ last le. within_is_later b.span last t le) h behind)
    ∙ ap (λ l. reports_after number b l (event_matches b next)) (append-nil (matches_of b history))

pub goes : Goes
goes b history next old new behind holds becomes = λ g.
    let a = next.moment -ℤ b.span in
    let ms = event_matches b next in
    let one : new g ≡ recent a (old g ++ of_group g ms) = becomes g in
    let two : recent a (old g ++ of_group g ms) ≡ recent a (of_group g (matches_of b history ++ ms)) =
    same_window (λ m. int_lt a m.moment) old (matches_of b history) ms g
    (λ h. ap (recent a) (holds h) ∙ kept_agrees b history next.moment (λ m. int_lt a m.moment) (λ last le. recent_is_later b.span last next.moment le) h behind) in
    let three : of_group g (kept b (history ++ next ∷ [])) ≡ recent a (of_group g (matches_of b history ++ ms)) =
    ap (λ l. of_group g (kept_at b.span l (matches_of b (history ++ next ∷ [])))) (last_moment-push history next) ∙ (of_group-recent g a (matches_of b (history ++ next ∷ [])) ∙ ap (λ l. recent a (of_group g l)) (matches_of-push b history next)) in
    one ∙ (two ∙ sym three)
