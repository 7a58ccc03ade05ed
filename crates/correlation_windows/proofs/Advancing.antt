-- From matches that are provided for, through the older ones that go, to the reports of an event.
use Rattle.std.proofs.Common.{◌≡◌, ℕ, suc, ◌≤◌, Bool, true, false, List, [], ◌∷◌, ◌++◌, refl, ap, sym, subst, ◌∙◌, arith}
use Rattle.std.specs.Prelude.{ℤ, ◌-ℤ◌, ◌≤ℤ◌, ◌<ℤ◌, int_lt, Option, Some, None, Result, Ok, Err, OnOk, if◌then◌else◌, length}
use Rattle.std.specs.List.{AllByRecursion, IsDistinct, filter}
use Rattle.std.specs.Map.{lookup, keys_of}
use Rattle.std.proofs.lemmas.Int.{ints}
use Rattle.std.proofs.lemmas.List.{append_assoc, map-append}
use Rattle.std.proofs.lemmas.List.Elements.{filter-append}
use Rattle.correlation_windows.specs.Groups.{same_group}
use Rattle.correlation_windows.specs.Heaps.{IsUntil}
use Rattle.correlation_windows.specs.History.{Grouped}
use Rattle.correlation_windows.specs.Laws.{recent}
use Rattle.correlation_windows.specs.Noted.{Queued}
use Rattle.correlation_windows.specs.Over.{reports_over, reports_on}
use Rattle.correlation_windows.specs.Queues.{Entries, Stored, HasPlaces, held, items_of}
use Rattle.correlation_windows.specs.Ready.{AllAt, AllNext, AllPlaced, AllProvided, AllReady, ComeNext, HasFresh, HasRoom, IsPlaced, IsProvided, UntilEach, grouped}
use Rattle.correlation_windows.specs.Reports.{report_of}
use Rattle.correlation_windows.specs.Windows.{is_within, of_group}
use Rattle.correlation_windows.specs.declared.bound.Bound.{Bound}
use Rattle.correlation_windows.specs.declared.bound.CorrelationKind.{CorrelationKind}
use Rattle.correlation_windows.specs.declared.found.Found.{Found}
use Rattle.correlation_windows.specs.declared.matches.Match.{Match}
use Rattle.correlation_windows.proofs.Committing.{next_of}
use Rattle.correlation_windows.proofs.Following.{until_recent}
use Rattle.correlation_windows.proofs.Windowing as windowing

-- room was made, and no match came or went
provided_still : (after : ℤ) (n : ℕ) (old new : Stored) → new.kind ≡ old.kind → new.rules ≡ old.rules → ((g : List (List ℕ)) → held new.entries g ≡ held old.entries g)
    → (fs : List Found) → AllProvided after n old fs → AllProvided after n new fs
provided_still after n old new kinds counts same [] all = tt
provided_still after n old new kinds counts same (f ∷ fs) all = (
  record {
    text = all.0.text;
    fresh = λ none. subst (λ (k : CorrelationKind). HasFresh n k new.rules f.group f.fresh) (sym kinds) (subst (λ (r : ℕ). HasFresh n old.kind r f.group f.fresh) (sym counts) (all.0.fresh (ap (recent after) (sym (same f.group)) ∙ none)));
  },
  provided_still after n old new kinds counts same fs all.1,
)

pub room_made : {A E : Type 0} (r : Result A E) (after : ℤ) (old new : Stored) (fs : List Found) → new.kind ≡ old.kind → new.rules ≡ old.rules → ((g : List (List ℕ)) → held new.entries g ≡ held old.entries g)
    → OnOk r (length fs ≤ new.spare) → OnOk r (AllPlaced (length fs) new.entries fs) → AllProvided after (length fs) old fs → OnOk r (HasRoom after new fs)
room_made (Ok x) after old new fs kinds counts same room placed provided = record { room = room; placed = placed; provided = provided_still after (length fs) old new kinds counts same fs provided }
room_made (Err e) after old new fs kinds counts same room placed provided = tt

-- one match more is provided for
pub grouped_more : (old new : List Found) (f : Found) (own : Grouped) (before rest all : List Grouped) → before ≡ own ∷ rest → f.group ≡ own.0 → f.found ≡ own.1 → new ≡ old ++ f ∷ []
    → grouped old ++ before ≡ all → grouped new ++ rest ≡ all
grouped_more old new f own before rest all next group found is so =
    ap (λ fs. grouped fs ++ rest) is
    ∙ (ap (λ ms. ms ++ rest) (map-append (λ f. (f.group, f.found)) old (f ∷ []))
    ∙ (append_assoc (grouped old) (grouped (f ∷ [])) rest
    ∙ (ap (λ ms. grouped old ++ ms) (first own group found)
    ∙ (ap (λ ms. grouped old ++ ms) (sym next) ∙ so))))
  where
    first : (own : Grouped) → f.group ≡ own.0 → f.found ≡ own.1 → (f.group, f.found) ∷ rest ≡ own ∷ rest
    first (g, m) p q = ap (λ (x : List (List ℕ)). (x, f.found) ∷ rest) p ∙ ap (λ (x : Match). (g, x) ∷ rest) q

all_push : {X : Type 0} (P : X → Type 0) (xs : List X) (y : X) → AllByRecursion P xs → P y → AllByRecursion P (xs ++ y ∷ [])
all_push P [] y all has = (has, tt)
all_push P (x ∷ xs) y all has = (all.0, all_push P xs y all.1 has)

pub provided_more : (after : ℤ) (n : ℕ) (stored : Stored) (old new : List Found) (f : Found) → AllProvided after n stored old → IsProvided after n stored f → new ≡ old ++ f ∷ [] → AllProvided after n stored new
provided_more after n stored old new f all has is = subst (AllProvided after n stored) (sym is) (all_push (IsProvided after n stored) old f all has)

pub provided_all : (after : ℤ) (n : ℕ) (stored : Stored) (founds : List Found) (ms : List Grouped) → grouped founds ≡ ms → n ≡ length ms → AllProvided after n stored founds → AllProvided after (length founds) stored founds
provided_all after n stored founds ms is count all = subst (λ (k : ℕ). AllProvided after k stored founds) (count ∙ (ap length (sym is) ∙ length-grouped founds)) all
  where
    length-grouped : (fs : List Found) → length (grouped fs) ≡ length fs
    length-grouped [] = refl
    length-grouped (f ∷ fs) = ap suc (length-grouped fs)

-- older matches have gone
module _ (after : ℤ) (old : Stored) (mid : Entries) (gone : (g : List (List ℕ)) → held mid g ≡ recent after (held old.entries g)) where
  each_next : (fs : List Found) → AllByRecursion (λ f. UntilEach f.found.moment old.entries) fs → AllByRecursion (λ f. UntilEach f.found.moment mid) fs
  each_next [] all = tt
  each_next (f ∷ fs) all = ((λ g. subst (IsUntil f.found.moment) (sym (gone g)) (until_recent f.found.moment after (held old.entries g) (all.0 g))), each_next fs all.1)

  pub still_next : IsDistinct same_group (keys_of mid) → (fs : List Found) → ComeNext old.entries fs → AllNext mid fs
  still_next unique fs next = next_of mid unique fs (each_next fs next.0)

  pub ready_now : (kind : CorrelationKind) (rules : ℕ) → old.kind ≡ kind → old.rules ≡ rules → ((n : ℕ) (g : List (List ℕ)) → HasPlaces n (lookup (same_group g) old.entries) → HasPlaces n (lookup (same_group g) mid))
      → (n : ℕ) (fs : List Found) → AllPlaced n old.entries fs → AllProvided after n old fs → AllReady n kind rules mid fs
  ready_now kind rules kinds counts keeps n [] placed provided = tt
  ready_now kind rules kinds counts keeps n (f ∷ fs) placed provided = (
    record {
      text = provided.0.text;
      place = by (lookup (same_group f.group) mid) refl;
    },
    ready_now kind rules kinds counts keeps n fs placed.1 provided.1,
  )
    where
      by : (o : Option Queued) → lookup (same_group f.group) mid ≡ o → IsPlaced n kind rules f.group f.fresh (lookup (same_group f.group) mid)
      by None e =
          subst (IsPlaced n kind rules f.group f.fresh) (sym e)
          (subst (λ (k : CorrelationKind). HasFresh n k rules f.group f.fresh) kinds
          (subst (λ (r : ℕ). HasFresh n old.kind r f.group f.fresh) counts (provided.0.fresh (sym (gone f.group) ∙ ap items_of e))))
      by (Some q) e = subst (IsPlaced n kind rules f.group f.fresh) (sym e) (subst (HasPlaces n) e (keeps n f.group placed.0))

-- the matches of the event itself are later
later_test : (after t a : ℤ) → after <ℤ t → a ≡ t → int_lt after a ≡ true
later_test after t a lt e = grind (arith, ints, lt, e)

group_recent : (after t : ℤ) → after <ℤ t → (g : List (List ℕ)) (ms : List Grouped) → windowing.AllAt t ms → recent after (of_group g ms) ≡ of_group g ms
group_recent after t lt g [] at = refl
group_recent after t lt g (m ∷ ms) at = by (same_group g m.0) (group_recent after t lt g ms at.1)
  where
    by : (b : Bool) → recent after (of_group g ms) ≡ of_group g ms → recent after (if b then m.1 ∷ of_group g ms else of_group g ms) ≡ (if b then m.1 ∷ of_group g ms else of_group g ms)
    by true e = rw (later_test after t m.1.moment lt at.0) (ap (λ r. m.1 ∷ r) e)
    by false e = e

grouped_at : (t : ℤ) (fs : List Found) → AllAt t fs → windowing.AllAt t (grouped fs)
grouped_at t [] at = tt
grouped_at t (f ∷ fs) at = (at.0, grouped_at t fs at.1)

pub held_advanced : (after t : ℤ) (old mid new : Entries) (fs : List Found) → after <ℤ t → AllAt t fs → ((g : List (List ℕ)) → held mid g ≡ recent after (held old g)) → ((g : List (List ℕ)) → held new g ≡ held mid g ++ of_group g (grouped fs))
    → (g : List (List ℕ)) → held new g ≡ recent after (held old g ++ of_group g (grouped fs))
held_advanced after t old mid new fs lt at gone come g =
    come g ∙ (ap (λ h. h ++ of_group g (grouped fs)) (gone g) ∙ (ap (λ r. recent after (held old g) ++ r) (sym (group_recent after t lt g (grouped fs) (grouped_at t fs at)))
    ∙ sym (filter-append (λ m. int_lt after m.moment) (held old g) (of_group g (grouped fs)))))

-- what the timespan reaches of matches that aren't later
not_later : (t a : ℤ) → a ≤ℤ t → int_lt t a ≡ false
not_later t a le = grind (arith, ints, le)

within_recent : (span t : ℤ) (ms : List Match) → IsUntil t ms → filter (is_within span t) ms ≡ recent (t -ℤ span) ms
within_recent span t [] until = refl
within_recent span t (m ∷ ms) until = by (int_lt (t -ℤ span) m.moment) refl (within_recent span t ms until.1)
  where
    by : (b : Bool) → int_lt (t -ℤ span) m.moment ≡ b → filter (is_within span t) ms ≡ recent (t -ℤ span) ms → filter (is_within span t) (m ∷ ms) ≡ recent (t -ℤ span) (m ∷ ms)
    by true p e = rw p (rw (not_later t m.moment until.0) (ap (λ r. m ∷ r) e))
    by false p e = rw p e

at_is_until : (t : ℤ) (g : List (List ℕ)) (ms : List Grouped) → windowing.AllAt t ms → IsUntil t (of_group g ms)
at_is_until t g [] at = tt
at_is_until t g (m ∷ ms) at = by (same_group g m.0) (at_is_until t g ms at.1)
  where
    le : (a : ℤ) → a ≡ t → a ≤ℤ t
    le a e = omega (arith, ints, e)

    by : (b : Bool) → IsUntil t (of_group g ms) → IsUntil t (if b then m.1 ∷ of_group g ms else of_group g ms)
    by true rest = (le m.1.moment at.0, rest)
    by false rest = rest

until_append : (t : ℤ) (xs ys : List Match) → IsUntil t xs → IsUntil t ys → IsUntil t (xs ++ ys)
until_append t [] ys p q = q
until_append t (x ∷ xs) ys p q = (p.0, until_append t xs ys p.1 q)

at_append : (t : ℤ) (xs : List Grouped) (m : Grouped) → windowing.AllAt t xs → m.1.moment ≡ t → windowing.AllAt t (xs ++ m ∷ [])
at_append t [] m at e = (e, tt)
at_append t (x ∷ xs) m at e = (at.0, at_append t xs m at.1 e)

module _ (number : ℕ) (b : Bound) (after t : ℤ) (old mid : List (List ℕ) → List Match) (is : after ≡ t -ℤ b.span) (lt : after <ℤ t) (until : (g : List (List ℕ)) → IsUntil t (old g)) (gone : (g : List (List ℕ)) → mid g ≡ recent after (old g)) where
  window_is : (g : List (List ℕ)) (ms : List Grouped) → windowing.AllAt t ms → mid g ++ of_group g ms ≡ filter (is_within b.span t) (old g ++ of_group g ms)
  window_is g ms at =
      ap (λ h. h ++ of_group g ms) (gone g) ∙ (ap (λ r. recent after (old g) ++ r) (sym (group_recent after t lt g ms at))
      ∙ (sym (filter-append (λ m. int_lt after m.moment) (old g) (of_group g ms))
      ∙ (ap (λ (a : ℤ). recent a (old g ++ of_group g ms)) is
      ∙ sym (within_recent b.span t (old g ++ of_group g ms) (until_append t (old g) (of_group g ms) (until g) (at_is_until t g ms at))))))

  on_is_over : (done ms : List Grouped) → windowing.AllAt t done → windowing.AllAt t ms → reports_on number b mid done ms ≡ reports_over number b old done ms
  on_is_over done [] at_done at = refl
  on_is_over done (m ∷ ms) at_done at =
      let now = at_append t done m at_done at.0 in
      let here : mid m.0 ++ of_group m.0 (done ++ m ∷ []) ≡ filter (is_within b.span m.1.moment) (old m.0 ++ of_group m.0 (done ++ m ∷ [])) =
      subst (λ (a : ℤ). mid m.0 ++ of_group m.0 (done ++ m ∷ []) ≡ filter (is_within b.span a) (old m.0 ++ of_group m.0 (done ++ m ∷ []))) (sym at.0) (window_is m.0 (done ++ m ∷ []) now) in
      ap (λ w. report_of number b w m ++ reports_on number b mid (done ++ m ∷ []) ms) here
      ∙ ap (λ r. report_of number b (filter (is_within b.span m.1.moment) (old m.0 ++ of_group m.0 (done ++ m ∷ []))) m ++ r) (on_is_over (done ++ m ∷ []) ms now at.1)

  pub on_over : (fs : List Found) → AllAt t fs → reports_on number b mid [] (grouped fs) ≡ reports_over number b old [] (grouped fs)
  on_over fs at = on_is_over [] (grouped fs) tt (grouped_at t fs at)
