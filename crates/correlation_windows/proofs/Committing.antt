-- The loop that puts matches into their queues and tells their reports.
use Rattle.std.proofs.Common.{◌≡◌, ℕ, ◌+◌, ◌<◌, ◌≤◌, Bool, List, [], ◌∷◌, ◌++◌, refl, ap, sym, subst, ◌∙◌, arith, append-nil}
use Rattle.std.proofs.lemmas.List.{append_assoc}
use Rattle.std.specs.Prelude.{ℤ, ◌≤ℤ◌, Option, Some, None, if◌then◌else◌, length, map}
use Rattle.std.specs.List.{AllByRecursion, IsDistinct}
use Rattle.std.specs.Map.{lookup, keys_of}
use Rattle.correlation_windows.specs.Groups.{same_group}
use Rattle.correlation_windows.specs.Heaps.{AllUntil, IsOrderly}
use Rattle.correlation_windows.specs.History.{Grouped}
use Rattle.correlation_windows.specs.Noted.{Queued}
use Rattle.correlation_windows.specs.Over.{reports_on}
use Rattle.correlation_windows.specs.Windows.{of_group}
use Rattle.correlation_windows.specs.Queues.{Entries, held, AllFor}
use Rattle.correlation_windows.specs.Ready.{HasFresh, IsPlaced, IsReady, AllReady, AllNext, AreInTime, UntilEach, grouped}
use Rattle.correlation_windows.specs.Reports.{report_of}
use Rattle.correlation_windows.specs.declared.bound.Bound.{Bound}
use Rattle.correlation_windows.specs.declared.bound.CorrelationKind.{CorrelationKind}
use Rattle.correlation_windows.specs.declared.found.Found.{Found}
use Rattle.correlation_windows.specs.declared.found.Fresh.{Fresh}
use Rattle.correlation_windows.specs.declared.matches.Match.{Match}
use Rattle.correlation_windows.specs.declared.report.Report.{Report}
use Rattle.correlation_windows.proofs.Ordering.{until_each}
use Rattle.correlation_windows.proofs.Pushing.{group_refl}
use Rattle.correlation_windows.proofs.Windowing.{of_group-append}

-- the numbers that the loop keeps: how many more groups fit, how many reports there are and fit, and how many there were
pub record Sizes : Type 0 where
  pub spare : ℕ
  pub reports : ℕ
  pub capacity : ℕ
  pub before : ℕ

-- what the loop keeps: the matches that are done have come into the queues of the start and are reported, and those that are left can go in
pub record Going (number : ℕ) (b : Bound) (now : Entries) (sizes : Sizes) (told : List Report) (left : List Found) (first : Entries) (start : List Report) (all : List Found) : Type 0 where
  pub done : List Grouped
  pub whole : done ++ grouped left ≡ grouped all
  pub same : (g : List (List ℕ)) → held now g ≡ held first g ++ of_group g done
  pub reported : told ++ reports_on number b (held first) done (grouped left) ≡ start ++ reports_on number b (held first) [] (grouped all)
  pub orderly : IsOrderly now
  pub fit : AllFor b.kind (length b.rules) now
  pub next : AllNext now left
  pub in_time : AreInTime left
  pub room : length left ≤ sizes.spare
  pub ready : AllReady (length left) b.kind (length b.rules) now left
  pub few : sizes.reports + length left ≤ sizes.before + length all
  pub fits : sizes.before + length all ≤ sizes.capacity

longer : {X : Type 0} (x : X) (xs : List X) → length (x ∷ xs) ≡ length xs + 1
longer x xs = omega arith

still_ready : (n : ℕ) (kind : CorrelationKind) (rules : ℕ) (old new : Entries) → ((f : Found) → IsReady (n + 1) kind rules old f → IsReady n kind rules new f) → (fs : List Found) → AllReady (n + 1) kind rules old fs → AllReady n kind rules new fs
still_ready n kind rules old new step [] all = tt
still_ready n kind rules old new step (f ∷ fs) all = (step f all.0, still_ready n kind rules old new step fs all.1)

still_next : (old new : Entries) (m : Match) → ((t : ℤ) → m.moment ≤ℤ t → AllUntil t old → AllUntil t new) → (fs : List Found) → AllByRecursion (λ x. m.moment ≤ℤ x.moment) (map (λ f. f.found) fs) → AllNext old fs → AllNext new fs
still_next old new m until [] later all = tt
still_next old new m until (f ∷ fs) later all = (until f.found.moment later.0 all.0, still_next old new m until fs later.1 all.1)

-- room for n is room for one
one_fresh : (n : ℕ) (kind : CorrelationKind) (rules : ℕ) (group : List (List ℕ)) (fresh : Option Fresh) → 0 < n → HasFresh n kind rules group fresh → HasFresh 1 kind rules group fresh
one_fresh n kind rules group None some h = h
one_fresh n kind rules group (Some fresh) some h = let room = h.room in record { empty = h.empty; fit = h.fit; room = omega (arith, room, some); texts = h.texts }

pub one_placed : (n : ℕ) (kind : CorrelationKind) (rules : ℕ) (group : List (List ℕ)) (fresh : Option Fresh) (o : Option Queued) → 0 < n → IsPlaced n kind rules group fresh o → IsPlaced 1 kind rules group fresh o
one_placed n kind rules group fresh None some h = one_fresh n kind rules group fresh some h
one_placed n kind rules group fresh (Some q) some h = omega (arith, h, some)

module _ (number : ℕ) (b : Bound) (first : Entries) (start : List Report) (all : List Found) where
  pub going_at : (now : Entries) (sizes : Sizes) (told : List Report) (f : Found) (before rest : List Found) → before ≡ f ∷ rest → Going number b now sizes told before first start all → Going number b now sizes told (f ∷ rest) first start all
  going_at now sizes told f before rest e so = subst (λ (l : List Found). Going number b now sizes told l first start all) e so

  -- the start
  pub going_first : (sizes : Sizes) → IsOrderly first → AllFor b.kind (length b.rules) first → AllNext first all → AreInTime all → length all ≤ sizes.spare → AllReady (length all) b.kind (length b.rules) first all
      → sizes.reports ≡ sizes.before → sizes.before + length all ≤ sizes.capacity → Going number b first sizes start all first start all
  going_first sizes orderly fit next in_time room ready none fits = record {
    done = [];
    whole = refl;
    same = λ g. sym (append-nil (held first g));
    reported = refl;
    orderly = orderly;
    fit = fit;
    next = next;
    in_time = in_time;
    room = room;
    ready = ready;
    few = omega (arith, none);
    fits = fits;
  }

  -- a match more
  pub going : (old new : Entries) (was is : Sizes) (before after : List Report) (f : Found) (rest : List Found) → Going number b old was before (f ∷ rest) first start all
      → IsOrderly new → AllFor b.kind (length b.rules) new → ((t : ℤ) → f.found.moment ≤ℤ t → AllUntil t old → AllUntil t new)
      → ((g : List (List ℕ)) → held new g ≡ held old g ++ of_group g ((f.group, f.found) ∷ [])) → was.spare ≤ is.spare + 1
      → ((n : ℕ) → IsPlaced (n + 1) b.kind (length b.rules) f.group f.fresh (lookup (same_group f.group) old) → (x : Found) → IsReady (n + 1) b.kind (length b.rules) old x → IsReady n b.kind (length b.rules) new x)
      → after ≡ before ++ report_of number b (held old f.group ++ f.found ∷ []) (f.group, f.found) → is.reports ≤ was.reports + 1 → is.capacity ≡ was.capacity → is.before ≡ was.before
      → Going number b new is after rest first start all
  going old new was is before after f rest at orderly fit until holds room places tells few capacity same_before =
      let len : length (f ∷ rest) ≡ length rest + 1 = longer f rest in
      let long : length (f ∷ rest) ≤ was.spare = at.room in
      let ready : AllReady (length rest + 1) b.kind (length b.rules) old (f ∷ rest) = subst (λ (n : ℕ). AllReady n b.kind (length b.rules) old (f ∷ rest)) len at.ready in
      let some = at.few in
      let fits = at.fits in
      record {
        done = at.done ++ (f.group, f.found) ∷ [];
        whole = append_assoc at.done ((f.group, f.found) ∷ []) (grouped rest) ∙ at.whole;
        same = λ g. holds g ∙ (ap (λ h. h ++ of_group g ((f.group, f.found) ∷ [])) (at.same g) ∙ (append_assoc (held first g) (of_group g at.done) (of_group g ((f.group, f.found) ∷ [])) ∙ ap (λ r. held first g ++ r) (sym (of_group-append g at.done ((f.group, f.found) ∷ [])))));
        reported =
            ap (λ r. r ++ reports_on number b (held first) (at.done ++ (f.group, f.found) ∷ []) (grouped rest)) (tells ∙ ap (λ w. before ++ report_of number b w (f.group, f.found)) (window at))
            ∙ (append_assoc before (report_of number b (held first f.group ++ of_group f.group (at.done ++ (f.group, f.found) ∷ [])) (f.group, f.found)) (reports_on number b (held first) (at.done ++ (f.group, f.found) ∷ []) (grouped rest)) ∙ at.reported);
        orderly = orderly;
        fit = fit;
        next = still_next old new f.found until rest at.in_time.0 at.next.1;
        in_time = at.in_time.1;
        room = omega (arith, len, long, room);
        ready = still_ready (length rest) b.kind (length b.rules) old new (places (length rest) ready.0.place) rest ready.1;
        few = omega (arith, len, few, some, same_before);
        fits = omega (arith, fits, same_before, capacity);
      }
    where
      -- the queue right after its match has come
      window : Going number b old was before (f ∷ rest) first start all → held old f.group ++ f.found ∷ [] ≡ held first f.group ++ of_group f.group (at.done ++ (f.group, f.found) ∷ [])
      window so =
          ap (λ h. h ++ f.found ∷ []) (at.same f.group)
          ∙ (append_assoc (held first f.group) (of_group f.group at.done) (f.found ∷ [])
          ∙ ap (λ r. held first f.group ++ r) (sym (of_group-append f.group at.done ((f.group, f.found) ∷ []) ∙ ap (λ (t : Bool). of_group f.group at.done ++ (if t then f.found ∷ [] else [])) (group_refl f.group))))

  -- the end
  pub gone_held : (now : Entries) (sizes : Sizes) (told : List Report) (left : List Found) → length left ≡ 0 → Going number b now sizes told left first start all → (g : List (List ℕ)) → held now g ≡ held first g ++ of_group g (grouped all)
  gone_held now sizes told [] none so g = so.same g ∙ ap (λ ms. held first g ++ of_group g ms) (sym (append-nil so.done) ∙ so.whole)
  gone_held now sizes told (f ∷ fs) none so g = absurd (omega (arith, none))

  pub gone_told : (now : Entries) (sizes : Sizes) (told : List Report) (left : List Found) → length left ≡ 0 → Going number b now sizes told left first start all → told ≡ start ++ reports_on number b (held first) [] (grouped all)
  gone_told now sizes told [] none so = sym (append-nil told) ∙ so.reported
  gone_told now sizes told (f ∷ fs) none so = absurd (omega (arith, none))

-- what comes behind the matches of each group comes behind all queues
pub next_of : (es : Entries) → IsDistinct same_group (keys_of es) → (fs : List Found) → AllByRecursion (λ f. UntilEach f.found.moment es) fs → AllNext es fs
next_of es unique [] all = tt
next_of es unique (f ∷ fs) all = (until_each f.found.moment es unique all.0, next_of es unique fs all.1)
