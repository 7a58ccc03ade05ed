-- A queue that gains a match.
use Rattle.std.proofs.Common.{◌≡◌, ℕ, ◌+◌, ◌≤◌, Bool, true, false, cond, List, [], ◌∷◌, ◌++◌, refl, ap, sym, subst, ◌∙◌, arith, append-nil, true≢false}
use Rattle.std.specs.Prelude.{Option, Some, None, if◌then◌else◌, is_ok, Result, Ok, Err, IsOk, OnOk}
use Rattle.std.specs.Map.{lookup}
use Rattle.std.specs.Cmp.Lexicographic.{pointwise_decides, bytes_decides, lists_equiv, nat_list_eq_equiv}
use Rattle.correlation_windows.specs.Noted.{Queued}
use Rattle.correlation_windows.specs.Groups.{same_group}
use Rattle.correlation_windows.specs.Windows.{of_group}
use Rattle.correlation_windows.specs.Queues.{Entries, held, items_of, HasPlaces}
use Rattle.correlation_windows.specs.Ready.{HasFresh, IsFresh, IsPlaced, IsReady}
use Rattle.correlation_windows.specs.declared.matches.Match.{Match}
use Rattle.correlation_windows.specs.declared.bound.CorrelationKind.{CorrelationKind}
use Rattle.correlation_windows.specs.declared.found.Found.{Found}
use Rattle.correlation_windows.specs.declared.found.Fresh.{Fresh}

pub group_is : (a b : List (List ℕ)) → same_group a b ≡ true → a ≡ b
group_is a b same = (pointwise_decides bytes_decides a b).0 same

pub group_symm : (a b : List (List ℕ)) → same_group a b ≡ same_group b a
group_symm a b = (lists_equiv nat_list_eq_equiv).symm a b

pub group_refl : (a : List (List ℕ)) → same_group a a ≡ true
group_refl a = (lists_equiv nat_list_eq_equiv).refl a

fresh_fewer : (n : ℕ) (kind : CorrelationKind) (rules : ℕ) (group : List (List ℕ)) (fresh : Option Fresh) → HasFresh (n + 1) kind rules group fresh → HasFresh n kind rules group fresh
fresh_fewer n kind rules group None h = h
fresh_fewer n kind rules group (Some fresh) h = let room = h.room in record { empty = h.empty; fit = h.fit; room = omega (arith, room); texts = h.texts }

place_fewer : (n : ℕ) (kind : CorrelationKind) (rules : ℕ) (group : List (List ℕ)) (fresh : Option Fresh) (o : Option Queued) → IsPlaced (n + 1) kind rules group fresh o → IsPlaced n kind rules group fresh o
place_fewer n kind rules group fresh None h = fresh_fewer n kind rules group fresh h
place_fewer n kind rules group fresh (Some q) h = omega (arith, h)

-- what a queue holds once it is set to w, at a group
module _ (old new : Entries) (group : List (List ℕ)) (w : Queued)
    (set : (g : List (List ℕ)) → lookup (same_group g) new ≡ cond (same_group group g) (Some w) (lookup (same_group g) old)) where
  pub held_push : (m : Match) → w.items ≡ held old group ++ m ∷ [] → (g : List (List ℕ)) → held new g ≡ held old g ++ of_group g ((group, m) ∷ [])
  held_push m e g = ap items_of (set g) ∙ by (same_group group g) refl
    where
      by : (t : Bool) → same_group group g ≡ t → items_of (cond (same_group group g) (Some w) (lookup (same_group g) old)) ≡ held old g ++ of_group g ((group, m) ∷ [])
      by true p = rw p (rw (group_symm g group ∙ p) (e ∙ ap (λ h. held old h ++ m ∷ []) (group_is group g p)))
      by false p = rw p (rw (group_symm g group ∙ p) (sym (append-nil (held old g))))

  pub ready_push : (n : ℕ) (kind : CorrelationKind) (rules : ℕ) (f : Found) → n ≤ w.room → IsReady (n + 1) kind rules old f → IsReady n kind rules new f
  ready_push n kind rules f fits ready = record {
    text = ready.text;
    place = subst (IsPlaced n kind rules f.group f.fresh) (sym (set f.group)) (by (same_group group f.group));
  }
    where
      by : (t : Bool) → IsPlaced n kind rules f.group f.fresh (cond t (Some w) (lookup (same_group f.group) old))
      by true = fits
      by false = place_fewer n kind rules f.group f.fresh (lookup (same_group f.group) old) ready.place

pub use_ok : {A E P : Type 0} (r : Result A E) → IsOk r → OnOk r P → P
use_ok (Ok x) h p = p
use_ok (Err x) h p = absurd (true≢false (sym h))

pub pushed_items : {A E X : Type 0} (r : Result A E) (old new : List X) (x : X) → IsOk r → new ≡ (if is_ok r then old ++ x ∷ [] else old) → new ≡ old ++ x ∷ []
pushed_items r old new x ok e = e ∙ ap (λ (t : Bool). if t then old ++ x ∷ [] else old) ok

pub pushed_len : {A E : Type 0} (r : Result A E) (old new : ℕ) → IsOk r → new ≡ (if is_ok r then old + 1 else old) → new ≡ old + 1
pushed_len r old new ok e = e ∙ ap (λ (t : Bool). if t then old + 1 else old) ok

-- what a queue that the map holds has of room
pub so_many : (n : ℕ) (o : Option Queued) (q : Queued) → o ≡ Some q → HasPlaces n o → n ≤ q.room
so_many n o q e h = subst (HasPlaces n) e h

pub placed_in : (n : ℕ) (kind : CorrelationKind) (rules : ℕ) (group : List (List ℕ)) (fresh : Option Fresh) (o : Option Queued) (q : Queued) → o ≡ Some q → IsPlaced n kind rules group fresh o → n ≤ q.room
placed_in n kind rules group fresh o q e h = subst (IsPlaced n kind rules group fresh) e h

-- and what a queue has that comes with a match of a new group
pub placed_new : (n : ℕ) (kind : CorrelationKind) (rules : ℕ) (group : List (List ℕ)) (fresh : Option Fresh) (new : Fresh) (o : Option Queued) → o ≡ None → fresh ≡ Some new → IsPlaced n kind rules group fresh o → IsFresh n kind rules group new
placed_new n kind rules group fresh new o e is h = subst (HasFresh n kind rules group) is (subst (IsPlaced n kind rules group fresh) e h)

-- a queue that gained room alone
module _ (old new : Entries) (group : List (List ℕ)) (q w : Queued) (found : lookup (same_group group) old ≡ Some q)
    (set : (g : List (List ℕ)) → lookup (same_group g) new ≡ cond (same_group group g) (Some w) (lookup (same_group g) old)) where
  at_group : (g : List (List ℕ)) → same_group group g ≡ true → lookup (same_group g) old ≡ Some q
  at_group g p = subst (λ (h : List (List ℕ)). lookup (same_group h) old ≡ Some q) (group_is group g p) found

  pub held_room : w.items ≡ q.items → (g : List (List ℕ)) → held new g ≡ held old g
  held_room e g = ap items_of (set g) ∙ by (same_group group g) refl
    where
      by : (t : Bool) → same_group group g ≡ t → items_of (cond (same_group group g) (Some w) (lookup (same_group g) old)) ≡ held old g
      by true p = rw p (e ∙ ap items_of (sym (at_group g p)))
      by false p = rw p refl

  pub places_room : q.room ≤ w.room → (n : ℕ) (g : List (List ℕ)) → HasPlaces n (lookup (same_group g) old) → HasPlaces n (lookup (same_group g) new)
  places_room cap n g before = subst (HasPlaces n) (sym (set g)) (by (same_group group g) refl)
    where
      by : (t : Bool) → same_group group g ≡ t → HasPlaces n (cond (same_group group g) (Some w) (lookup (same_group g) old))
      by true p = let fits : n ≤ q.room = so_many n _ q (at_group g p) before in rw p (omega (arith, cap, fits))
      by false p = rw p before
