-- When joined trees hold.
use Rattle.std.proofs.Common.{◌↔◌, List, [], ◌∷◌, map, inl, inr}
use Rattle.std.specs.List.{flat_map}
use Rattle.backend_core.specs.Holds.{TreeHolds, EachHolds, OneHolds}
use Rattle.backend_core.specs.Trees.{Plain, all, any, negated, leaf, never, Plains, no_parts, a_part}
use Rattle.event_schema.specs.Lists.{EachOf}
use Rattle.event_schema.specs.declared.value.Value.{Value}
use Rattle.rule_model.proofs.Iffs.{Over, Both, iff_same, iff_then, iff_back, iff_pair, over_cons, over_empty, over_map, over_flat}
use Rattle.modifier_words.specs.declared.modifier.Joined.{Joined}
use Rattle.modifier_words.specs.declared.modifier.Joined.TheVariants.{All, Any}
use Rattle.rule_lowering.specs.Joining.{plains, listed, parts_of, tree_with, closed, join}

module _ (row : List (List Value)) where
  abbrev PartsHold : Joined → Plains → Type 0
  PartsHold All ts = EachHolds row ts
  PartsHold Any ts = OneHolds row ts

  parts_cons : (j : Joined) (t : Plain) (ts : Plains) → PartsHold j (a_part t ts) ↔ Both j (TreeHolds row t) (PartsHold j ts)
  parts_cons All t ts = iff_same
  parts_cons Any t ts = iff_same

  parts_empty : (j : Joined) → PartsHold j no_parts ↔ Over j (TreeHolds row) []
  parts_empty All = iff_same
  parts_empty Any = iff_same

  listed_holds : (j : Joined) (ts : Plains) → Over j (TreeHolds row) (listed ts) ↔ PartsHold j ts
  listed_holds j no_parts = iff_back (parts_empty j)
  listed_holds j (a_part t ts) =
      iff_then (over_cons j (TreeHolds row) t (listed ts)) (iff_then (iff_pair j iff_same (listed_holds j ts)) (iff_back (parts_cons j t ts)))

  plains_hold : (j : Joined) (ts : List Plain) → PartsHold j (plains ts) ↔ Over j (TreeHolds row) ts
  plains_hold j [] = parts_empty j
  plains_hold j (t ∷ ts) =
      iff_then (parts_cons j t (plains ts)) (iff_then (iff_pair j iff_same (plains_hold j ts)) (iff_back (over_cons j (TreeHolds row) t ts)))

  one_part : (j : Joined) (t : Plain) → Over j (TreeHolds row) (t ∷ []) ↔ TreeHolds row t
  one_part All t = ((λ h. h.0), (λ h. (h, tt)))
  one_part Any t = ((λ h. elim h [ inl e ↦ e | inr e ↦ absurd e ]), (λ h. inl h))

  parts_hold : (j : Joined) (t : Plain) → Over j (TreeHolds row) (parts_of j t) ↔ TreeHolds row t
  parts_hold All (all ts) = listed_holds All ts
  parts_hold All (any ts) = one_part All (any ts)
  parts_hold All (negated t) = one_part All (negated t)
  parts_hold All (leaf l) = one_part All (leaf l)
  parts_hold All never = one_part All never
  parts_hold Any (all ts) = one_part Any (all ts)
  parts_hold Any (any ts) = listed_holds Any ts
  parts_hold Any (negated t) = one_part Any (negated t)
  parts_hold Any (leaf l) = one_part Any (leaf l)
  parts_hold Any never = one_part Any never

  tree_with_holds : (j : Joined) (ts : Plains) → TreeHolds row (tree_with j ts) ↔ PartsHold j ts
  tree_with_holds All ts = iff_same
  tree_with_holds Any ts = iff_same

  closed_holds : (j : Joined) (ts : List Plain) → TreeHolds row (closed j ts) ↔ Over j (TreeHolds row) ts
  closed_holds j [] = iff_then (tree_with_holds j no_parts) (parts_empty j)
  closed_holds j (t ∷ []) = iff_back (one_part j t)
  closed_holds j (t ∷ u ∷ ts) = iff_then (tree_with_holds j (plains (t ∷ u ∷ ts))) (plains_hold j (t ∷ u ∷ ts))

  -- joining keeps what the parts hold
  pub join_holds : (j : Joined) (ts : List Plain) → TreeHolds row (join j ts) ↔ Over j (TreeHolds row) ts
  unfolding join
  join_holds j ts =
      iff_then (closed_holds j (flat_map (parts_of j) ts)) (over_flat j (parts_of j) (TreeHolds row) (TreeHolds row) (parts_hold j) ts)

  pub join_map : {A : Type 0} (j : Joined) (f : A → Plain) (Q : A → Type 0) → ((x : A) → TreeHolds row (f x) ↔ Q x)
      → (xs : List A) → TreeHolds row (join j (map f xs)) ↔ Over j Q xs
  join_map j f Q same xs = iff_then (join_holds j (map f xs)) (over_map j f (TreeHolds row) Q same xs)

  over_good : {A : Type 0} (j : Joined) (f : A → Plain) (Q Good : A → Type 0) → ((x : A) → Good x → TreeHolds row (f x) ↔ Q x)
      → (xs : List A) → EachOf Good xs → Over j (TreeHolds row) (map f xs) ↔ Over j Q xs
  over_good j f Q Good same [] good = over_empty j (TreeHolds row) Q
  over_good j f Q Good same (x ∷ xs) good =
      iff_then (over_cons j (TreeHolds row) (f x) (map f xs))
      (iff_then (iff_pair j (same x good.0) (over_good j f Q Good same xs good.1)) (iff_back (over_cons j Q x xs)))

  -- the same of parts that are known to be good
  pub join_good : {A : Type 0} (j : Joined) (f : A → Plain) (Q Good : A → Type 0) → ((x : A) → Good x → TreeHolds row (f x) ↔ Q x)
      → (xs : List A) → EachOf Good xs → TreeHolds row (join j (map f xs)) ↔ Over j Q xs
  join_good j f Q Good same xs good = iff_then (join_holds j (map f xs)) (over_good j f Q Good same xs good)
