-- What is lacking: nothing for fields of one value; and whether a field may have several.
use Rattle.std.proofs.Common.{ℕ, zero, suc, ◌≡◌, refl, ap, Bool, false, cond, List, [], ◌∷◌, map}
use Rattle.std.specs.Prelude.{◌||◌, Option, Some, None}
use Rattle.event_schema.specs.Inferred.{text_field}
use Rattle.sig_base.specs.Judged.{first}
use Rattle.sig_base.specs.declared.refusal.Refusal.{Refusal}
use Rattle.backend_core.specs.Lacks.{leaf_refusal, lack_refusal, lacks_refusal}
use Rattle.backend_core.specs.Trees.{Plain, Plains, no_parts, a_part, all, any, negated, leaf, never}
use Rattle.backend_core.specs.declared.lack.Lack.TheVariants.{Many}
use Rattle.backend_core.specs.declared.tree.Leaf.{Leaf}
use Rattle.sqlite_writer.specs.Guarded.{other_of}
use Rattle.backend_core.specs.FieldAt.{is_many}
use Rattle.sqlite_writer.specs.Lacking.{is_many_if_any, sqlite_lacks}

one_each : (names : List (List ℕ)) (k : ℕ) → is_many (map text_field names) k ≡ false
one_each [] k = refl
one_each (name ∷ names) zero = refl
one_each (name ∷ names) (suc k) = one_each names k

one_if_any : (names : List (List ℕ)) (o : Option ℕ) → is_many_if_any (map text_field names) o ≡ false
one_if_any names None = refl
one_if_any names (Some k) = one_each names k

leaf_free : (names : List (List ℕ)) (l : Leaf) → leaf_refusal l (sqlite_lacks (map text_field names) l) ≡ None
leaf_free names l =
    let own = one_each names l.field in
    let other = one_if_any names (other_of l.test) in
    let few : (is_many (map text_field names) l.field || is_many_if_any (map text_field names) (other_of l.test)) ≡ false = rw (own, other) refl in
    ap (λ (b : Bool). leaf_refusal l (cond b (Some Many) None)) few

both_free : (a b : Option Refusal) → a ≡ None → b ≡ None → first (a ∷ b ∷ []) ≡ None
both_free a b e f = rw (e, f) refl

mutual
  pub no_lack : (names : List (List ℕ)) (t : Plain) → lack_refusal (sqlite_lacks (map text_field names)) t ≡ None
  no_lack names (all ts) = none_lack names ts
  no_lack names (any ts) = none_lack names ts
  no_lack names (negated t) = no_lack names t
  no_lack names (leaf l) = leaf_free names l
  no_lack names never = refl

  none_lack : (names : List (List ℕ)) (ts : Plains) → lacks_refusal (sqlite_lacks (map text_field names)) ts ≡ None
  none_lack names no_parts = refl
  none_lack names (a_part t ts) =
      both_free (lack_refusal (sqlite_lacks (map text_field names)) t) (lacks_refusal (sqlite_lacks (map text_field names)) ts) (no_lack names t) (none_lack names ts)
