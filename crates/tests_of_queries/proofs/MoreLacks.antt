-- A backend that lacks more than another one, and else answers as that does.
use Rattle.std.proofs.Common.{ℕ, ◌≡◌, Bool, true, false, length, List, [], ◌∷◌, Option, Some, None, refl, ap, sym, ◌∙◌}
use Rattle.std.specs.Prelude.{Result, Ok, Err, if◌then◌else◌}
use Rattle.backend_core.proofs.Checks.{parts, rest_decides, line_decides}
use Rattle.backend_core.specs.Lacks.{leaf_refusal, lack_refusal, lacks_refusal}
use Rattle.backend_core.specs.Trees.{Plain, all, any, negated, leaf, never, Plains, no_parts, a_part}
use Rattle.backend_core.specs.Writing.{at_most, write_refusal, Writes}
use Rattle.backend_core.specs.declared.lack.Lack.{Lack}
use Rattle.backend_core.specs.declared.lack.Lack.TheVariants.{Many}
use Rattle.backend_core.specs.declared.tree.Leaf.{Leaf}
use Rattle.event_schema.specs.declared.schema.Schema.{Schema}
use Rattle.sig_base.proofs.Firsts.{judged_as}
use Rattle.sig_base.specs.Judged.{first, Judged}
use Rattle.sig_base.specs.declared.limits.Limits.{Limits}
use Rattle.sig_base.specs.declared.refusal.Fault.{Fault}
use Rattle.sig_base.specs.declared.refusal.Fault.TheVariants.{Memory, Refused}
use Rattle.sig_base.specs.declared.refusal.Place.{Place}
use Rattle.sig_base.specs.declared.refusal.Refusal.{Refusal}
use Rattle.sqlite_writer.specs.Guarded.{is_unsure}
use Rattle.sqlite_writer.specs.Lacking.{sqlite_lacks}

module _ (more fewer : Leaf → Option Lack) (less : (l : Leaf) → more l ≡ None → fewer l ≡ None) where
  lacks_less : (l : Leaf) (o : Option Lack) → more l ≡ o → leaf_refusal l o ≡ None → leaf_refusal l (fewer l) ≡ None
  lacks_less l None is e = rw (less l is) refl
  lacks_less l (Some what) is e = absurd cc

  leaf_less : (l : Leaf) → leaf_refusal l (more l) ≡ None → leaf_refusal l (fewer l) ≡ None
  leaf_less l e = lacks_less l (more l) refl e

  mutual
    pub none_less : (t : Plain) → lack_refusal more t ≡ None → lack_refusal fewer t ≡ None
    none_less (all ts) e = nones_less ts e
    none_less (any ts) e = nones_less ts e
    none_less (negated t) e = none_less t e
    none_less (leaf l) e = leaf_less l e
    none_less never e = refl

    nones_less : (ts : Plains) → lacks_refusal more ts ≡ None → lacks_refusal fewer ts ≡ None
    nones_less no_parts e = refl
    nones_less (a_part t ts) e =
        let a = parts (lack_refusal more t) (lacks_refusal more ts ∷ []) e in
        let b = parts (lacks_refusal more ts) [] a.1 in
        rest_decides (lack_refusal fewer t) (lacks_refusal fewer ts ∷ []) (none_less t a.0) ∙ rest_decides (lacks_refusal fewer ts) [] (nones_less ts b.0)

abbrev judged_err : Fault → Result (Unit {0}) Fault
judged_err e = Err e

abbrev some_refusal : Refusal → Option Refusal
some_refusal r = Some r

module _ (more fewer : Schema → Leaf → Option Lack) (less : (schema : Schema) (l : Leaf) → more schema l ≡ None → fewer schema l ≡ None)
    (text : Schema → Plain → List ℕ) (too_deep : Limits → Schema → Plain → Place → Option Refusal)
    (limits : Limits) (schema : Schema) (t : Plain) (place : Place) where
  -- where the one lacks nothing, both are refused alike
  same : lack_refusal (more schema) t ≡ None → write_refusal more text too_deep limits schema t place ≡ write_refusal fewer text too_deep limits schema t place
  same none =
      let rest = too_deep limits schema t place ∷ at_most 114 place (length (text schema t)) (length (text schema t)) limits.query_bytes ∷ [] in
      rest_decides (lack_refusal (more schema) t) rest none
      ∙ sym (rest_decides (lack_refusal (fewer schema) t) rest (none_less (more schema) (fewer schema) (less schema) t none))

  pub unrefused_less : write_refusal more text too_deep limits schema t place ≡ None → write_refusal fewer text too_deep limits schema t place ≡ None
  unrefused_less e =
      let rest = too_deep limits schema t place ∷ at_most 114 place (length (text schema t)) (length (text schema t)) limits.query_bytes ∷ [] in
      sym (same (parts (lack_refusal (more schema) t) rest e).0) ∙ e

  pub writes_more : (r : Result (List ℕ) Fault) → lack_refusal (more schema) t ≡ None
      → Writes fewer text too_deep limits schema t place r → Writes more text too_deep limits schema t place r
  writes_more r none w = judged_as (λ (bytes : List ℕ). bytes ≡ text schema t) (λ (bytes : List ℕ). bytes ≡ text schema t)
      (write_refusal fewer text too_deep limits schema t place) (write_refusal more text too_deep limits schema t place) r (same none) (λ bytes is. is) w

  refused_is : (a b : Refusal) → judged_err (Refused a) ≡ judged_err (Refused b) → a ≡ b
  refused_is a b same = cc

  pub lacking_more : (judged : Result (Unit {0}) Fault) (e : Fault) → judged ≡ Err e → Judged (λ done. Unit {0}) (lack_refusal (more schema) t) judged
      → Writes more text too_deep limits schema t place (Err e)
  lacking_more (Ok done) e is j = absurd cc
  lacking_more (Err cause) Memory is j = tt
  lacking_more (Err Memory) (Refused r) is j = absurd cc
  lacking_more (Err (Refused s)) (Refused r) is j =
      line_decides (lack_refusal (more schema) t) r (too_deep limits schema t place ∷ at_most 114 place (length (text schema t)) (length (text schema t)) limits.query_bytes ∷ [])
      (j ∙ ap (λ (x : Refusal). some_refusal x) (refused_is s r is))

-- ---- the backend of the tests

abbrev pub lacks_values : Schema → Leaf → Option Lack
lacks_values schema l = if is_unsure l.test then sqlite_lacks schema.fields l else Some Many

abbrev pub lacks_lists : Schema → Leaf → Option Lack
lacks_lists schema l = sqlite_lacks schema.fields l

pub fewer_lists : (schema : Schema) (l : Leaf) → lacks_values schema l ≡ None → lacks_lists schema l ≡ None
fewer_lists schema l e = by (is_unsure l.test) e
  where
    by : (b : Bool) → (if b then sqlite_lacks schema.fields l else Some Many) ≡ None → sqlite_lacks schema.fields l ≡ None
    by true e = e
    by false e = absurd cc
