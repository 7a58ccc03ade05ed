-- The causes for which a tree isn't written, one by one.
use Rattle.std.proofs.Common.{ℕ, ◌≡◌, ◌≤◌, ◌<◌, Bool, true, false, List, [], ◌∷◌, Option, Some, None, refl, sym, ◌∙◌}
use Rattle.std.specs.Prelude.{nat_le, if◌then◌else◌, length}
use Rattle.std.proofs.lemmas.Bool.{leb-true, leb-false, le-leb, lt-leb}
use Rattle.std.proofs.lemmas.Option.{none-some, same_Some}
use Rattle.event_schema.specs.declared.schema.Schema.{Schema}
use Rattle.sig_base.specs.Judged.{first}
use Rattle.sig_base.specs.declared.limits.Limits.{Limits}
use Rattle.sig_base.specs.declared.refusal.Place.{Place}
use Rattle.sig_base.specs.declared.refusal.Refusal.{Refusal}
use Rattle.backend_core.specs.Lacks.{lack_refusal}
use Rattle.backend_core.specs.Trees.{Plain}
use Rattle.backend_core.specs.Writing.{at_most, numbered, write_refusal}
use Rattle.backend_core.specs.declared.lack.Lack.{Lack}
use Rattle.backend_core.specs.declared.tree.Leaf.{Leaf}

-- a table without a cause has none in its first line, and none behind it
pub parts : (o : Option Refusal) (rest : List (Option Refusal)) → first (o ∷ rest) ≡ None → (o ≡ None) × (first rest ≡ None)
parts None rest e = (refl, e)
parts (Some r) rest e = absurd (none-some r (sym e))

-- a line that passes leaves it to those behind it
pub rest_decides : (o : Option Refusal) (rest : List (Option Refusal)) → o ≡ None → first (o ∷ rest) ≡ first rest
rest_decides o rest e = rw e refl

pub line_decides : (o : Option Refusal) (r : Refusal) (rest : List (Option Refusal)) → o ≡ Some r → first (o ∷ rest) ≡ Some r
line_decides o r rest e = rw e refl

pub within : (code : ℕ) (place : Place) (told count limit : ℕ) → at_most code place told count limit ≡ None → count ≤ limit
within code place told count limit e = by (nat_le count limit) refl where
  cond_false : nat_le count limit ≡ false → at_most code place told count limit ≡ Some (numbered code place told limit)
  cond_false h = rw h refl

  by : (b : Bool) → nat_le count limit ≡ b → count ≤ limit
  by true h = leb-true count limit h
  by false h = absurd (none-some _ (sym e ∙ cond_false h))

pub passes : (code : ℕ) (place : Place) (told count limit : ℕ) → count ≤ limit → at_most code place told count limit ≡ None
passes code place told count limit l = rw (le-leb count limit l) refl

pub fails : (code : ℕ) (place : Place) (told count limit : ℕ) → limit < count → at_most code place told count limit ≡ Some (numbered code place told limit)
fails code place told count limit l = rw (lt-leb count limit l) refl

-- what refuses a number is told so, and the number is past the limit
pub told_so : (code : ℕ) (place : Place) (told count limit : ℕ) (r : Refusal) → at_most code place told count limit ≡ Some r
    → (limit < count) × (r ≡ numbered code place told limit)
told_so code place told count limit r = by (nat_le count limit) refl where
  by : (b : Bool) → nat_le count limit ≡ b → (if b then None else Some (numbered code place told limit)) ≡ Some r
      → (limit < count) × (r ≡ numbered code place told limit)
  by true is e = absurd (none-some r e)
  by false is e = (leb-false count limit is, sym (same_Some (numbered code place told limit) r e))

module _ (missing : Schema → Leaf → Option Lack) (text : Schema → Plain → List ℕ) (too_deep : Limits → Schema → Plain → Place → Option Refusal)
    (limits : Limits) (schema : Schema) (t : Plain) (place : Place) where
  pub record Unrefused : Type 0 where
    pub none : lack_refusal (missing schema) t ≡ None
    pub shallow : too_deep limits schema t place ≡ None
    pub short : length (text schema t) ≤ limits.query_bytes

  abbrev long : Option Refusal
  long = at_most 114 place (length (text schema t)) (length (text schema t)) limits.query_bytes

  -- what isn't refused has no cause in any line
  pub unrefused : write_refusal missing text too_deep limits schema t place ≡ None → Unrefused
  unrefused e =
      let a = parts (lack_refusal (missing schema) t) (too_deep limits schema t place ∷ long ∷ []) e in
      let b = parts (too_deep limits schema t place) (long ∷ []) a.1 in
      let c = parts long [] b.1 in
      record {
        none = a.0;
        shallow = b.0;
        short = within 114 place (length (text schema t)) (length (text schema t)) limits.query_bytes c.0;
      }
