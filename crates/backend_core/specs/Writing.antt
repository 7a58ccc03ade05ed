-- Why a backend writes no query for a tree, and what it answers; said of its meanings: what it lacks for a leaf, its text of a
-- tree, and how it refuses a tree that is too deep or has too many clauses.
use Rattle.std.specs.Prelude.{ℕ, ◌≡◌, ◌<◌, pos, nat_le, if◌then◌else◌, List, [], ◌∷◌, length, Option, Some, None, Result}
use Rattle.event_schema.specs.declared.schema.Schema.{Schema}
use Rattle.sig_base.specs.Judged.{first, Judged}
use Rattle.sig_base.specs.declared.limits.Limits.{Limits}
use Rattle.sig_base.specs.declared.refusal.Detail.TheVariants.{Numbers}
use Rattle.sig_base.specs.declared.refusal.Fault.{Fault}
use Rattle.sig_base.specs.declared.refusal.Place.{Place}
use Rattle.sig_base.specs.declared.refusal.Refusal.{Refusal}
use Rattle.backend_core.specs.Lacks.{lack_refusal}
use Rattle.backend_core.specs.Trees.{Plain}
use Rattle.backend_core.specs.declared.lack.Lack.{Lack}
use Rattle.backend_core.specs.declared.tree.Leaf.{Leaf}

-- a code at the place, with the number that is told and the limit
abbrev pub numbered : ℕ → Place → (told limit : ℕ) → Refusal
numbered code place told limit = record { code = code; place = place; detail = Numbers (pos told) (pos limit) }

-- there are at most so many, or the code is answered at the place, with the number that is told and the limit
abbrev pub at_most : ℕ → Place → (told count limit : ℕ) → Option Refusal
at_most code place told count limit = if nat_le count limit then None else Some (numbered code place told limit)

-- what a tree is refused with that is too deep (112) or has too many clauses (113): at the place, with a number and the limit that it's past
pub data IsTooDeep (place : Place) (r : Refusal) : Type 0 where
  by_depth : (told limit : ℕ) → limit < told → r ≡ numbered 112 place told limit → IsTooDeep place r
  by_clauses : (told limit : ℕ) → limit < told → r ≡ numbered 113 place told limit → IsTooDeep place r

module _ (missing : Schema → Leaf → Option Lack) (text : Schema → Plain → List ℕ) (too_deep : Limits → Schema → Plain → Place → Option Refusal)
    (limits : Limits) (schema : Schema) (t : Plain) (place : Place) where
  -- in this order: 111 at the first leaf for which something is lacking, the depth or the number of clauses (112, 113), and the
  -- length of the text (114)
  abbrev pub write_checks : List (Option Refusal)
  write_checks =
      lack_refusal (missing schema) t
      ∷ too_deep limits schema t place
      ∷ at_most 114 place (length (text schema t)) (length (text schema t)) limits.query_bytes
      ∷ []

  abbrev pub write_refusal : Option Refusal
  write_refusal = first write_checks

  -- the text of the tree where there is no cause to refuse it, else the first cause; want of memory says nothing
  abbrev pub Writes : Result (List ℕ) Fault → Type 0
  Writes result = Judged (λ bytes. bytes ≡ text schema t) write_refusal result
