-- What a backend lacks for a tree: some leaf asks what no query of its language can say.
use Rattle.std.specs.Prelude.{ℕ, Bool, if◌then◌else◌, List, [], ◌∷◌, Option, Some, None, codes}
use Rattle.sig_base.specs.Judged.{first}
use Rattle.sig_base.specs.declared.refusal.Detail.TheVariants as details
use Rattle.sig_base.specs.declared.refusal.Refusal.{Refusal}
use Rattle.backend_core.specs.declared.lack.Lack.{Lack}
use Rattle.backend_core.specs.declared.lack.Lack.TheVariants as lack
use Rattle.backend_core.specs.declared.tree.Leaf.{Leaf}
use Rattle.backend_core.specs.Trees.{Plain, all, any, negated, leaf, never, Plains, no_parts, a_part}

abbrev pub lack_name : Lack → List ℕ
lack_name lack.Many = codes "Many"
lack_name lack.Regex = codes "Regex"
lack_name lack.FieldRef = codes "FieldRef"
lack_name lack.Cased = codes "Cased"
lack_name lack.WholePattern = codes "WholePattern"
lack_name lack.EmptyText = codes "EmptyText"

-- Where a backend lacks several of these for a leaf, the first in this order is told: a field of several values, a regular expression, a
-- comparison of two fields, letters by their case, a pattern of numbers, and the empty text.
pub record Asks : Type 0 where
  pub many : Bool
  pub regex : Bool
  pub field_ref : Bool
  pub cased : Bool
  pub whole_pattern : Bool
  pub empty_text : Bool

abbrev pub first_lack : Asks → Option Lack
first_lack asks =
    if asks.many then Some lack.Many
    else if asks.regex then Some lack.Regex
    else if asks.field_ref then Some lack.FieldRef
    else if asks.cased then Some lack.Cased
    else if asks.whole_pattern then Some lack.WholePattern
    else if asks.empty_text then Some lack.EmptyText
    else None

-- the refusal where something is lacking for a leaf, at its place
abbrev pub leaf_refusal : Leaf → Option Lack → Option Refusal
leaf_refusal l None = None
leaf_refusal l (Some what) = Some (record { code = 111; place = l.place; detail = details.Text (lack_name what) })

-- the first leaf in the tree's order for which something is lacking
module _ (lacks : Leaf → Option Lack) where
  abbrev mutual
    pub lack_refusal : Plain → Option Refusal
    lack_refusal (all ts) = lacks_refusal ts
    lack_refusal (any ts) = lacks_refusal ts
    lack_refusal (negated t) = lack_refusal t
    lack_refusal (leaf l) = leaf_refusal l (lacks l)
    lack_refusal never = None

    pub lacks_refusal : Plains → Option Refusal
    lacks_refusal no_parts = None
    lacks_refusal (a_part t ts) = first (lack_refusal t ∷ lacks_refusal ts ∷ [])
