-- Why a rule has no tree: the tree would have too many tests.
use Rattle.std.specs.Prelude.{ℕ, ◌-◌, ◌^◌, min, nat_le, pos, if◌then◌else◌, Option, Some, None}
use Rattle.event_schema.specs.declared.schema.Schema.{Schema}
use Rattle.rule_model.specs.Plain.{PlainRule}
use Rattle.sig_base.specs.declared.limits.Limits.{Limits}
use Rattle.sig_base.specs.declared.refusal.Detail.TheVariants.{Numbers}
use Rattle.sig_base.specs.declared.refusal.Place.{Place}
use Rattle.sig_base.specs.declared.refusal.Refusal.{Refusal}
use Rattle.rule_lowering.specs.Leaves.{leaves}
use Rattle.rule_lowering.specs.TreeOf.{tree_of}

-- code 110, with the number that is told and the limit
abbrev pub told : Place → ℕ → ℕ → Refusal
told place count limit = record { code = 110; place = place; detail = Numbers (pos count) (pos limit) }

-- more than the limit are refused, and are counted up to 2^127 - 1
abbrev pub count_refusal : Place → ℕ → ℕ → Option Refusal
count_refusal place count limit = if nat_le count limit then None else Some (told place (min count (2 ^ 127 - 1)) limit)

-- at the rule's place, exactly where its tree has more tests than the limit
abbrev pub leaves_refusal : Limits → Schema → PlainRule → Option Refusal
leaves_refusal limits schema rule = count_refusal rule.head.place (leaves (tree_of schema rule)) limits.leaves
