-- Why a tree isn't written: something is lacking for a leaf, or else its expression is too deep, or else its text is too long.
use Rattle.std.specs.Prelude.{ℕ, ◌≡◌, ◌≤◌, ◌<◌, ◌-◌, ◌^◌, ◌⊎◌, min, ⊤, Option, Some, None}
use Rattle.event_schema.specs.declared.schema.Schema.{Schema}
use Rattle.sig_base.specs.declared.limits.Limits.{Limits}
use Rattle.sig_base.specs.declared.refusal.Fault.{Fault}
use Rattle.sig_base.specs.declared.refusal.Fault.TheVariants.{Memory, Refused}
use Rattle.sig_base.specs.declared.refusal.Place.{Place}
use Rattle.sig_base.specs.declared.refusal.Refusal.{Refusal}
use Rattle.backend_core.specs.Trees.{Plain}
use Rattle.backend_core.specs.Writing.{numbered, at_most}
use Rattle.sql_lang.specs.Expression.{depth}
use Rattle.sqlite_writer.specs.Queries.{query_expr}

-- 112 with the depth, counted up to 2^64 - 1, and the limit; else 114 with the bytes and the limit
abbrev pub IsUnwritten : (depths bytes : ℕ) → Place → (deep long : ℕ) → Fault → Type 0
IsUnwritten depths bytes place deep long Memory = ⊤
IsUnwritten depths bytes place deep long (Refused r) =
    ((depths < deep) × (r ≡ numbered 112 place (min deep (2 ^ 64 - 1)) depths))
    ⊎ ((deep ≤ depths) × (bytes < long) × (r ≡ numbered 114 place long bytes))

-- where something is lacking for a leaf that is the refusal, and else what is said
abbrev pub IsRefused : Option Refusal → (Fault → Type 0) → Fault → Type 0
IsRefused None Unwritten e = Unwritten e
IsRefused (Some lack) Unwritten Memory = ⊤
IsRefused (Some lack) Unwritten (Refused r) = r ≡ lack

-- 112 alone, of a tree
abbrev pub deep_refusal : Limits → Schema → Plain → Place → Option Refusal
deep_refusal limits schema t place = at_most 112 place (min (depth (query_expr schema t)) (2 ^ 64 - 1)) (depth (query_expr schema t)) limits.sql_depth
