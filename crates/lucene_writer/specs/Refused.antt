-- How a tree is refused that is too deep or has too many clauses, by its own counts.
use Rattle.std.specs.Prelude.{ℕ, ◌-◌, ◌^◌, min, [], ◌∷◌, Option}
use Rattle.event_schema.specs.declared.schema.Schema.{Schema}
use Rattle.sig_base.specs.Judged.{first}
use Rattle.sig_base.specs.declared.limits.Limits.{Limits}
use Rattle.sig_base.specs.declared.refusal.Place.{Place}
use Rattle.sig_base.specs.declared.refusal.Refusal.{Refusal}
use Rattle.backend_core.specs.Trees.{Plain}
use Rattle.backend_core.specs.Writing.{at_most}
use Rattle.lucene_writer.specs.Queries.{query_depth, query_clauses}

-- a count, told up to the most that a number can be
abbrev pub counted_at_most : ℕ → Place → (count limit : ℕ) → Option Refusal
counted_at_most code place count limit = at_most code place (min count (2 ^ 64 - 1)) count limit

-- 112 for more open parentheses than the limit, else 113 for more leaf clauses
abbrev pub deep_refusal : Limits → Schema → Plain → Place → Option Refusal
deep_refusal limits schema t place =
    first (counted_at_most 112 place (query_depth schema t) limits.lucene_depth
    ∷ counted_at_most 113 place (query_clauses schema t) limits.lucene_clauses ∷ [])
