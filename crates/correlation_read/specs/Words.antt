-- The words of correlations (Sigma correlations specification 2.0): types, and the comparisons of conditions.
use Rattle.std.specs.Prelude.{ℕ, Bool, true, false, if◌then◌else◌, List, codes, Option, Some, None}
use Rattle.std.specs.Str.{bytes_eq}
use Rattle.correlation_windows.specs.declared.bound.CorrelationKind.{CorrelationKind}
use Rattle.correlation_windows.specs.declared.bound.CorrelationKind.TheVariants as kinds
use Rattle.correlation_windows.specs.declared.bound.Op.{Op}
use Rattle.correlation_windows.specs.declared.bound.Op.TheVariants as ops

abbrev pub kind_of : List ℕ → Option CorrelationKind
kind_of word =
    if bytes_eq word (codes "event_count") then Some kinds.EventCount
    else if bytes_eq word (codes "value_count") then Some kinds.ValueCount
    else if bytes_eq word (codes "temporal") then Some kinds.Temporal
    else if bytes_eq word (codes "temporal_ordered") then Some kinds.TemporalOrdered
    else None

abbrev pub op_of : List ℕ → Option Op
op_of word =
    if bytes_eq word (codes "gt") then Some ops.Gt
    else if bytes_eq word (codes "gte") then Some ops.Gte
    else if bytes_eq word (codes "lt") then Some ops.Lt
    else if bytes_eq word (codes "lte") then Some ops.Lte
    else if bytes_eq word (codes "eq") then Some ops.Eq
    else None

-- a correlation of this type has a condition
abbrev pub counts : CorrelationKind → Bool
counts kinds.EventCount = true
counts kinds.ValueCount = true
counts kinds.Temporal = false
counts kinds.TemporalOrdered = false

-- and the condition names the field whose values are counted
abbrev pub counts_values : CorrelationKind → Bool
counts_values kinds.EventCount = false
counts_values kinds.ValueCount = true
counts_values kinds.Temporal = false
counts_values kinds.TemporalOrdered = false
