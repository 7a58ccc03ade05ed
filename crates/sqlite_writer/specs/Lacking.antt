-- What SQLite lacks: a test of a field that may have several values, or of such a one beside it, since a column has one.
use Rattle.std.specs.Prelude.{ℕ, Bool, false, ◌||◌, if◌then◌else◌, List, Option, Some, None}
use Rattle.event_schema.specs.declared.schema.Field.{Field}
use Rattle.backend_core.specs.FieldAt.{is_many}
use Rattle.backend_core.specs.declared.lack.Lack.{Lack}
use Rattle.backend_core.specs.declared.lack.Lack.TheVariants.{Many}
use Rattle.backend_core.specs.declared.tree.Leaf.{Leaf}
use Rattle.sqlite_writer.specs.Guarded.{other_of}

-- whether the further field of a test may have several values, if it looks at one
abbrev pub is_many_if_any : List Field → Option ℕ → Bool
is_many_if_any fields None = false
is_many_if_any fields (Some k) = is_many fields k

abbrev pub sqlite_lacks : List Field → Leaf → Option Lack
sqlite_lacks fields l = if is_many fields l.field || is_many_if_any fields (other_of l.test) then Some Many else None
