-- The shelf, the source and the sink in memory, which fail where they are told to.
use Rattle.std.specs.Prelude.{ℕ, ◌+◌, ◌-◌, ◌^◌, Bool, ◌&&◌, ◌||◌, ◌==◌, nat_lt, nat_le, min, List, length, is_none}
use Rattle.std.specs.List.{list_any}
use Rattle.sig_base.specs.Files.{file_at}

pub record ShelfState : Type 0 where
  pub files : List (List ℕ × List ℕ)
  pub failing : List ℕ
  pub calls : ℕ
  pub failed : List (List ℕ)

pub record SourceState : Type 0 where
  pub left : List ℕ
  pub most : ℕ
  pub failing : List ℕ
  pub calls : ℕ
  pub faults : ℕ

pub record SinkState : Type 0 where
  pub taken : List ℕ
  pub room : ℕ
  pub most : ℕ
  pub failing : List ℕ
  pub calls : ℕ
  pub faults : ℕ

-- the ordinal of the next call: calls are numbered from 1, and the last number stays
abbrev pub next : ℕ → ℕ
next calls = min (calls + 1) (2 ^ 64 - 1)

-- the next call is one that has to fail
abbrev pub is_failing : List ℕ → ℕ → Bool
is_failing failing calls = list_any (λ k. k == next calls) failing

-- a read of a shelf fails where it has to, and where the file isn't there
abbrev pub shelf_fails : ShelfState → List ℕ → Bool
shelf_fails s name = is_failing s.failing s.calls || is_none (file_at s.files name)

-- a write fails where it has to, and where there is no room for a piece that isn't empty
abbrev pub sink_fails : SinkState → List ℕ → Bool
sink_fails s bytes = is_failing s.failing s.calls || (nat_le s.room (length s.taken) && nat_lt 0 (length bytes))

-- how many bytes a read that doesn't fail moves into this much room
abbrev pub source_moves : SourceState → ℕ → ℕ
source_moves s room = min (min (length s.left) s.most) room

-- how many bytes a write that doesn't fail takes
abbrev pub sink_takes : SinkState → List ℕ → ℕ
sink_takes s bytes = min (min (length bytes) s.most) (s.room - length s.taken)
