-- Long chains in halves, so that a chain of many parts is not as deep as it is long: a chain of more than 64 parts is its
-- first half, the larger by one where their number is odd, and its second half in parentheses, and each half is written so
-- again.
use Rattle.std.specs.Prelude.{ℕ, zero, suc, ◌-◌, ◌/◌, ◌≤◌, nat_le, if◌then◌else◌, List}
use Rattle.event_schema.specs.declared.schema.Field.{Field}
use Rattle.sql_lang.specs.Expression.{and_expr, not_expr, depth}
use Rattle.sql_lang.specs.Grammar.{Ors, last_and, and_or, Ands, last_not, not_and, enclosed}

-- o OR p, and a AND b
abbrev pub or_join : Ors → Ors → Ors
or_join (last_and a) p = and_or a p
or_join (and_or a o) p = and_or a (or_join o p)

abbrev pub and_join : Ands → Ands → Ands
and_join (last_not n) b = not_and n b
and_join (not_and n a) b = not_and n (and_join a b)

-- how many parts a chain has
abbrev pub or_count : Ors → ℕ
or_count (last_and a) = 1
or_count (and_or a o) = suc (or_count o)

abbrev pub and_count : Ands → ℕ
and_count (last_not n) = 1
and_count (not_and n a) = suc (and_count a)

-- the first k parts and one, and those behind them; a chain of no more parts is both
abbrev pub first_ors : ℕ → Ors → Ors
first_ors k (last_and a) = last_and a
first_ors zero (and_or a o) = last_and a
first_ors (suc k) (and_or a o) = and_or a (first_ors k o)

abbrev pub later_ors : ℕ → Ors → Ors
later_ors k (last_and a) = last_and a
later_ors zero (and_or a o) = o
later_ors (suc k) (and_or a o) = later_ors k o

abbrev pub first_ands : ℕ → Ands → Ands
first_ands k (last_not n) = last_not n
first_ands zero (not_and n a) = last_not n
first_ands (suc k) (not_and n a) = not_and n (first_ands k a)

abbrev pub later_ands : ℕ → Ands → Ands
later_ands k (last_not n) = last_not n
later_ands zero (not_and n a) = a
later_ands (suc k) (not_and n a) = later_ands k a

-- one less than the first half's parts
abbrev pub middle : ℕ → ℕ
middle count = (count - 1) / 2

-- halved so many times at most
unfoldable pub ors_in_halves : ℕ → Ors → Ors
ors_in_halves zero o = o
ors_in_halves (suc n) o =
    if nat_le (or_count o) 64 then o
    else or_join (ors_in_halves n (first_ors (middle (or_count o)) o))
    (last_and (last_not (enclosed (ors_in_halves n (later_ors (middle (or_count o)) o)))))

unfoldable pub ands_in_halves : ℕ → Ands → Ands
ands_in_halves zero a = a
ands_in_halves (suc n) a =
    if nat_le (and_count a) 64 then a
    else and_join (ands_in_halves n (first_ands (middle (and_count a)) a))
    (last_not (enclosed (last_and (ands_in_halves n (later_ands (middle (and_count a)) a)))))

-- a chain has no more halves than parts
abbrev pub halved_ors : Ors → Ors
halved_ors o = ors_in_halves (or_count o) o

abbrev pub halved_ands : Ands → Ands
halved_ands a = ands_in_halves (and_count a) a

-- ---- how deep

module _ (fields : List Field) (d : ℕ) where
  -- each part is at most d deep
  abbrev pub ShallowOrs : Ors → Type 0
  ShallowOrs (last_and a) = depth (and_expr fields a) ≤ d
  ShallowOrs (and_or a o) = (depth (and_expr fields a) ≤ d) × ShallowOrs o

  abbrev pub ShallowAnds : Ands → Type 0
  ShallowAnds (last_not a) = depth (not_expr fields a) ≤ d
  ShallowAnds (not_and a o) = (depth (not_expr fields a) ≤ d) × ShallowAnds o
