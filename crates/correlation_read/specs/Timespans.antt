-- Timespans (Sigma correlations specification 2.0, timespan): a number and a unit. This profile takes five units, whose lengths
-- are fixed, and canonical decimals from 1 to 99999.
use Rattle.std.specs.Prelude.{ℕ, ◌-◌, ◌*◌, ℤ, pos, ◌&&◌, ◌==◌, nat_le, if◌then◌else◌, List, [], ◌∷◌, Option, Some, None}
use Rattle.sig_base.specs.Digits.{is_positive, digits_from}

-- the number from 1 to 99999 that a canonical decimal is
abbrev pub count_of : List ℕ → Option ℕ
count_of ds = if is_positive ds && nat_le (digits_from 0 ds) 99999 then Some (digits_from 0 ds) else None

-- the seconds of a unit: s, m, h, d or w
abbrev pub seconds_of : ℕ → Option ℕ
seconds_of unit =
    if unit == 115 then Some 1
    else if unit == 109 then Some 60
    else if unit == 104 then Some 3600
    else if unit == 100 then Some 86400
    else if unit == 119 then Some 604800
    else None

-- all characters but the last, and the last
abbrev pub front_of : List ℕ → List ℕ
front_of [] = []
front_of (c ∷ []) = []
front_of (c ∷ d ∷ cs) = c ∷ front_of (d ∷ cs)

abbrev pub last_of : List ℕ → Option ℕ
last_of [] = None
last_of (c ∷ []) = Some c
last_of (c ∷ d ∷ cs) = last_of (d ∷ cs)

abbrev pub seconds_in : Option ℕ → Option ℕ
seconds_in None = None
seconds_in (Some unit) = seconds_of unit

-- so many units of so many seconds, in nanoseconds
abbrev pub nanoseconds : Option ℕ → Option ℕ → Option ℤ
nanoseconds None seconds = None
nanoseconds (Some count) None = None
nanoseconds (Some count) (Some seconds) = Some (pos (count * seconds * 1000000000))

-- the nanoseconds of a timespan: a count, and behind it a unit
abbrev pub span_of : List ℕ → Option ℤ
span_of text = nanoseconds (count_of (front_of text)) (seconds_in (last_of text))
