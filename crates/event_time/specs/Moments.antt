-- Moments: nanoseconds since 1970 in UTC, by the Gregorian calendar (ISO 8601).
use Rattle.std.specs.Prelude.{ℕ, ◌+◌, ◌-◌, ◌*◌, ◌/◌, Bool, ◌&&◌, ◌||◌, ◌==◌, nat_le, if◌then◌else◌, ℤ, pos, neg_ℤ, ◌+ℤ◌, ◌-ℤ◌, ◌*ℤ◌, List, [], ◌∷◌, length, take, drop, Option, Some, None, option_map, option_and_then}
use Rattle.std.specs.List.{list_all, prefix_len}
use Rattle.jiff.specs.Words.{days_in_month}
use Rattle.sig_base.specs.Digits.{is_digit}
use Rattle.jiff_core.specs.Calendar.{days_from_civil}
use Rattle.serde_json.specs.Data.{Num, unsigned, negative, float, Data}
use Rattle.serde_json.specs.Find.{as_number, as_str}
use Rattle.event_time.specs.Wholes.{is_whole}
use Rattle.event_schema.specs.declared.schema.TimeForm.{TimeForm}
use Rattle.event_schema.specs.declared.schema.TimeForm.TheVariants.{Text, Seconds, Millis}

abbrev pub two_digits : ℕ → ℕ → ℕ
two_digits a b = 10 * (a - 48) + (b - 48)

-- two digits for a number up to the greatest
abbrev pub is_two : ℕ → ℕ → ℕ → Bool
is_two most a b = is_digit a && is_digit b && nat_le (two_digits a b) most

-- the month and the day are of the calendar
abbrev pub is_calendar_day : ℕ → ℕ → ℕ → Bool
is_calendar_day y m d = nat_le 1 m && nat_le m 12 && nat_le 1 d && nat_le d (days_in_month (pos y) m)

-- the nanoseconds from 1970 to a day of the years from 1 on
abbrev pub day_nanos : ℕ → ℕ → ℕ → Option ℤ
day_nanos y m d = if nat_le 1 y && is_calendar_day y m d then Some (days_from_civil (pos y) m d *ℤ pos 86400000000000) else None

-- YYYY-MM-DD
abbrev pub day_of : List ℕ → Option ℤ
day_of (a ∷ b ∷ c ∷ d ∷ e ∷ f ∷ g ∷ h ∷ i ∷ j ∷ []) =
    if e == 45 && h == 45 && is_two 99 a b && is_two 99 c d && is_two 12 f g && is_two 31 i j
    then day_nanos (100 * two_digits a b + two_digits c d) (two_digits f g) (two_digits i j) else None
day_of text = None

abbrev pub is_mark : ℕ → Bool
is_mark c = c == 84 || c == 32

-- `T` or a space, and HH:MM:SS, as seconds
abbrev pub clock_of : List ℕ → Option ℕ
clock_of (t ∷ a ∷ b ∷ x ∷ c ∷ d ∷ y ∷ e ∷ f ∷ []) =
    if is_mark t && x == 58 && y == 58 && is_two 23 a b && is_two 59 c d && is_two 59 e f
    then Some (3600 * two_digits a b + 60 * two_digits c d + two_digits e f) else None
clock_of text = None

-- the first digit counts so much, and each later one a tenth of the one before
abbrev pub weighed : ℕ → List ℕ → ℕ
weighed unit [] = 0
weighed unit (d ∷ ds) = unit * (d - 48) + weighed (unit / 10) ds

-- nothing, or `.` and one to nine digits, as nanoseconds
abbrev pub fraction_of : List ℕ → Option ℕ
fraction_of [] = Some 0
fraction_of (c ∷ ds) = if c == 46 && nat_le 1 (length ds) && nat_le (length ds) 9 && list_all is_digit ds then Some (weighed 100000000 ds) else None

abbrev pub signed_seconds : ℕ → ℕ → ℤ
signed_seconds sign n = if sign == 45 then neg_ℤ (pos n) else pos n

-- nothing, `Z`, `+HH:MM` or `-HH:MM`, as seconds that the clock is ahead of UTC
abbrev pub offset_of : List ℕ → Option ℤ
offset_of [] = Some (pos 0)
offset_of (c ∷ []) = if c == 90 then Some (pos 0) else None
offset_of (s ∷ a ∷ b ∷ x ∷ c ∷ d ∷ []) =
    if (s == 43 || s == 45) && is_two 23 a b && x == 58 && is_two 59 c d then Some (signed_seconds s (3600 * two_digits a b + 60 * two_digits c d)) else None
offset_of text = None

-- how long a fraction stands at the front: a dot and the digits behind it
abbrev pub fraction_length : List ℕ → ℕ
fraction_length [] = 0
fraction_length (c ∷ cs) = if c == 46 then 1 + prefix_len is_digit cs else 0

abbrev pub moment_at : ℤ → ℕ → ℕ → ℤ → ℤ
moment_at day clock fraction offset = (day +ℤ pos (clock * 1000000000 + fraction)) -ℤ (offset *ℤ pos 1000000000)

-- the moment, if each part is there
abbrev pub if_all : Option ℤ → Option ℕ → Option ℕ → Option ℤ → Option ℤ
if_all None clock fraction offset = None
if_all (Some day) None fraction offset = None
if_all (Some day) (Some clock) None offset = None
if_all (Some day) (Some clock) (Some fraction) None = None
if_all (Some day) (Some clock) (Some fraction) (Some offset) = Some (moment_at day clock fraction offset)

-- what stands behind the day and the clock
abbrev pub zoned : Option ℤ → Option ℕ → List ℕ → Option ℤ
zoned day clock rest = if_all day clock (fraction_of (take (fraction_length rest) rest)) (offset_of (drop (fraction_length rest) rest))

-- a text of 10 characters for the day, 9 for the clock, a fraction if any, an offset if any
abbrev pub text_moment : List ℕ → Option ℤ
text_moment text = zoned (day_of (take 10 text)) (clock_of (take 9 (drop 10 text))) (drop 19 text)

-- a whole number from -(2^63 - 1) to 2^63 - 1
abbrev pub whole_if_in : ℤ → Option ℤ
whole_if_in z = if is_whole z then Some z else None

abbrev pub whole_in : Num → Option ℤ
whole_in (unsigned n) = whole_if_in (pos n)
whole_in (negative z) = whole_if_in z
whole_in (float x) = None

-- so many nanoseconds for each that the number counts
abbrev pub counted : ℕ → Data → Option ℤ
counted unit d = option_map (λ z. z *ℤ pos unit) (option_and_then whole_in (as_number d))

-- the moment that a value is
abbrev pub moment_in : TimeForm → Data → Option ℤ
moment_in Text d = option_and_then text_moment (as_str d)
moment_in Seconds d = counted 1000000000 d
moment_in Millis d = counted 1000000 d
