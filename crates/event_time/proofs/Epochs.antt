-- The day numbers of the calendar begin at 1 January 1970.
use Rattle.std.proofs.Common.{◌≡◌, ℕ, ℤ, pos, ◌-ℤ◌, arith}
use Rattle.jiff.proofs.SpanFacts.{signed_arith}
use Rattle.jiff.specs.Words.{epoch_day, IsYmd}
use Rattle.jiff_core.specs.Calendar.{day_count, days_from_civil}
use Rattle.jiff_core.specs.declared.civil.date.Date.{Date}

same_gone : (z : ℤ) (n : ℕ) → z -ℤ (pos n -ℤ pos n) ≡ z
same_gone z n = omega (arith, signed_arith)

epoch_zero : (z y : ℤ) (m d : ℕ) → y ≡ pos 1970 → pos m ≡ pos 1 → pos d ≡ pos 1 → z -ℤ days_from_civil y m d ≡ z
unfolding days_from_civil
epoch_zero z y m d is first second =
    let one : m ≡ 1 = cc in
    let also : d ≡ 1 = cc in
    rw (is, one, also) (same_gone z (day_count (pos 1970) 1 1))

pub from_epoch : (d e : Date) → IsYmd (pos 1970) (pos 1) (pos 1) e → epoch_day d -ℤ epoch_day e ≡ epoch_day d
from_epoch d e is = epoch_zero (epoch_day d) e.year e.month e.day is.0 is.1 is.2
