-- What the readers of quotes leave.
use Rattle.std.specs.Prelude.{◌≡◌, ℕ, ◌<◌, ◌≤◌, true, false, List, length}
use Rattle.std.specs.Borrow.{Bor}
use Rattle.yaml_inline.specs.File.{blank_or_end, skip_blanks, ends_line}
use Rattle.yaml_inline.specs.Line.{starts_plain}
use Rattle.yaml_inline.specs.declared.quote.Quoted.{Quoted}
use Rattle.yaml_inline.specs.declared.quote.Quoted.TheVariants.{Closed, Open, BadEscape}

-- what is left is shorter, and an escape stands within the text
abbrev pub IsShorter : List ℕ → Quoted → Type 0
IsShorter cs (Closed t rest) = length rest.now < length cs
IsShorter cs Open = Unit {0}
IsShorter cs (BadEscape n) = n < length cs

abbrev pub step_view : ℕ × Bor (List ℕ) → ℕ × List ℕ
step_view p = (p.0, p.1.now)

-- the text behind the blanks of one in which something else stands before the line's end
pub record IsNext (rest next : List ℕ) : Type 0 where
  pub unended : ends_line rest ≡ false
  pub next_is : next ≡ skip_blanks rest
  pub solid : blank_or_end next ≡ false
  pub within : length next ≤ length rest

-- a plain scalar begins with the first character
abbrev pub StartsSolid : List ℕ → Type 0
StartsSolid cs = (starts_plain cs ≡ true) × (blank_or_end cs ≡ false)
