-- What the code makes of the parts, from the last one to the first: a number to the base 5 whose last digit is the dash of
-- the last place.
use Rattle.std.specs.Prelude.{ℕ, ◌/◌, ◌%◌, List, [], ◌∷◌, get_or, if◌then◌else◌}
use Rattle.sig_strings.specs.declared.part.Part.{Part}
use Rattle.sig_strings.specs.declared.part.Part.TheVariants.{Char}
use Rattle.modifier_windash.specs.Choices.{is_dash_place, dash_signs}

-- the dash of this digit
abbrev pub sign_at : ℕ → ℕ
sign_at digit = get_or dash_signs digit 0x2015

-- what is left of the number before these parts
abbrev pub number_before : List Part → ℕ → ℕ
number_before [] number = number
number_before (part ∷ parts) number = if is_dash_place part then number_before parts number / 5 else number_before parts number

-- the part with the dash that its place takes, where this is left of the number behind it
abbrev pub chosen_part : Part → ℕ → Part
chosen_part part number = if is_dash_place part then Char (sign_at (number % 5)) else part

-- the parts, each with the dash that its place takes
abbrev pub chosen_parts : List Part → ℕ → List Part
chosen_parts [] number = []
chosen_parts (part ∷ parts) number = chosen_part part (number_before parts number) ∷ chosen_parts parts number
