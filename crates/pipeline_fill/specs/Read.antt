-- What a character of a text is as a part of a pattern.
use Rattle.std.specs.Prelude.{ℕ, ◌==◌, if◌then◌else◌}
use Rattle.sig_strings.specs.declared.part.Part.{Part}
use Rattle.sig_strings.specs.declared.part.Part.TheVariants.{Char, One, Run}

-- a character other than a backslash
abbrev pub plain_part : ℕ → Part
plain_part c = if c == 42 then Run else (if c == 63 then One else Char c)
