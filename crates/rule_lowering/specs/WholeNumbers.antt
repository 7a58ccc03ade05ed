-- The numbers that fields of whole numbers have, and the texts that are their decimals.
use Rattle.std.specs.Prelude.{ℕ, ℤ, if◌then◌else◌, List, Option, Some, None}
use Rattle.std.specs.Fmt.{signed_decimal}
use Rattle.std.specs.Str.{bytes_eq}
use Rattle.std.specs.Str.Parse.{signed_digits_value}
use Rattle.modifier_values.specs.Numbers.{is_whole}

abbrev pub if_whole : ℤ → Option ℤ
if_whole n = if is_whole n then Some n else None

-- The whole number whose decimal a text is: the one that its sign and digits write, where that number's decimal is the text.
-- There is none for a text like `0042`, `+5` or `x`.
unfoldable pub written_number : List ℕ → Option ℤ
written_number text =
    if bytes_eq (signed_decimal (signed_digits_value 10 text)) text then if_whole (signed_digits_value 10 text) else None
