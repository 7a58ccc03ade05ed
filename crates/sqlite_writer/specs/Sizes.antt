-- How many bytes a text has.
use Rattle.std.specs.Prelude.{ℕ, List, length, encode_utf8_all}

abbrev pub bytes_in : List ℕ → ℕ
bytes_in text = length (encode_utf8_all text)
