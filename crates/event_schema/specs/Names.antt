-- Names of fields and tables.
use Rattle.std.specs.Prelude.{◌≡◌, ℕ, Bool, true, not, nat_lt, nat_le, ◌&&◌, ◌==◌, List, length}
use Rattle.std.specs.List.{list_all}
use Rattle.std.specs.Str.{all_scalars}

-- a character that names may have: no control character below U+0020, not U+007F, and no `|`
abbrev pub is_name_char : ℕ → Bool
is_name_char c = not (nat_lt c 32) && not (c == 127) && not (c == 124)

-- 1 to 128 such characters
abbrev pub is_legal : List ℕ → Bool
is_legal name = nat_le 1 (length name) && nat_le (length name) 128 && list_all is_name_char name

-- a legal name, of Unicode scalar values
pub record IsName (name : List ℕ) : Type 0 where
  pub legal : is_legal name ≡ true
  pub scalars : all_scalars name ≡ true
