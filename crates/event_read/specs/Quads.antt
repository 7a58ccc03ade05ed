-- Texts that a field of addresses takes, by tests.
use Rattle.std.specs.Prelude.{ℕ, zero, suc, Bool, false, not, nat_le, ◌==◌, ◌&&◌, ◌||◌, List, [], ◌∷◌, slice_index}
use Rattle.std.specs.List.{prefix_len, before_first, after_first}
use Rattle.sig_base.specs.Digits.{is_digit}

abbrev pub is_within : ℕ → ℕ → ℕ → Bool
is_within low high c = nat_le low c && nat_le c high

-- a decimal from 0 to 255 (`dec-octet` of RFC 3986, section 3.2.2)
abbrev pub is_octet : List ℕ → Bool
is_octet (a ∷ []) = is_digit a
is_octet (a ∷ b ∷ []) = is_within 49 57 a && is_digit b
is_octet (a ∷ b ∷ c ∷ []) = (a == 49 && is_digit b && is_digit c) || (a == 50 && is_within 48 52 b && is_digit c) || (a == 50 && b == 53 && is_within 48 53 c)
is_octet text = false

abbrev pub is_dot : ℕ → Bool
is_dot c = c == 46

-- so many octets and one more, joined by dots
abbrev pub are_octets : ℕ → List ℕ → Bool
are_octets zero text = is_octet text
are_octets (suc n) text = is_octet (before_first is_dot text) && are_octets n (after_first is_dot text)

abbrev pub is_quad : List ℕ → Bool
is_quad text = are_octets 3 text

-- one to three digits and a dot stand at the front
abbrev pub begins_as_quad : List ℕ → Bool
begins_as_quad text = is_within 1 3 (prefix_len is_digit text) && slice_index text (prefix_len is_digit text) == 46

abbrev pub is_address : List ℕ → Bool
is_address text = is_quad text || not (begins_as_quad text)
