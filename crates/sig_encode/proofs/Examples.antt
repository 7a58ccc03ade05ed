-- Texts in UTF-16 and base64, pieces, networks and their patterns, reckoned by hand.
use Rattle.std.proofs.Common.{◌≡◌, [], ◌∷◌, Some, None, refl, arith}
use Rattle.std.specs.Fmt.{digits}
use Rattle.std.specs.Prelude.{codes}
use Rattle.sig_encode.specs.Base64.{bit_of, bit_of_six}
use Rattle.sig_encode.specs.Networks.{InNetwork, patterns_of, told_octets}
use Rattle.sig_encode.specs.Pieces.{kept, lies_within}
use Rattle.sig_encode.specs.Utf16.{utf16_of}
use Rattle.sig_encode.specs.Written.{net, net_in}
use Rattle.sig_encode.specs.declared.utf16.Form.TheVariants.{Le, Be, Marked}
use Rattle.sig_strings.specs.declared.part.Part.TheVariants.{Char, Run}

-- ---- UTF-16

little : utf16_of Le (codes "cm") ≡ 99 ∷ 0 ∷ 109 ∷ 0 ∷ []
little = refl

big : utf16_of Be (codes "cm") ≡ 0 ∷ 99 ∷ 0 ∷ 109 ∷ []
big = refl

marked : utf16_of Marked (codes "c") ≡ 255 ∷ 254 ∷ 99 ∷ 0 ∷ []
marked = refl

-- U+20AC is one unit, U+1F600 the two units D83D and DE00
euro : utf16_of Be (8364 ∷ []) ≡ 32 ∷ 172 ∷ []
euro = refl

grin : utf16_of Le (128512 ∷ []) ≡ 61 ∷ 216 ∷ 0 ∷ 222 ∷ []
grin = refl

-- ---- base64

-- `M` is 01001101
first_bits : (bit_of (77 ∷ []) 0 ≡ 0) × (bit_of (77 ∷ []) 1 ≡ 1) × (bit_of (77 ∷ []) 6 ≡ 0) × (bit_of (77 ∷ []) 7 ≡ 1) × (bit_of (77 ∷ []) 8 ≡ 0)
first_bits = (refl, refl, refl, refl, refl)

-- 19 is 010011, and stands at `T`
six_bits : (bit_of_six 19 0 ≡ 0) × (bit_of_six 19 1 ≡ 1) × (bit_of_six 19 4 ≡ 1) × (bit_of_six 19 5 ≡ 1)
six_bits = (refl, refl, refl, refl)

-- ---- pieces of `ab`: the characters whose six bits are all the value's

-- behind one zero byte these begin at bit 12, since the one before has two of the zero byte's bits
behind_one : kept (lies_within 1 3) 0 (codes "AGFi") ≡ codes "Fi"
behind_one = refl

behind_two : kept (lies_within 2 4) 0 (codes "AABhYg==") ≡ codes "hY"
behind_two = refl

behind_none : kept (lies_within 0 2) 0 (codes "YWI=") ≡ codes "YW"
behind_none = refl

-- ---- networks

octets_told : (told_octets 0 ≡ 1) × (told_octets 8 ≡ 1) × (told_octets 9 ≡ 2) × (told_octets 24 ≡ 3) × (told_octets 25 ≡ 4) × (told_octets 32 ≡ 4)
octets_told = (refl, refl, refl, refl, refl, refl)

one_pattern : patterns_of (net 10 1 2 3 8) ≡ (Char 49 ∷ Char 48 ∷ Char 46 ∷ Run ∷ []) ∷ []
unfolding digits
one_pattern = refl

-- 1.1.2.3/31 has the addresses 1.1.2.2 and 1.1.2.3, and neither has anything behind it
two_patterns : patterns_of (net 1 1 2 3 31)
    ≡ (Char 49 ∷ Char 46 ∷ Char 49 ∷ Char 46 ∷ Char 50 ∷ Char 46 ∷ Char 50 ∷ [])
    ∷ (Char 49 ∷ Char 46 ∷ Char 49 ∷ Char 46 ∷ Char 50 ∷ Char 46 ∷ Char 51 ∷ []) ∷ []
unfolding digits
two_patterns = refl

alone : net_in (codes "10.0.0.1") ≡ Some (net 10 0 0 1 32)
unfolding digits
alone = refl

with_prefix : net_in (codes "10.0.0.1/14") ≡ Some (net 10 0 0 1 14)
unfolding digits
with_prefix = refl

longest_prefix : net_in (codes "10.0.0.1/32") ≡ Some (net 10 0 0 1 32)
unfolding digits
longest_prefix = refl

too_long_a_prefix : net_in (codes "10.0.0.1/33") ≡ None
unfolding digits
too_long_a_prefix = refl

needless_zero : net_in (codes "10.0.0.1/08") ≡ None
unfolding digits
needless_zero = refl

too_great : net_in (codes "10.0.0.256") ≡ None
unfolding digits
too_great = refl

three_octets : net_in (codes "10.0.0/8") ≡ None
unfolding digits
three_octets = refl

two_slashes : net_in (codes "10.0.0.0/8/8") ≡ None
unfolding digits
two_slashes = refl

-- the bits behind the prefix don't count
inside : InNetwork (net 192 168 7 7 14) (codes "192.171.2.3")
unfolding digits
inside = record { quad = record { first = 192; second = 171; third = 2; fourth = 3; bytes = (omega arith, omega arith, omega arith, omega arith); spelled = refl }; same = refl }
