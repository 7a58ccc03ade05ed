-- How long the texts of queries are.
use Rattle.std.proofs.Common.{arith, ◌≡◌, ◌≤◌, ◌<◌, ◌+◌, ◌*◌, ◌^◌, ℕ, true, List, [], ◌∷◌, ◌++◌, length, nat_le, subst, sym}
use Rattle.std.specs.Prelude.{decimal, encode_utf8_all}
use Rattle.std.proofs.lemmas.Bool.{leb-true}
use Rattle.std.proofs.lemmas.Fmt.{length-decimal-le}
use Rattle.std.proofs.lemmas.List.{length-append}
use Rattle.std.proofs.lemmas.Str.{length-encode, len_utf8_bounds}
use Rattle.std.proofs.Math.Utf8.{encode}

bytes_within : (text : List ℕ) → length (encode_utf8_all text) ≤ 4 * length text
bytes_within [] = omega arith
bytes_within (c ∷ cs) =
    let rest = bytes_within cs in
    let both = length-append (encode c) (encode_utf8_all cs) in
    let one = length-encode c in
    let few = len_utf8_bounds c in
    omega (arith, rest, both, one, few.1)

-- a front, the decimal of a number below 100, and what stands behind it
pub within : (front back text : List ℕ) (k : ℕ) → text ≡ front ++ (decimal k ++ back) → nat_le (length front) 1000 ≡ true → nat_le (length back) 1000 ≡ true
    → k < 100 → length (encode_utf8_all text) ≤ 4194304
within front back text k same short end below =
    let bytes = bytes_within (front ++ (decimal k ++ back)) in
    let all = length-append front (decimal k ++ back) in
    let tail = length-append (decimal k) back in
    let digits = length-decimal-le 2 k (omega arith) (omega (arith, below)) (omega (arith, below)) in
    let a = leb-true (length front) 1000 short in
    let b = leb-true (length back) 1000 end in
    subst (λ (t : List ℕ). length (encode_utf8_all t) ≤ 4194304) (sym same) (omega (arith, bytes, all, tail, digits, a, b))
