-- When two groups are the same, and what a group feeds a hash.
use Rattle.std.specs.Prelude.{◌≡◌, ℕ, Bool, IsTrue, List, encode_utf8_all}
use Rattle.std.proofs.Common.{ap}
use Rattle.std.specs.Hash as fed
use Rattle.std.specs.Cmp.Lexicographic.{pointwise, pointwise_decides, bytes_decides}
use Rattle.std.specs.Str.{bytes_eq}

-- as many texts, and each the same, character by character
abbrev pub same_group : List (List ℕ) → List (List ℕ) → Bool
same_group a b = pointwise bytes_eq a b

abbrev pub text_writes : List ℕ → List (List ℕ)
text_writes text = fed.str (encode_utf8_all text)

abbrev pub group_writes : List (List ℕ) → List (List ℕ)
group_writes texts = fed.slice text_writes texts

pub group_writes_same : (x y : List (List ℕ)) → IsTrue (same_group x y) → group_writes x ≡ group_writes y
group_writes_same x y same = ap group_writes ((pointwise_decides bytes_decides x y).0 same)
