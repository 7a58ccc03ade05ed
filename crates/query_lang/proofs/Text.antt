-- Characters with a line feed behind them, and their bytes.
use Rattle.std.proofs.Common.{ℕ, ◌≡◌, refl, sym, ap, ◌∙◌, ◌≤◌, ◌+◌, true, List, [], ◌∷◌, length, arith}
use Rattle.std.proofs.Math.Utf8.{scalar}
use Rattle.std.proofs.lemmas.List.{length-append}
use Rattle.std.proofs.lemmas.Str.{encodes-append}
use Rattle.std.specs.Str.{all_scalars}
use Rattle.std.proofs.lemmas.Bool.{and_parts}
use Rattle.query_tokens.specs.Places.{IsText}
use Rattle.query_lang.specs.Ended.{with_line_feed}

scalars_behind : (cs : List ℕ) → all_scalars cs ≡ true → all_scalars (with_line_feed cs) ≡ true
scalars_behind [] h = refl
scalars_behind (c ∷ cs) h =
    let each = and_parts (scalar c) (all_scalars cs) h in
    let here = each.0 in
    rw here (scalars_behind cs each.1)

-- the bytes of a text with a line feed are the characters with one
pub text_behind : (bytes cs : List ℕ) → IsText bytes cs → IsText (with_line_feed bytes) (with_line_feed cs)
unfolding lib.Utf8.encode
text_behind bytes cs h = record {
  scalars = scalars_behind cs h.scalars;
  encoded = ap with_line_feed h.encoded ∙ sym (encodes-append cs (10 ∷ []));
}

-- they are one more
pub one_more : (bytes : List ℕ) (most : ℕ) → length bytes ≤ most → length (with_line_feed bytes) ≤ most + 1
one_more bytes most short = let more = length-append bytes (10 ∷ []) in omega (arith, short, more)
