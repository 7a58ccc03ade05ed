-- The place behind a text, character by character.
use Rattle.std.proofs.Common.{ℕ, suc, ◌+◌, ◌≤◌, ◌≡◌, refl, Bool, true, false, List, [], ◌∷◌, ◌++◌, length, arith}
use Rattle.std.specs.Prelude.{◌==◌, if◌then◌else◌}
use Rattle.query_tokens.specs.Places.{At, after, place_after}

pub place_turn : (p : At) (cs : List ℕ) (c : ℕ) → place_after p (cs ++ c ∷ []) ≡ after (place_after p cs) c
place_turn p [] c = refl
place_turn p (d ∷ cs) c = place_turn (after p d) cs c

pub place_near : (p : At) (cs : List ℕ) → ((place_after p cs).line ≤ p.line + length cs) × ((place_after p cs).column ≤ p.column + length cs + 1)
place_near p [] = (omega arith, omega arith)
place_near p (c ∷ cs) = by (c == 10) (λ q. place_near q cs) where
  by : (b : Bool) → ((q : At) → ((place_after q cs).line ≤ q.line + length cs) × ((place_after q cs).column ≤ q.column + length cs + 1))
      → ((place_after (if b then record { line = suc p.line; column = 1 } else record { line = p.line; column = suc p.column }) cs).line ≤ p.line + suc (length cs))
      × ((place_after (if b then record { line = suc p.line; column = 1 } else record { line = p.line; column = suc p.column }) cs).column ≤ p.column + suc (length cs) + 1)
  by true near = let n = near (record { line = suc p.line; column = 1 }) in (omega (arith, n.0), omega (arith, n.1))
  by false near = let n = near (record { line = p.line; column = suc p.column }) in (omega (arith, n.0), omega (arith, n.1))
