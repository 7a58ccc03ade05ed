-- Lines that stand deeper.
use Rattle.std.proofs.Common.{◌≡◌, ℕ, ◌<◌, Bool, true, false, ◌||◌, ◌&&◌, ◌==◌, nat_lt, refl, arith}
use Rattle.std.proofs.lemmas.Bool.Decides.{nat_tests}
use Rattle.yaml_inline.specs.File.{Line}
use Rattle.yaml_inline.specs.Line.{indent, is_comment, is_dash, body}
use Rattle.yaml_blocks.specs.Blocks.{inside}

either : (a b c : Bool) → b ≡ true → (a || b || c) ≡ true
either true b c e = refl
either false b c e = rw e refl

pub deeper : (in_map : Bool) (j : ℕ) (l : Line) → j < indent l → inside in_map j l ≡ true
deeper in_map j l h =
    let less : nat_lt j (indent l) ≡ true = grind (arith, nat_tests) in
    either (is_comment l) (nat_lt j (indent l)) (in_map && (indent l == j && is_dash (body l))) less
