-- Keys against the ones seen.
use Rattle.std.proofs.Common.{◌≡◌, ℕ, true, false, List, Ok, Err, refl}
use Rattle.yaml_inline.specs.File.{Line}
use Rattle.yaml_inline.specs.Line.{spot, refused}
use Rattle.yaml_inline.specs.Flow.{is_seen}
use Rattle.yaml_blocks.specs.Reading.{item_key, key_in}

pub key_fresh : (i : ℕ) (ks : List (List ℕ)) (l : Line) (cs k after : List ℕ) → item_key i l cs ≡ Ok (k, after) → is_seen k ks ≡ false → key_in i ks l cs ≡ Ok (k, after)
unfolding key_in
key_fresh i ks l cs k after e fresh = rw (e, fresh) refl

pub key_seen : (i : ℕ) (ks : List (List ℕ)) (l : Line) (cs k after : List ℕ) → item_key i l cs ≡ Ok (k, after) → is_seen k ks ≡ true → key_in i ks l cs ≡ Err (refused 5 (spot l cs))
unfolding key_in
key_seen i ks l cs k after e seen = rw (e, seen) refl
