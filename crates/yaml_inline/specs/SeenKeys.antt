-- The keys that were read of a map.
use Rattle.std.specs.Prelude.{◌≡◌, ℕ, Bool, true, List, map as list_map, encode_utf8_all}
use Rattle.std.specs.BTreeSet.{contains_text}
use Rattle.std.specs.List.{list_all}
use Rattle.std.specs.Str.{all_scalars}
use Rattle.yaml_inline.specs.declared.seen.Seen.{Seen}
use Rattle.yaml_inline.specs.Flow.{is_seen}

-- the set has the key of these bytes
abbrev pub has_bytes : Seen → List ℕ → Bool
has_bytes s bs = contains_text s.keys bs

-- the set has these keys, and no others
pub record Knows (s : Seen) (keys : List (List ℕ)) : Type 0 where
  pub texts : list_all all_scalars keys ≡ true
  pub same : (bs : List ℕ) → has_bytes s bs ≡ is_seen bs (list_map encode_utf8_all keys)
