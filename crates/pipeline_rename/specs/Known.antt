-- The names of a list, each found by its text.
use Rattle.std.specs.Prelude.{ℕ, ◌≡◌, ◌<◌, List, length, String, encode_utf8_all}
use Rattle.std.specs.BTreeSet.{BTreeSet, contains_text}
use Rattle.pipeline_model.specs.Concerned.{is_among}

-- the set has the bytes of these names, and of no others
abbrev pub AreKnown : {Y : Type 0} → List (List ℕ) → BTreeSet (String Y) → Type 0
AreKnown names known = (name : List ℕ) → contains_text known (encode_utf8_all name) ≡ is_among names name

-- it has them where they are more than 32
abbrev pub AreKnownIfMany : {Y : Type 0} → List (List ℕ) → BTreeSet (String Y) → Type 0
AreKnownIfMany names known = 32 < length names → AreKnown names known
