-- The truth of detections by their numbers.
use Rattle.std.specs.Prelude.{ℕ, Bool, false, List, slice_index_or}

-- a detection that isn't there isn't true
abbrev pub truth_at : List Bool → ℕ → Bool
truth_at truths n = slice_index_or truths n false
