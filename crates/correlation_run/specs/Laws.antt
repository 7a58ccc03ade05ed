-- Laws: each line is answered behind each history, and in one way.
use Rattle.std.specs.Prelude.{◌≡◌, ℕ, List}
use Rattle.answer_writer.specs.Parts.{Share}
use Rattle.correlation_windows.specs.History.{Taken}
use Rattle.correlation_run.specs.Followed.{Correlating, Follows}

abbrev pub EachFollowed : Type 0
EachFollowed = (w : Correlating) (history : List Taken) (number : ℕ) (line : List ℕ) → (share : Share) × (after : List Taken) × Follows w history number line share after

abbrev pub OneFollowed : Type 0
OneFollowed = (w : Correlating) (history : List Taken) (number : ℕ) (line : List ℕ) (a b : Share) (x y : List Taken) → Follows w history number line a x
    → Follows w history number line b y → (a ≡ b) × (x ≡ y)
