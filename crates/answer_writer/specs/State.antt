-- What is known of the world outside at a moment: of what is read, and of what was written.
use Rattle.std.specs.Prelude.{◌≡◌, ℕ, List, Option, ◌⊎◌}
use Rattle.std.specs.Borrow.{GName}
use Rattle.sig_base.specs.Causes.{Rose}

-- the files, where they are told, the names that couldn't be read, what is left of the events, where it is told, and how often reading them failed
pub record Inputs : Type 0 where
  pub files : Option (List (List ℕ × List ℕ))
  pub failed : List (List ℕ)
  pub left : Option (List ℕ)
  pub faults : ℕ

-- what the two sinks have taken, where they tell it, and how often each failed
pub record Streams : Type 0 where
  pub out : Option (List ℕ)
  pub err : Option (List ℕ)
  pub out_faults : ℕ
  pub err_faults : ℕ

-- which shelf, source and sinks they are
pub record References : Type 0 where
  pub shelf : GName
  pub events : GName
  pub out : GName
  pub err : GName

pub record State : Type 0 where
  pub inputs : Inputs
  pub streams : Streams
  pub references : References

-- no writing failed in between
abbrev pub NoWriteFailed : Streams → Streams → Type 0
NoWriteFailed old new = (new.out_faults ≡ old.out_faults) × (new.err_faults ≡ old.err_faults)

-- some writing failed in between
abbrev pub SomeWriteFailed : Streams → Streams → Type 0
SomeWriteFailed old new = Rose old.out_faults new.out_faults ⊎ Rose old.err_faults new.err_faults

-- no reading failed in between
abbrev pub NoReadFailed : Inputs → Inputs → Type 0
NoReadFailed old new = (new.failed ≡ old.failed) × (new.faults ≡ old.faults)
