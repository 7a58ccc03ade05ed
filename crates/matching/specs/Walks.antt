-- What a walk along a pattern, up to its next run, tells of the texts that the pattern matches.
use Rattle.std.specs.Prelude.{ℕ, ◌≡◌, ◌<◌, ◌≤◌, List, [], ◌∷◌, length, Some, None}
use Rattle.std.specs.declared.option.Option.{Option}
use Rattle.std.specs.Str.{chars}
use Rattle.matching.specs.Suffixes.{SuffixHolds}
use Rattle.matching.specs.declared.walk.Walk.{Walk}
use Rattle.matching.specs.declared.walk.Walk.TheVariants.{Ends, Misses, Reaches}
use Rattle.std.specs.Borrow.{Bor}

-- Only the last run matters: what stands behind it, and the text that is left there, tell all.
pub record ReachesRun {C : Type 0} (holds : C → List ℕ → Type 0) (left : C → ℕ) (start later : C) (text rest : List ℕ) : Type 0 where
  pub shorter : left later < left start
  pub no_longer : length rest ≤ length text
  -- where the rest has a suffix that fits behind the run, the whole text fits
  pub enough : SuffixHolds (holds later) (chars rest) → holds start (chars text)
  -- and wherever in the text the pattern begins to match, the rest has such a suffix
  pub needed : SuffixHolds (holds start) (chars text) → SuffixHolds (holds later) (chars rest)

abbrev pub WalkTells : {C : Type 0} → (C → List ℕ → Type 0) → (C → ℕ) → C → List ℕ → Walk C → Type 0
WalkTells holds left start text Ends = holds start (chars text)
WalkTells holds left start text Misses = holds start (chars text) → ⊥
WalkTells holds left start text (Reaches later rest) = ReachesRun holds left start later text rest.now
