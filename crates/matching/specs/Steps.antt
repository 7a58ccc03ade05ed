-- What a step of a pattern tells of the texts that the pattern matches.
use Rattle.std.specs.Prelude.{ℕ, ◌≡◌, ◌<◌, ◌↔◌, Bool, true, List, [], ◌==◌, ◌||◌}
use Rattle.sig_base.specs.Folding.{fold}
use Rattle.matching.specs.Suffixes.{SuffixHolds, CharThen}
use Rattle.matching.specs.declared.step.Step.{Step}
use Rattle.matching.specs.declared.step.Step.TheVariants.{End, Never, Run, Takes}
use Rattle.matching.specs.declared.step.Taker.{Taker}
use Rattle.matching.specs.declared.step.Taker.TheVariants.{Any, Exact, Folded, Dash}

-- `-`, `/`, the en dash, the em dash or the horizontal bar
abbrev pub is_dash : ℕ → Bool
is_dash c = c == 45 || c == 47 || c == 0x2013 || c == 0x2014 || c == 0x2015

-- the same character after folding
abbrev pub folds_to : ℕ → ℕ → Bool
folds_to c d = fold c == fold d

abbrev pub is_taken : Taker → ℕ → Bool
is_taken Any d = true
is_taken (Exact c) d = c == d
is_taken (Folded c) d = folds_to c d
is_taken Dash d = is_dash d

-- what the pattern matches at this place, by what stands there
abbrev pub StepTells : {C : Type 0} → (C → List ℕ → Type 0) → (C → ℕ) → C → Step C → Type 0
StepTells holds left at End = (text : List ℕ) → holds at text ↔ (text ≡ [])
StepTells holds left at Never = (text : List ℕ) → holds at text → ⊥
StepTells holds left at (Run next) =
    (left next < left at) × ((text : List ℕ) → holds at text ↔ SuffixHolds (holds next) text)
StepTells holds left at (Takes taker next) =
    (left next < left at) × ((text : List ℕ) → holds at text ↔ CharThen (is_taken taker) (holds next) text)
