-- What was read of a file that is told, said of the file.
use Rattle.std.proofs.Common.{◌≡◌, ℕ, List, [], take, subst, Option, Some, None}
use Rattle.std.specs.Prelude.{MatchOption, unwrap_or}
use Rattle.sig_base.specs.Files.{file_at, IsFront}
use Rattle.sigma_serve.specs.RuleFiles.{contents}

pub file_is : (count : ℕ) (Q : List ℕ → Type 0) (name : List ℕ) → ((all : List ℕ) → Q (take count all) → Q all)
    → (files : Option (List (List ℕ × List ℕ))) (told : List (List ℕ × List ℕ)) (bytes : List ℕ) → files ≡ Some told → IsFront files name count bytes
    → Q bytes → Q (contents told name)
file_is count Q name whole files told bytes is front so = found (file_at told name) (subst (λ f. IsFront f name count bytes) is front)
  where
    found : (at : Option (List ℕ)) → MatchOption at ⊥ (λ all. bytes ≡ take count all) → Q (unwrap_or at [])
    found None bad = absurd bad
    found (Some all) same = whole all (subst Q same so)
