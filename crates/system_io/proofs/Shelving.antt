-- What a read of a shelf in memory answers, by whether it has to fail.
use Rattle.std.proofs.Common.{◌≡◌, Bool, true, false, Result, Ok, Err, IsErr, IfErr, MatchResult}
use Rattle.std.proofs.lemmas.Bool.{false≢true}
use Rattle.sig_base.specs.declared.faults.ShelfFault.{ShelfFault}
use Rattle.sig_base.specs.declared.faults.ShelfFault.TheVariants.{Failed, Memory}

-- where the read has to fail, the answer is an error
pub failed_exact : {T : Type 0} (r : Result T ShelfFault) (fails : Bool) → IsErr r → fails ≡ true → MatchResult r (λ _. fails ≡ false) (λ e. e ≡ Failed → fails ≡ true)
failed_exact (Ok x) fails err must = absurd (false≢true err)
failed_exact (Err e) fails err must = λ _. must

-- where it hasn't to, only memory can be missing
pub worked_exact : {T : Type 0} (r : Result T ShelfFault) (fails : Bool) → IfErr r (λ e. e ≡ Memory) → fails ≡ false → MatchResult r (λ _. fails ≡ false) (λ e. e ≡ Failed → fails ≡ true)
worked_exact (Ok x) fails memory must_not = must_not
worked_exact (Err e) fails memory must_not = λ failed. cc
