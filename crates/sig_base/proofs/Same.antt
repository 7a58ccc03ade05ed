-- Texts that are equal after folding: where one of the two ends first, they aren't.
use Rattle.std.proofs.Common.{ℕ, ◌≡◌, ◌<◌, Bool, false, List, [], ◌∷◌, length, sym, ◌∙◌, ap}
use Rattle.std.specs.Str.{chars, bytes_eq}
use Rattle.std.proofs.lemmas.Str.{chars-nil}
use Rattle.sig_base.specs.Folding.{fold, folded}

pub second_ends : (left right rest : List ℕ) (c : ℕ) (all : Bool) → (chars left ≡ c ∷ chars rest) × (length rest < length left) → right ≡ []
    → bytes_eq (folded (chars left)) (folded (chars right)) ≡ all → false ≡ all
second_ends left right rest c all first none ran =
    let n : chars right ≡ [] = ap chars none ∙ chars-nil in
    sym (ap (λ (cs : List ℕ). bytes_eq (folded cs) (folded (chars right))) first.0 ∙ ap (λ (cs : List ℕ). bytes_eq (fold c ∷ folded (chars rest)) (folded cs)) n) ∙ ran

pub first_ends : (left right rest : List ℕ) (c : ℕ) (all : Bool) → left ≡ [] → (chars right ≡ c ∷ chars rest) × (length rest < length right)
    → bytes_eq (folded (chars left)) (folded (chars right)) ≡ all → false ≡ all
first_ends left right rest c all none first ran =
    let n : chars left ≡ [] = ap chars none ∙ chars-nil in
    sym (ap (λ (cs : List ℕ). bytes_eq (folded cs) (folded (chars right))) n ∙ ap (λ (cs : List ℕ). bytes_eq [] (folded cs)) first.0) ∙ ran
