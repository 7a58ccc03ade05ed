-- The pieces of the diagnostic about a line of the events.
use Rattle.std.proofs.Common.{◌≡◌, ℕ, List, [], ◌∷◌, ◌++◌, refl, ◌∙◌, append_assoc, codes, Result, Ok, Err, IfOk}
use Rattle.std.specs.Fmt.{decimal}
use Rattle.answer_writer.specs.EventLines.{refused_as}
use Rattle.answer_writer.specs.Lines.{ended}

-- the line feed behind the name ends the line
regroup : (number code name : List ℕ) → number ++ (58 ∷ 32 ∷ (code ++ (32 ∷ (name ++ 10 ∷ [])))) ≡ (number ++ (58 ∷ 32 ∷ (code ++ (32 ∷ name)))) ++ 10 ∷ []
regroup number code name = simp append_assoc refl

pub refused_line : {T E : Type 0} (bytes : T → List ℕ) (r : Result T E) (number code : ℕ) (name : List ℕ)
    → IfOk r (λ line. bytes line ≡ codes "events:" ++ (decimal number ++ (58 ∷ 32 ∷ (decimal code ++ (32 ∷ (name ++ 10 ∷ [])))))) → IfOk r (λ line. bytes line ≡ ended (refused_as number code name))
refused_line bytes (Err e) number code name is = tt
refused_line bytes (Ok line) number code name is =
    is ∙ ap_codes (regroup (decimal number) (decimal code) name)
  where
    ap_codes : {xs ys : List ℕ} → xs ≡ ys → codes "events:" ++ xs ≡ codes "events:" ++ ys
    ap_codes same = rw same refl
