-- The pieces of the diagnostic about an event that comes too early.
use Rattle.std.proofs.Common.{◌≡◌, ℕ, List, [], ◌∷◌, ◌++◌, refl, ap, ◌∙◌, append_assoc, codes, Result, Ok, Err, IfOk, subst, to_z, of_z, FitsSigned}
use Rattle.std.specs.Fmt.{decimal, signed_decimal}
use Rattle.std.proofs.lemmas.Int.{to_z-of_z}
use Rattle.std.specs.Int.{w128}
use Rattle.std.specs.Prelude.{ℤ}
use Rattle.answer_writer.specs.EventLines.{refused_as}
use Rattle.answer_writer.specs.Lines.{ended}
use Rattle.correlation_run.specs.Followed.{with_moments, order_diagnostic}
use Rattle.sig_base.specs.Codes.{code_name}

-- the line feed behind the last moment ends the line
regroup : (number code cause moment last : List ℕ)
    → number ++ (58 ∷ 32 ∷ (code ++ (32 ∷ (cause ++ (32 ∷ (moment ++ (32 ∷ (last ++ 10 ∷ []))))))))
    ≡ (number ++ (58 ∷ 32 ∷ (code ++ (32 ∷ (cause ++ (32 ∷ (moment ++ (32 ∷ last)))))))) ++ 10 ∷ []
regroup number code cause moment last = simp append_assoc refl

behind_word : {xs ys : List ℕ} → xs ≡ ys → codes "events:" ++ xs ≡ codes "events:" ++ ys
behind_word same = rw same refl

pub early_line : {T E : Type 0} (bytes : T → List ℕ) (r : Result T E) (number code : ℕ) (cause : List ℕ) (moment last : ℤ)
    → IfOk r (λ line. bytes line ≡ codes "events:" ++ (decimal number ++ (58 ∷ 32 ∷ (decimal code ++ (32 ∷ (cause ++ (32 ∷ (signed_decimal moment ++ (32 ∷ (signed_decimal last ++ 10 ∷ []))))))))))
    → IfOk r (λ line. bytes line ≡ ended (refused_as number code (with_moments cause moment last)))
early_line bytes (Err e) number code cause moment last is = tt
early_line bytes (Ok line) number code cause moment last is =
    is ∙ behind_word (regroup (decimal number) (decimal code) cause (signed_decimal moment) (signed_decimal last))

-- with the code's own number and name
pub order_line : (text : List ℕ) (number code : ℕ) (cause : List ℕ) (moment last : ℤ) → code ≡ 145 → cause ≡ code_name 145
    → text ≡ ended (refused_as number code (with_moments cause moment last)) → text ≡ ended (order_diagnostic number moment last)
order_line text number code cause moment last is named told =
    told ∙ (ap (λ (c : ℕ). ended (refused_as number c (with_moments cause moment last))) is ∙ ap (λ (n : List ℕ). ended (refused_as number 145 (with_moments n moment last))) named)

-- numbers that are handed on
pub as_handed : (P : ℤ → ℤ → Type 0) (moment last : ℤ) → FitsSigned w128 moment → FitsSigned w128 last → P (to_z w128 (of_z w128 moment)) (to_z w128 (of_z w128 last)) → P moment last
as_handed P moment last fits too is =
    subst (λ (m : ℤ). P m last) (to_z-of_z w128 moment fits) (subst (λ (l : ℤ). P (to_z w128 (of_z w128 moment)) l) (to_z-of_z w128 last too) is)
