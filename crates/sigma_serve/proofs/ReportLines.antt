-- The pieces of a diagnostic, and of the line of a rule.
use Rattle.std.proofs.Common.{◌≡◌, ℕ, List, [], ◌∷◌, ◌++◌, refl, ap, ◌∙◌, append_assoc, encode_utf8_all, codes, Result, Ok, Err, IfOk}
use Rattle.std.specs.Fmt.{decimal}
use Rattle.sig_base.specs.Codes.{code_name}
use Rattle.sig_base.specs.declared.refusal.Place.{Place}
use Rattle.sig_base.specs.declared.refusal.Refusal.{Refusal}
use Rattle.answer_writer.specs.Lines.{ended}
use Rattle.sigma_serve.specs.Reports.{line_of, placed, ok_line, refusal_diagnostic, detail_text}

regroup : (file line column number cause detail : List ℕ) →
    file ++ (58 ∷ (line ++ (58 ∷ (column ++ (58 ∷ 32 ∷ (number ++ (32 ∷ (cause ++ (detail ++ 10 ∷ [])))))))))
    ≡ (file ++ (58 ∷ (line ++ (58 ∷ (column ++ (58 ∷ 32 ∷ (number ++ (32 ∷ (cause ++ detail))))))))) ++ 10 ∷ []
regroup file line column number cause detail = simp append_assoc refl

-- the line feed ends the line, whatever its detail
pub ended-line_of : (file : List ℕ) (place : Place) (number : ℕ) (cause detail : List ℕ) → line_of file place number cause (detail ++ 10 ∷ []) ≡ ended (line_of file place number cause detail)
ended-line_of file place number cause detail = regroup file (decimal place.line) (decimal place.column) (decimal number) cause detail

-- a line of a refusal's own pieces is its line
pub refusal_lined : {T E : Type 0} (bytes : T → List ℕ) (r : Result T E) (name file cause detail : List ℕ) (number : ℕ) (refusal : Refusal)
    → file ≡ encode_utf8_all name → number ≡ refusal.code → cause ≡ code_name refusal.code → detail ≡ detail_text refusal.detail
    → IfOk r (λ line. bytes line ≡ line_of file refusal.place number cause (detail ++ 10 ∷ [])) → IfOk r (λ line. bytes line ≡ ended (refusal_diagnostic name refusal))
refusal_lined bytes (Err e) name file cause detail number refusal first second third fourth is = tt
refusal_lined bytes (Ok line) name file cause detail number refusal first second third fourth is =
    is ∙ (rw (first, second, third, fourth) (ended-line_of (encode_utf8_all name) refusal.place refusal.code (code_name refusal.code) (detail_text refusal.detail)))

regroup_placed : (file line column : List ℕ) → file ++ (58 ∷ (line ++ (58 ∷ (column ++ (58 ∷ 32 ∷ 111 ∷ 107 ∷ 10 ∷ []))))) ≡ (file ++ (58 ∷ (line ++ (58 ∷ (column ++ (58 ∷ 32 ∷ 111 ∷ 107 ∷ [])))))) ++ 10 ∷ []
regroup_placed file line column = simp append_assoc refl

-- the line of a document that is a rule
pub ok_lined : {T E : Type 0} (bytes : T → List ℕ) (r : Result T E) (name file : List ℕ) (place : Place) → file ≡ encode_utf8_all name
    → IfOk r (λ line. bytes line ≡ file ++ (58 ∷ (decimal place.line ++ (58 ∷ (decimal place.column ++ (58 ∷ 32 ∷ 111 ∷ 107 ∷ 10 ∷ [])))))) → IfOk r (λ line. bytes line ≡ ended (ok_line name place))
ok_lined bytes (Err e) name file place same is = tt
ok_lined bytes (Ok line) name file place same is =
    is ∙ (regroup_placed file (decimal place.line) (decimal place.column) ∙ ap (λ (f : List ℕ). ended (placed f place (codes "ok"))) same)
