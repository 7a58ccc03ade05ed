-- How many choices there are.
use Rattle.std.proofs.Common.{◌≡◌, ℕ, ◌+◌, ◌*◌, ◌^◌, suc, false, List, [], ◌∷◌, ◌++◌, length, refl, sym, ap, ◌∙◌, subst, arith, cond}
use Rattle.std.specs.List.{flat_map}
use Rattle.std.proofs.Math.Nat.{suc-mul, pow-succ'}
use Rattle.std.proofs.lemmas.List.{length-append, length-map}
use Rattle.std.proofs.lemmas.List.Sums.{sum_by-cons}
use Rattle.sig_strings.specs.declared.part.Part.{Part}
use Rattle.sig_strings.specs.declared.part.Part.TheVariants.{Char, One, Run, Dash, Hole}
use Rattle.modifier_windash.specs.Choices.{choices, before_each, dash_signs, dash_count, is_dash_place}

pub as_many : (part : Part) (patterns : List (List Part)) → length (before_each part patterns) ≡ length patterns
as_many part patterns = length-map patterns (λ parts. part ∷ parts)

-- as many for each of the signs
pub in_rows : (signs : List ℕ) (patterns : List (List Part))
    → length (flat_map (λ sign. before_each (Char sign) patterns) signs) ≡ length signs * length patterns
in_rows [] patterns = omega arith
in_rows (sign ∷ signs) patterns =
    let row : List (List Part) = before_each (Char sign) patterns in
    let rows : List (List Part) = flat_map (λ s. before_each (Char s) patterns) signs in
    let joined : length (row ++ rows) ≡ length row + length rows = length-append row rows in
    let first : length row ≡ length patterns = as_many (Char sign) patterns in
    let more : length rows ≡ length signs * length patterns = in_rows signs patterns in
    let product : suc (length signs) * length patterns ≡ length signs * length patterns + length patterns = suc-mul (length signs) (length patterns) in
    omega (arith, joined, first, more, product)

-- one place more counts one or none
counts : (part : Part) (parts : List Part) → dash_count (part ∷ parts) ≡ cond (is_dash_place part) 1 0 + dash_count parts
counts part parts = sum_by-cons (λ x. cond (is_dash_place x) 1 0) part parts

pub as_before : (part : Part) (parts : List Part) → is_dash_place part ≡ false → dash_count (part ∷ parts) ≡ dash_count parts
as_before part parts is =
    let counted : dash_count (part ∷ parts) ≡ 0 + dash_count parts =
    subst (λ b. dash_count (part ∷ parts) ≡ cond b 1 0 + dash_count parts) is (counts part parts) in
    omega (arith, counted)

-- one more part that is no dash place
plain : (part : Part) (parts : List Part) → is_dash_place part ≡ false → length (choices parts) ≡ 5 ^ dash_count parts
    → length (before_each part (choices parts)) ≡ 5 ^ dash_count (part ∷ parts)
plain part parts is same = as_many part (choices parts) ∙ same ∙ ap (λ n. 5 ^ n) (sym (as_before part parts is))

pub counted : (parts : List Part) → length (choices parts) ≡ 5 ^ dash_count parts
counted [] = refl
counted (Char c ∷ parts) = plain (Char c) parts refl (counted parts)
counted (One ∷ parts) = plain One parts refl (counted parts)
counted (Run ∷ parts) = plain Run parts refl (counted parts)
counted (Dash ∷ parts) =
    let more : dash_count (Dash ∷ parts) ≡ suc (dash_count parts) = counts Dash parts ∙ omega arith in
    in_rows dash_signs (choices parts) ∙ ap (λ n. 5 * n) (counted parts) ∙ sym (pow-succ' 5 (dash_count parts)) ∙ ap (λ n. 5 ^ n) (sym more)
counted (Hole name ∷ parts) = plain (Hole name) parts refl (counted parts)
