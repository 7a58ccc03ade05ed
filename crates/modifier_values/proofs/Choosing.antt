-- The choices of dashes of a pattern without placeholders are of characters, single characters and runs.
use Rattle.std.proofs.Common.{ℕ, ◌≡◌, Bool, true, false, ◌&&◌, List, [], ◌∷◌, ◌++◌, refl, ap, ◌∙◌}
use Rattle.std.proofs.Math.Utf8.{scalar}
use Rattle.std.specs.List.{list_all, flat_map}
use Rattle.std.specs.Str.{all_scalars}
use Rattle.std.proofs.lemmas.Bool.{and_parts, and_from}
use Rattle.modifier_windash.specs.Choices.{choices, before_each, dash_signs, is_dash_place}
use Rattle.event_schema.specs.Lists.{EachOf}
use Rattle.sig_strings.specs.Edits.{is_written, plain_text}
use Rattle.sig_strings.specs.declared.part.Part.{Part}
use Rattle.sig_strings.specs.declared.part.Part.TheVariants.{Char, One, Run, Dash, Hole}
use Rattle.modifier_values.specs.PlainPatterns.{is_filled, is_dashed, is_plain, IsDashedPattern, IsPlainPattern}
use Rattle.modifier_values.proofs.Keeping.{AllParts, passing, by_parts}
use Rattle.modifier_values.proofs.Plain.{above_nul, each_plain, all_plain}

each_joined : (Q : List Part → Type 0) (xs ys : List (List Part)) → EachOf Q xs → EachOf Q ys → EachOf Q (xs ++ ys)
each_joined Q [] ys h k = k
each_joined Q (x ∷ xs) ys h k = (h.0, each_joined Q xs ys h.1 k)

-- where parts that pass one test, and each dash, pass another
module _ (r q : Part → Bool) (others : (part : Part) → is_dash_place part ≡ false → r part ≡ true → q part ≡ true)
    (signs : EachOf (λ sign. q (Char sign) ≡ true) dash_signs) where
  behind_part : (part : Part) (all : List (List Part)) → q part ≡ true → EachOf (AllParts q) all → EachOf (AllParts q) (before_each part all)
  behind_part part [] one h = tt
  behind_part part (parts ∷ all) one h = (and_from (q part) (list_all q parts) one h.0, behind_part part all one h.1)

  behind_signs : (some : List ℕ) (all : List (List Part)) → EachOf (λ sign. q (Char sign) ≡ true) some → EachOf (AllParts q) all
      → EachOf (AllParts q) (flat_map (λ sign. before_each (Char sign) all) some)
  behind_signs [] all each h = tt
  behind_signs (sign ∷ some) all each h =
      each_joined (AllParts q) (before_each (Char sign) all) (flat_map (λ s. before_each (Char s) all) some)
      (behind_part (Char sign) all each.0 h) (behind_signs some all each.1 h)

  choices_pass : (parts : List Part) → AllParts r parts → EachOf (AllParts q) (choices parts)
  choices_pass [] h = (refl, tt)
  choices_pass (Char c ∷ parts) h =
      let both = and_parts (r (Char c)) (list_all r parts) h in behind_part (Char c) (choices parts) (others (Char c) refl both.0) (choices_pass parts both.1)
  choices_pass (One ∷ parts) h =
      let both = and_parts (r One) (list_all r parts) h in behind_part One (choices parts) (others One refl both.0) (choices_pass parts both.1)
  choices_pass (Run ∷ parts) h =
      let both = and_parts (r Run) (list_all r parts) h in behind_part Run (choices parts) (others Run refl both.0) (choices_pass parts both.1)
  choices_pass (Dash ∷ parts) h =
      let both = and_parts (r Dash) (list_all r parts) h in behind_signs dash_signs (choices parts) signs (choices_pass parts both.1)
  choices_pass (Hole name ∷ parts) h =
      let both = and_parts (r (Hole name)) (list_all r parts) h in behind_part (Hole name) (choices parts) (others (Hole name) refl both.0) (choices_pass parts both.1)

written_where : (part : Part) → is_dash_place part ≡ false → is_filled part ≡ true → is_written part ≡ true
written_where (Char c) no_dash fills = refl
written_where One no_dash fills = refl
written_where Run no_dash fills = refl
written_where Dash no_dash fills = absurd cc
written_where (Hole name) no_dash fills = absurd cc

choices_written : (parts : List Part) → AllParts is_filled parts → EachOf (AllParts is_written) (choices parts)
choices_written parts h = choices_pass is_filled is_written written_where (refl, (refl, (refl, (refl, (refl, tt))))) parts h

choices_above : (parts : List Part) → AllParts (passing above_nul) parts → EachOf (AllParts (passing above_nul)) (choices parts)
choices_above parts h = choices_pass (passing above_nul) (passing above_nul) (λ part no_dash is. is) (refl, (refl, (refl, (refl, (refl, tt))))) parts h

choices_scalar : (parts : List Part) → AllParts (passing scalar) parts → EachOf (AllParts (passing scalar)) (choices parts)
choices_scalar parts h = choices_pass (passing scalar) (passing scalar) (λ part no_dash is. is) (refl, (refl, (refl, (refl, (refl, tt))))) parts h

scalars_fail : (text : List ℕ) → list_all scalar text ≡ all_scalars text
scalars_fail [] = refl
scalars_fail (c ∷ cs) = ap (λ (b : Bool). scalar c && b) (scalars_fail cs)

pub choices_all_plain : (parts : List Part) → is_dashed parts ≡ true → list_all is_plain (choices parts) ≡ true
choices_all_plain parts h =
    let both = and_parts (list_all is_filled parts) (list_all above_nul (plain_text parts)) h in
    all_plain (choices parts) (choices_written parts both.0) (choices_above parts (by_parts above_nul parts ∙ both.1))

pub choices_plain : (parts : List Part) → IsDashedPattern parts → EachOf IsPlainPattern (choices parts)
choices_plain parts h =
    each_plain (choices parts) (choices_written parts h.filled)
    (choices_scalar parts (by_parts scalar parts ∙ scalars_fail (plain_text parts) ∙ h.plain.0))
    (choices_above parts (by_parts above_nul parts ∙ h.plain.1))
