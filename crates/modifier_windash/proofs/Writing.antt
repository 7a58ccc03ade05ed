-- Choices have no dash places, and those of written parts and dashes are written.
use Rattle.std.proofs.Common.{◌≡◌, ℕ, Bool, true, false, ◌&&◌, ◌||◌, ◌==◌, List, [], ◌∷◌, refl, ap, ◌∙◌}
use Rattle.std.specs.List.{flat_map, list_all}
use Rattle.std.proofs.lemmas.List.Folds.{list_all-append}
use Rattle.std.proofs.lemmas.Bool.{and_from}
use Rattle.sig_strings.specs.Edits.{is_written, all_written}
use Rattle.sig_strings.specs.declared.part.Part.{Part}
use Rattle.sig_strings.specs.declared.part.Part.TheVariants.{Char, One, Run, Dash, Hole}
use Rattle.modifier_windash.specs.Choices.{choices, before_each, dash_signs, dash_count, is_dash_place}
use Rattle.modifier_windash.proofs.Counting.{as_before}

first_of : (a b : Bool) → (a && b) ≡ true → a ≡ true
first_of true b h = refl
first_of false b h = h

second_of : (a b : Bool) → (a && b) ≡ true → b ≡ true
second_of true b h = h
second_of false b h = absurd_of h
  where
    absurd_of : false ≡ true → b ≡ true
    absurd_of bad = cc

-- what a part before a pattern keeps
module _ (p : List Part → Bool) where
  kept : (part : Part) (patterns : List (List Part)) → ((parts : List Part) → p parts ≡ true → p (part ∷ parts) ≡ true)
      → list_all p patterns ≡ true → list_all p (before_each part patterns) ≡ true
  kept part [] keeps all = refl
  kept part (parts ∷ patterns) keeps all =
      and_from (p (part ∷ parts)) (list_all p (before_each part patterns)) (keeps parts (first_of (p parts) (list_all p patterns) all))
      (kept part patterns keeps (second_of (p parts) (list_all p patterns) all))

  kept_rows : (signs : List ℕ) (patterns : List (List Part))
      → ((c : ℕ) (parts : List Part) → p parts ≡ true → p (Char c ∷ parts) ≡ true)
      → list_all p patterns ≡ true → list_all p (flat_map (λ sign. before_each (Char sign) patterns) signs) ≡ true
  kept_rows [] patterns keeps all = refl
  kept_rows (sign ∷ signs) patterns keeps all =
      list_all-append p (before_each (Char sign) patterns) (flat_map (λ s. before_each (Char s) patterns) signs)
      ∙ and_from (list_all p (before_each (Char sign) patterns)) (list_all p (flat_map (λ s. before_each (Char s) patterns) signs))
      (kept (Char sign) patterns (keeps sign) all) (kept_rows signs patterns keeps all)

abbrev has_none : List Part → Bool
has_none parts = dash_count parts == 0

none_more : (part : Part) → is_dash_place part ≡ false → (parts : List Part) → has_none parts ≡ true → has_none (part ∷ parts) ≡ true
none_more part is parts none = ap (λ n. n == 0) (as_before part parts is) ∙ none

pub none_left : (parts : List Part) → list_all (λ chosen. dash_count chosen == 0) (choices parts) ≡ true
none_left [] = refl
none_left (Char c ∷ parts) = kept has_none (Char c) (choices parts) (none_more (Char c) refl) (none_left parts)
none_left (One ∷ parts) = kept has_none One (choices parts) (none_more One refl) (none_left parts)
none_left (Run ∷ parts) = kept has_none Run (choices parts) (none_more Run refl) (none_left parts)
none_left (Dash ∷ parts) = kept_rows has_none dash_signs (choices parts) (λ c. none_more (Char c) refl) (none_left parts)
none_left (Hole name ∷ parts) = kept has_none (Hole name) (choices parts) (none_more (Hole name) refl) (none_left parts)

pub written : (parts : List Part) → list_all (λ part. is_written part || is_dash_place part) parts ≡ true → list_all all_written (choices parts) ≡ true
written [] all = refl
written (Char c ∷ parts) all = kept all_written (Char c) (choices parts) (λ rest is. is) (written parts all)
written (One ∷ parts) all = kept all_written One (choices parts) (λ rest is. is) (written parts all)
written (Run ∷ parts) all = kept all_written Run (choices parts) (λ rest is. is) (written parts all)
written (Dash ∷ parts) all = kept_rows all_written dash_signs (choices parts) (λ c rest is. is) (written parts all)
written (Hole name ∷ parts) all = cc
