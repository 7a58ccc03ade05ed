-- The signs of the parts are the text of the pattern.
use Rattle.std.proofs.Common.{ℕ, ◌≡◌, refl, ap, List, [], ◌∷◌, ◌++◌}
use Rattle.std.specs.List.{flat_map}
use Rattle.sig_strings.specs.declared.part.Part.{Part}
use Rattle.sig_strings.specs.declared.part.Part.TheVariants.{Char, One, Run, Dash, Hole}
use Rattle.sql_lang.specs.Meaning.{Exactly}
use Rattle.sql_layout.specs.Escaped.{like_piece, like_text, glob_piece, glob_text}
use Rattle.sql_like.specs.Writable.{sql_parts}
use Rattle.sqlite_writer.specs.Signs.{like_sign, glob_sign}

pub like_signs_are : (parts : List Part) → flat_map like_sign parts ≡ like_text (sql_parts parts)
like_signs_are [] = refl
like_signs_are (Char c ∷ parts) = ap (λ (t : List ℕ). like_piece (Exactly c) ++ t) (like_signs_are parts)
like_signs_are (One ∷ parts) = ap (λ (t : List ℕ). 95 ∷ t) (like_signs_are parts)
like_signs_are (Run ∷ parts) = ap (λ (t : List ℕ). 37 ∷ t) (like_signs_are parts)
like_signs_are (Dash ∷ parts) = like_signs_are parts
like_signs_are (Hole name ∷ parts) = like_signs_are parts

pub glob_signs_are : (parts : List Part) → flat_map glob_sign parts ≡ glob_text (sql_parts parts)
glob_signs_are [] = refl
glob_signs_are (Char c ∷ parts) = ap (λ (t : List ℕ). glob_piece (Exactly c) ++ t) (glob_signs_are parts)
glob_signs_are (One ∷ parts) = ap (λ (t : List ℕ). 63 ∷ t) (glob_signs_are parts)
glob_signs_are (Run ∷ parts) = ap (λ (t : List ℕ). 42 ∷ t) (glob_signs_are parts)
glob_signs_are (Dash ∷ parts) = glob_signs_are parts
glob_signs_are (Hole name ∷ parts) = glob_signs_are parts
