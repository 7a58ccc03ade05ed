-- What the calls on a pattern make of its list of parts.
use Rattle.std.specs.Prelude.{ℕ, Bool, true, false, List, [], ◌∷◌, ◌++◌, if◌then◌else◌, ◌==◌, ◌||◌, ◌&&◌, not}
use Rattle.std.specs.List.{list_any, list_all, flat_map}
use Rattle.sig_strings.specs.Spells.{is_special, is_word_char}
use Rattle.sig_strings.specs.declared.part.Part.{Part}
use Rattle.sig_strings.specs.declared.part.Part.TheVariants.{Char, One, Run, Dash, Hole}

abbrev pub is_char : Part → Bool
is_char (Char c) = true
is_char One = false
is_char Run = false
is_char Dash = false
is_char (Hole name) = false

abbrev pub is_run : Part → Bool
is_run (Char c) = false
is_run One = false
is_run Run = true
is_run Dash = false
is_run (Hole name) = false

-- a part that a text without `expand` can spell
abbrev pub is_written : Part → Bool
is_written (Char c) = true
is_written One = true
is_written Run = true
is_written Dash = false
is_written (Hole name) = false

abbrev pub all_written : List Part → Bool
all_written parts = list_all is_written parts

-- some part isn't a character
abbrev pub has_wildcard : List Part → Bool
has_wildcard parts = list_any (λ part. not (is_char part)) parts

abbrev pub starts_with_run : List Part → Bool
starts_with_run [] = false
starts_with_run (part ∷ parts) = is_run part

abbrev pub ends_with_run : List Part → Bool
ends_with_run [] = false
ends_with_run (part ∷ []) = is_run part
ends_with_run (part ∷ (next ∷ parts)) = ends_with_run (next ∷ parts)

abbrev pub with_run_before : List Part → List Part
with_run_before parts = if starts_with_run parts then parts else Run ∷ parts

abbrev pub with_run_after : List Part → List Part
with_run_after parts = if ends_with_run parts then parts else parts ++ Run ∷ []

-- a character of [A-Za-z0-9_]
abbrev pub is_word_part : Part → Bool
is_word_part (Char c) = is_word_char c
is_word_part One = false
is_word_part Run = false
is_word_part Dash = false
is_word_part (Hole name) = false

-- `-` or `/`
abbrev pub is_dash_sign : Part → Bool
is_dash_sign (Char c) = c == 45 || c == 47
is_dash_sign One = false
is_dash_sign Run = false
is_dash_sign Dash = false
is_dash_sign (Hole name) = false

abbrev pub starts_with_word : List Part → Bool
starts_with_word [] = false
starts_with_word (part ∷ parts) = is_word_part part

-- the parts behind one that is a word's character or isn't: `-` and `/` become dashes where no word's character stands
-- before and one stands behind
abbrev pub dashes_after : Bool → List Part → List Part
dashes_after in_word [] = []
dashes_after in_word (part ∷ parts) =
    (if is_dash_sign part && not in_word && starts_with_word parts then Dash else part) ∷ dashes_after (is_word_part part) parts

abbrev pub dashes_of : List Part → List Part
dashes_of parts = dashes_after false parts

-- the character of a part that is one
abbrev pub plain_piece : Part → List ℕ
plain_piece (Char c) = c ∷ []
plain_piece One = []
plain_piece Run = []
plain_piece Dash = []
plain_piece (Hole name) = []

-- the characters among the parts
abbrev pub plain_text : List Part → List ℕ
plain_text parts = flat_map plain_piece parts

-- how a part is written
abbrev pub sigma_piece : Part → List ℕ
sigma_piece (Char c) = if is_special c then 92 ∷ (c ∷ []) else c ∷ []
sigma_piece One = 63 ∷ []
sigma_piece Run = 42 ∷ []
sigma_piece Dash = []
sigma_piece (Hole name) = []

abbrev pub sigma_text : List Part → List ℕ
sigma_text parts = flat_map sigma_piece parts
