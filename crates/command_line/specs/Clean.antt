-- What the code asks of words beside clap.
use Rattle.std.specs.Prelude.{◌==◌, ◌&&◌, Bool, true, false, List, [], ◌∷◌, Option, Some, None, if◌then◌else◌, option_and_then, ◌||◌}
use Rattle.std.specs.List.{list_all, list_any, after_first}
use Rattle.clap.specs.Lexer.{strip_byte}
use Rattle.command_line.specs.Given.{Word, is_value, is_nonempty}

-- what follows `--`
abbrev pub behind_dashes : Word → Option Word
behind_dashes w = option_and_then (strip_byte 45) (strip_byte 45 w)

-- what follows a first `=` is a value, if there is one
abbrev pub is_clean_option : Word → Bool
is_clean_option text = if list_any (λ x. x == 61) text then is_value (after_first (λ x. x == 61) text) else true

abbrev pub clean_by : Word → Option Word → List Word → Bool → Bool
clean_by w None ws below = is_value w && below
clean_by w (Some []) ws below = list_all is_nonempty ws
clean_by w (Some (c ∷ cs)) ws below = is_clean_option (c ∷ cs) && below

-- Before `--` each word is a value or begins with `--`, and what is joined to an option is a value. Behind it no word is empty.
abbrev pub are_clean : List Word → Bool
are_clean [] = true
are_clean (w ∷ ws) = clean_by w (behind_dashes w) ws (are_clean ws)

-- the same, word by word, where `ended` says that `--` came before
abbrev pub is_option_or_value : Word → Option Word → Bool
is_option_or_value w None = is_value w
is_option_or_value w (Some text) = is_clean_option text

abbrev pub is_clean_word : Bool → Word → Bool
is_clean_word true w = is_nonempty w
is_clean_word false w = is_option_or_value w (behind_dashes w)

abbrev pub is_last_dashes : Option Word → Bool
is_last_dashes (Some []) = true
is_last_dashes _ = false

abbrev pub clean_from : Bool → List Word → Bool
clean_from ended [] = true
clean_from ended (w ∷ ws) = is_clean_word ended w && clean_from (ended || is_last_dashes (behind_dashes w)) ws
