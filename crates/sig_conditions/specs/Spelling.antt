-- Which words a text has: parentheses and longest runs of [A-Za-z0-9_*-], between spaces, tabs and line feeds.
use Rattle.std.specs.Prelude.{ℕ, ◌≡◌, ◌≤◌, Bool, true, false, List, [], ◌∷◌, ◌++◌, length}
use Rattle.std.specs.List.{list_all}
use Rattle.sig_conditions.specs.declared.word.Word.{Word}
use Rattle.sig_conditions.specs.Words.{is_blank, is_run_character, sign_of, word_of}

abbrev pub begins_run : List ℕ → Bool
begins_run [] = false
begins_run (c ∷ cs) = is_run_character c

pub data AreWords : List ℕ → List Word → Type 0 where
  no_word : {text : List ℕ} → text ≡ [] → AreWords text []
  blank : {text : List ℕ} {ws : List Word} (c : ℕ) (rest : List ℕ) → text ≡ c ∷ rest → is_blank c ≡ true → AreWords rest ws → AreWords text ws
  sign : {text : List ℕ} {ws : List Word} (c : ℕ) (rest : List ℕ) → text ≡ c ∷ rest → is_blank c ≡ false → is_run_character c ≡ false
      → AreWords rest ws → AreWords text (sign_of c ∷ ws)
  run : {text : List ℕ} {ws : List Word} (front rest : List ℕ) → text ≡ front ++ rest → 1 ≤ length front → list_all is_run_character front ≡ true
      → begins_run rest ≡ false → AreWords rest ws → AreWords text (word_of front ∷ ws)
