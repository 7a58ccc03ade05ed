-- Which detections a name and a selector stand for, among the names of a rule in their order (Sigma specification 2.0,
-- condition: `1/all of search-identifier-pattern` and `1/all of them`).
use Rattle.std.specs.Prelude.{ℕ, Bool, false, List, [], ◌∷◌, if◌then◌else◌, ◌==◌, ◌||◌, ◌&&◌, ◌+◌, not, bytes_eq, Some, None}
use Rattle.std.specs.declared.option.Option.{Option}
use Rattle.sig_conditions.specs.declared.selector.Selector.{Selector}
use Rattle.sig_conditions.specs.declared.selector.Selector.TheVariants as selector
use Rattle.sig_conditions.specs.Words.{is_empty, is_star}

-- a name that begins with `_`
abbrev pub is_hidden : List ℕ → Bool
is_hidden [] = false
is_hidden (c ∷ cs) = c == 95

-- some suffix of the text passes, the text itself and the empty one among them
abbrev pub some_suffix : (List ℕ → Bool) → List ℕ → Bool
some_suffix test [] = test []
some_suffix test (c ∷ cs) = test (c ∷ cs) || some_suffix test cs

-- the text begins with this character, and its rest passes
abbrev pub begins_with : ℕ → (List ℕ → Bool) → List ℕ → Bool
begins_with c test [] = false
begins_with c test (d ∷ ds) = c == d && test ds

-- the name is the word, where each star stands for any run of characters
abbrev pub fits : List ℕ → List ℕ → Bool
fits [] name = is_empty name
fits (c ∷ word) name = if is_star c then some_suffix (fits word) name else begins_with c (fits word) name

-- `them` takes the names that aren't hidden, and a word those that fit, the hidden ones only if it begins as they do
abbrev pub takes : Selector → List ℕ → Bool
takes selector.Them name = not (is_hidden name)
takes (selector.Names word) name = fits word name && (not (is_hidden name) || is_hidden word)

-- the numbers of the names that are taken, where the first name has this number
abbrev pub taken_from : ℕ → Selector → List (List ℕ) → List ℕ
taken_from i s [] = []
taken_from i s (name ∷ names) = if takes s name then i ∷ taken_from (i + 1) s names else taken_from (i + 1) s names

-- the numbers of the names that a selector takes, in the rule's order
abbrev pub taken : Selector → List (List ℕ) → List ℕ
taken s names = taken_from 0 s names

-- the number of the first detection of this name, where the first of all has this number
abbrev pub number_from : ℕ → List ℕ → List (List ℕ) → Option ℕ
number_from i name [] = None
number_from i name (n ∷ names) = if bytes_eq n name then Some i else number_from (i + 1) name names

abbrev pub number_of : List ℕ → List (List ℕ) → Option ℕ
number_of name names = number_from 0 name names
