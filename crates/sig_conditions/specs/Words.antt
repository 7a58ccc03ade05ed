-- The words of a condition, in the order of its text: parentheses, and longest runs of [A-Za-z0-9_*-], between spaces, tabs
-- and line feeds. Sigma's keywords are read in lower and in upper case.
use Rattle.std.specs.Prelude.{ℕ, Bool, true, false, List, [], ◌∷◌, ◌++◌, if◌then◌else◌, ◌==◌, ◌||◌, ◌&&◌, ◌+◌, nat_le, not, bytes_eq, codes, Some, None}
use Rattle.std.specs.declared.option.Option.{Option}
use Rattle.std.specs.List.{list_all, list_any}
use Rattle.std.specs.Option.{is_some}
use Rattle.sig_conditions.specs.declared.word.Word.{Word}
use Rattle.sig_conditions.specs.declared.word.Word.TheVariants.{Fixed, Name, Pattern}
use Rattle.sig_conditions.specs.declared.word.Sign.{Sign}
use Rattle.sig_conditions.specs.declared.word.Sign.TheVariants.{Open, Close, Or, And, Not, One, All, Of, Them, Bad}
use Rattle.sig_conditions.specs.contracts.word.Sign.{the_type}
use denote.Enum.Bare.{sameb}

-- one of [A-Za-z0-9_*-]
abbrev pub is_run_character : ℕ → Bool
is_run_character c =
    (nat_le 97 c && nat_le c 122) || (nat_le 65 c && nat_le c 90) || (nat_le 48 c && nat_le c 57) || c == 95 || c == 42 || c == 45

-- a space, a tab or a line feed
abbrev pub is_blank : ℕ → Bool
is_blank c = c == 32 || c == 9 || c == 10

-- what any other character is: a parenthesis, or no word of a condition
abbrev pub sign_of : ℕ → Word
sign_of c = Fixed (if c == 40 then Open else if c == 41 then Close else Bad)

abbrev pub is_star : ℕ → Bool
is_star c = c == 42

-- the keywords, all lower or all upper case
abbrev pub keywords : List (List ℕ × Sign)
keywords =
    (codes "or", Or) ∷ (codes "OR", Or) ∷
    (codes "and", And) ∷ (codes "AND", And) ∷
    (codes "not", Not) ∷ (codes "NOT", Not) ∷
    (codes "1", One) ∷ (codes "any", One) ∷ (codes "ANY", One) ∷
    (codes "all", All) ∷ (codes "ALL", All) ∷
    (codes "of", Of) ∷ (codes "OF", Of) ∷
    (codes "them", Them) ∷ (codes "THEM", Them) ∷
    []

-- the keyword that a run is, if it is one
abbrev pub keyword_in : List (List ℕ × Sign) → List ℕ → Option Sign
keyword_in [] run = None
keyword_in (row ∷ rows) run = if bytes_eq run row.0 then Some row.1 else keyword_in rows run

abbrev pub name_unless : Option Sign → List ℕ → Word
name_unless None run = Name run
name_unless (Some keyword) run = Fixed keyword

-- what a run is: a pattern where it has a star, a keyword, or a name
abbrev pub word_of : List ℕ → Word
word_of run = if list_any is_star run then Pattern run else name_unless (keyword_in keywords run) run

abbrev pub is_empty : List ℕ → Bool
is_empty [] = true
is_empty (c ∷ cs) = false

-- what a detection may be called: one or more of [A-Za-z0-9_-], and no keyword
abbrev pub is_identifier : List ℕ → Bool
is_identifier name =
    not (is_empty name) && list_all is_run_character name && not (list_any is_star name) && not (is_some (keyword_in keywords name))

-- the end of a run, which is a word unless it is empty
abbrev pub ended : List ℕ → List Word → List Word
ended [] ws = ws
ended (c ∷ cs) ws = word_of (c ∷ cs) ∷ ws

-- the words of a run that has begun and of the text behind it
unfoldable pub words_from : List ℕ → List ℕ → List Word
words_from run [] = ended run []
words_from run (c ∷ cs) =
    if is_run_character c then words_from (run ++ c ∷ []) cs
    else ended run (if is_blank c then words_from [] cs else sign_of c ∷ words_from [] cs)

-- the words of a text
abbrev pub words : List ℕ → List Word
words text = words_from [] text

-- the same sign
abbrev pub same : Sign → Sign → Bool
same = sameb the_type

-- the word is this sign
abbrev pub is_sign : Sign → Word → Bool
is_sign sign (Fixed s) = same s sign
is_sign sign (Name n) = false
is_sign sign (Pattern n) = false

-- 1 for the words that nest what stands behind them, `(` and `not`
abbrev pub nests : Word → ℕ
nests w = if is_sign Open w || is_sign Not w then 1 else 0

-- how many words `(` and `not` there are
unfoldable pub nesting : List Word → ℕ
nesting [] = 0
nesting (w ∷ ws) = nests w + nesting ws

-- a `|` stands in the text, with which old conditions began an aggregation
abbrev pub has_bar : List ℕ → Bool
has_bar text = list_any (λ c. c == 124) text

-- there is a first word, and it passes the test
abbrev pub begins : (Word → Bool) → List Word → Bool
begins test [] = false
begins test (w ∷ ws) = test w
