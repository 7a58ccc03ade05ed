-- What a file is answered by.
use Rattle.std.specs.Prelude.{◌≡◌, ℕ, Bool, true, false, not, ◌&&◌, ◌||◌, ◌==◌, nat_le, if◌then◌else◌, ◌⊎◌, List, [], ◌∷◌, ◌++◌, Ok, Err}
use Rattle.std.specs.List.{prefix_len, list_any, list_all}
use Rattle.yaml_tree.specs.Tree.{At, Tree, Answer, tree, refusal}
use Rattle.yaml_inline.specs.File.{Line, is_forbidden, is_marker, carries}
use Rattle.yaml_inline.specs.Line.{at, Stop, refused, unclosed, Read}
use Rattle.yaml_blocks.specs.Reading.{block_in}
use Rattle.yaml_blocks.specs.Lays.{Lays}
use Rattle.yaml_blocks.specs.Laws.{HasTree}
use Rattle.yaml_blocks.specs.Form.{Stops}

abbrev pub home : At
home = record { line = 1; column = 1 }

-- a line that documents may have: no marker, and no character that is left out
abbrev pub is_regular : Line → Bool
is_regular l = not (is_marker l) && not (list_any is_forbidden l.text)

abbrev pub has_content : List Line → Bool
has_content ls = list_any carries ls

-- the lines carry no content, or are a document
abbrev pub Alive : ℕ → List Line → Type 0
Alive depth ls =
    (has_content ls ≡ false)
    ⊎ ((list_all is_regular ls ≡ true) × HasTree depth home ls)

-- the first line up to which the lines aren't alive
pub record IsRefusedAt (depth : ℕ) (ls front : List Line) (line : Line) (more : List Line) : Type 0 where
  pub lines : ls ≡ front ++ line ∷ more
  pub before : (a b : List Line) → front ≡ a ++ b → Alive depth a
  pub dead : Alive depth (front ++ line ∷ []) → ⊥

-- the closing character stands in a later line
abbrev pub closes_later : ℕ → List Line → Bool
closes_later c ls = list_any (λ l. list_any (λ d. d == c) l.text) ls

abbrev pub syntax_code : Line → ℕ × At
syntax_code l = (4, at l 0)

-- the place lies before the line's first character that is left out
abbrev pub is_before_forbidden : Line → At → Bool
is_before_forbidden l a = nat_le a.column (prefix_len (λ d. not (is_forbidden d)) l.text)

-- the outermost opening whose closing character stands in a later line
abbrev pub first_open : Line → List (At × ℕ) → List Line → ℕ × At
first_open l [] later = syntax_code l
first_open l (x ∷ xs) later =
    if is_before_forbidden l x.0 && closes_later x.1 later then (3, x.0) else first_open l xs later

-- the code of a stop: one that doesn't stand before a character that is left out yields to it
abbrev pub stop_code : Line → List Line → Stop → ℕ × At
stop_code l later (refused c a) = if is_before_forbidden l a then (c, a) else syntax_code l
stop_code l later (unclosed n opens) = first_open l opens later

-- The code and the place with which a line is refused, behind these lines and before those: a marker; what stops
-- the reading; or else a character that is left out.
abbrev pub IsCode : ℕ → List Line → Line → List Line → ℕ × At → Type 0
IsCode depth front l later p =
    ((is_marker l ≡ true) × (p ≡ (3, at l 0)))
    ⊎ ((is_marker l ≡ false) × (s : Stop) × Stops depth (front ++ l ∷ []) s × (p ≡ stop_code l later s))
    ⊎ ((is_marker l ≡ false) × HasTree depth home (front ++ l ∷ []) × (p ≡ syntax_code l))

abbrev pub IsAnswer : ℕ → List Line → Answer → Type 0
IsAnswer depth ls (tree t) = (list_all is_regular ls ≡ true) × Lays t depth home ls
IsAnswer depth ls (refusal p) =
    (front : List Line) × (line : Line) × (more : List Line) × IsRefusedAt depth ls front line more × IsCode depth front line more p

abbrev pub AreAnswers : ℕ → List (List Line) → List Answer → Type 0
AreAnswers depth [] given = given ≡ []
AreAnswers depth (d ∷ ds) given = (a : Answer) × (others : List Answer) × (given ≡ a ∷ others) × IsAnswer depth d a × AreAnswers depth ds others

-- the same as functions: what a reader computes
abbrev pub is_read : Read Tree → Bool
is_read (Ok t) = true
is_read (Err s) = false

abbrev pub is_alive : ℕ → List Line → Bool
is_alive depth ls = not (has_content ls) || (list_all is_regular ls && is_read (block_in depth 0 home ls))

abbrev pub read_code : Line → List Line → Read Tree → ℕ × At
read_code l later (Ok t) = syntax_code l
read_code l later (Err s) = stop_code l later s

abbrev pub code_at : ℕ → List Line → Line → List Line → ℕ × At
code_at depth front l later = if is_marker l then (3, at l 0) else read_code l later (block_in depth 0 home (front ++ l ∷ []))

-- each document with content has an answer
abbrev pub EachAnswered : Type 0
EachAnswered = (depth : ℕ) (ls : List Line) → has_content ls ≡ true → (a : Answer) × IsAnswer depth ls a

-- a document has at most one answer
abbrev pub OneAnswer : Type 0
OneAnswer = (depth : ℕ) (ls : List Line) (a b : Answer) → IsAnswer depth ls a → IsAnswer depth ls b → a ≡ b
