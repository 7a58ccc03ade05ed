-- What a whole file is answered by: its own refusal, or an answer for each document.
use Rattle.std.specs.Prelude.{◌≡◌, ℕ, suc, ◌<◌, ◌≤◌, true, not, ◌==◌, ◌⊎◌, List, ◌∷◌, ◌++◌, length, take, count_by, encode_utf8_all}
use Rattle.std.specs.List.{suffix_len}
use Rattle.std.specs.Str.{all_scalars, IsValidUpTo}
use Rattle.yaml_tree.specs.Tree.{At, Answer}
use Rattle.yaml_inline.specs.File.{Line, skip_mark, documents_of}
use Rattle.yaml_inline.specs.Line.{at}
use Rattle.yaml_blocks.specs.Blocks.{skip_comments}
use Rattle.yaml_blocks.specs.Documents.{home, AreAnswers}

-- the bytes are these characters in UTF-8 (YAML 1.2, 5.2)
pub record IsText (bytes cs : List ℕ) : Type 0 where
  pub scalars : all_scalars cs ≡ true
  pub encoded : bytes ≡ encode_utf8_all cs

-- The place directly behind these first characters of a file. Lines end with line feeds; a column counts characters,
-- and a first byte order mark is none.
abbrev pub place_behind : List ℕ → At
place_behind cs = record {
  line = suc (count_by (λ c. c == 10) cs);
  column = suc (suffix_len (λ c. not (c == 10)) (skip_mark cs));
}

-- The bytes are no text: the longest text at their front has so many bytes, and the first bad byte stands there, behind it.
pub record IsBadAt (bytes : List ℕ) (a : At) : Type 0 where
  pub count : ℕ
  pub longest : IsValidUpTo bytes count
  pub front : List ℕ
  pub good : IsText (take count bytes) front
  pub place : a ≡ place_behind front

-- The file is too large, or no text.
abbrev pub IsUnreadable : ℕ → List ℕ → ℕ × At → Type 0
IsUnreadable file_bytes bytes p =
    ((file_bytes < length bytes) × (p ≡ (2, home)))
    ⊎ ((length bytes ≤ file_bytes) × (a : At) × IsBadAt bytes a × (p ≡ (1, a)))

-- There are more documents than n, and there the first line with content begins of the first document past them.
pub record IsPastAt (n : ℕ) (documents : List (List Line)) (a : At) : Type 0 where
  pub front : List (List Line)
  pub document : List Line
  pub others : List (List Line)
  pub parts : documents ≡ front ++ document ∷ others
  pub count : length front ≡ n
  pub first : Line
  pub more : List Line
  pub begins : skip_comments document ≡ first ∷ more
  pub place : a ≡ at first 0

abbrev pub IsTooMany : ℕ → List (List Line) → ℕ × At → Type 0
IsTooMany n documents p = (a : At) × IsPastAt n documents a × (p ≡ (7, a))

-- The refusals of a whole file, in their order: 2, 1 and 7.
abbrev pub IsCallRefusal : ℕ → ℕ → List ℕ → ℕ × At → Type 0
IsCallRefusal file_bytes documents bytes p =
    IsUnreadable file_bytes bytes p
    ⊎ ((length bytes ≤ file_bytes) × (cs : List ℕ) × IsText bytes cs × IsTooMany documents (documents_of cs) p)

-- the answers of a file that none of them refuses: one for each document with content, in order
pub record IsTaken (file_bytes documents depth : ℕ) (bytes : List ℕ) (given : List Answer) : Type 0 where
  pub within : length bytes ≤ file_bytes
  pub characters : List ℕ
  pub is_text : IsText bytes characters
  pub few : length (documents_of characters) ≤ documents
  pub answers : AreAnswers depth (documents_of characters) given
