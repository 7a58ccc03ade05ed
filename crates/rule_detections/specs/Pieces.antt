-- What the reader of keys sees of a key.
use Rattle.std.specs.Prelude.{ℕ, ◌≡◌, ◌+◌, List, [], ◌∷◌, length, Some, None}
use Rattle.std.specs.Borrow.{Bor}
use Rattle.std.specs.Str.{chars}
use Rattle.std.specs.declared.option.Option.{Option}
use Rattle.rule_detections.specs.Keys.{pieces, name_in, words_in, is_keyword_key}
use Rattle.rule_detections.specs.declared.keys.Key.{Key}

-- the texts around each `|`
abbrev pub all_pieces : List ℕ → List (List ℕ)
all_pieces text = (pieces text).0 ∷ (pieces text).1

-- the texts of what stands behind a `|`, where there is one
abbrev pub pieces_behind : Option (Bor (List ℕ)) → List (List ℕ)
pieces_behind None = []
pieces_behind (Some rest) = all_pieces (chars rest.now)

-- how many bytes stand behind a `|`, that one counted
abbrev pub left_in : Option (Bor (List ℕ)) → ℕ
left_in None = 0
left_in (Some rest) = length rest.now + 1

-- the parts of a key
pub record IsKey (key : List ℕ) (k : Key) : Type 0 where
  pub name : k.name ≡ name_in key
  pub words : k.words ≡ words_in key
  pub keyword : k.keyword ≡ is_keyword_key key
