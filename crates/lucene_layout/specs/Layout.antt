-- The text of a query: one space around words, and no other.
use Rattle.std.specs.Prelude.{ℕ, ◌≡◌, Bool, true, false, not, ◌&&◌, ◌==◌, List, [], ◌∷◌, ◌++◌, map, codes, ⊤}
use Rattle.std.specs.List.{list_all, flat_map}
use Rattle.std.specs.Str.{all_scalars}
use Rattle.lucene_lang.specs.declared.query.Word.{Word}
use Rattle.lucene_lang.specs.declared.query.Word.TheVariants.{And, Or}
use Rattle.lucene_lang.specs.declared.written.Written.{Written}
use Rattle.lucene_lang.specs.declared.written.Written.TheVariants.{Bare, Escaped}
use Rattle.lucene_lang.specs.Tokens.{Sort, Joins, Not, Star, Wild, To, Decimal, Plain, Phrase, Opening, Closing, Opens, Closes, Colon, Unclosed, character, is_decimal, run_sort, ends_run}
use Rattle.lucene_lang.specs.Grammar.{Value, a_term, a_phrase, a_range, Leaf, everything, sought, Group, last, joined, Clause, asked, forbidden, Atom, a_leaf, enclosed, spell_name, spell_term, spell_end}

-- ---- tokens

abbrev pub written_piece : Written → List ℕ
written_piece (Bare c) = c ∷ []
written_piece (Escaped c) = 92 ∷ c ∷ []

abbrev pub written : List Written → List ℕ
written w = flat_map written_piece w

abbrev pub word_text : Word → List ℕ
word_text And = codes "AND"
word_text Or = codes "OR"

abbrev pub open_text : Bool → List ℕ
open_text true = codes "["
open_text false = codes "{"

abbrev pub close_text : Bool → List ℕ
close_text true = codes "]"
close_text false = codes "}"

-- what is no token of a query has no text
abbrev pub token_text : Sort → List ℕ
token_text (Joins w) = word_text w
token_text Not = codes "NOT"
token_text Star = codes "*"
token_text (Wild w) = written w
token_text To = codes "TO"
token_text (Decimal w) = w
token_text (Plain w) = written w
token_text (Phrase w) = 34 ∷ (written w ++ 34 ∷ [])
token_text Opening = codes "("
token_text Closing = codes ")"
token_text (Opens b) = open_text b
token_text (Closes b) = close_text b
token_text Colon = codes ":"
token_text Unclosed = []

-- without a backslash a character may stand in a run, and in a phrase
abbrev pub in_run : Written → Bool
in_run (Bare c) = not (ends_run c) && not (c == 92)
in_run (Escaped c) = true

abbrev pub in_phrase : Written → Bool
in_phrase (Bare c) = not (c == 34) && not (c == 92)
in_phrase (Escaped c) = true

abbrev pub is_empty : List Written → Bool
is_empty [] = true
is_empty (x ∷ w) = false

-- characters that are a run, of this sort
pub record IsRunOf (s : Sort) (w : List Written) : Type 0 where
  pub some : is_empty w ≡ false
  pub runs : list_all in_run w ≡ true
  pub scalars : all_scalars (map character w) ≡ true
  pub sorted : run_sort w ≡ s

-- the text of a token is scanned as this token
abbrev pub HasText : Sort → Type 0
HasText (Wild w) = IsRunOf (Wild w) w
HasText (Plain w) = IsRunOf (Plain w) w
HasText (Decimal w) = is_decimal w ≡ true
HasText (Phrase w) = (list_all in_phrase w ≡ true) × (all_scalars (map character w) ≡ true)
HasText Unclosed = ⊥
HasText s = ⊤

abbrev pub EachHasText : List Sort → Type 0
EachHasText [] = ⊤
EachHasText (s ∷ ss) = HasText s × EachHasText ss

-- ---- queries

abbrev pub text_value : Value → List ℕ
text_value (a_term t) = token_text (spell_term t)
text_value (a_phrase w) = token_text (Phrase w)
text_value (a_range b low high c) =
    open_text b ++ (token_text (spell_end low) ++ (codes " TO " ++ (token_text (spell_end high) ++ close_text c)))

abbrev pub text_leaf : Leaf → List ℕ
text_leaf everything = codes "*:*"
text_leaf (sought n v) = token_text (spell_name n) ++ (codes ":" ++ text_value v)

abbrev mutual
  pub text_group : Group → List ℕ
  text_group (last c) = text_clause c
  text_group (joined c w g) = text_clause c ++ (32 ∷ (word_text w ++ 32 ∷ text_group g))

  pub text_clause : Clause → List ℕ
  text_clause (asked a) = text_atom a
  text_clause (forbidden a) = codes "NOT " ++ text_atom a

  pub text_atom : Atom → List ℕ
  text_atom (a_leaf l) = text_leaf l
  text_atom (enclosed g) = codes "(" ++ (text_group g ++ codes ")")
