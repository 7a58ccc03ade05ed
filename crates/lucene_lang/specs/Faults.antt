-- What is left out of the language, and what is wrong with a query's words, names and kinds, in the order of the text.
use Rattle.std.specs.Prelude.{ℕ, zero, suc, ◌^◌, Bool, true, false, not, ◌&&◌, ◌||◌, ◌==◌, nat_lt, List, [], ◌∷◌, ◌++◌, length, drop, Option, Some, None}
use Rattle.std.specs.List.{list_any}
use Rattle.sig_base.specs.Digits.{unsigned, digits_from}
use Rattle.event_schema.specs.declared.schema.Field.{Field}
use Rattle.event_schema.specs.declared.schema.FieldKind.{FieldKind}
use Rattle.event_schema.specs.declared.schema.FieldKind.TheVariants as kinds
use Rattle.event_schema.specs.declared.schema.Schema.{Schema}
use Rattle.query_tokens.specs.Places.{At, CodeAt, code_at, code_at_if, nth}
use Rattle.lucene_lang.specs.declared.query.Word.{Word}
use Rattle.lucene_lang.specs.declared.query.Word.TheVariants.{And, Or}
use Rattle.lucene_lang.specs.declared.written.Written.{Written}
use Rattle.lucene_lang.specs.declared.written.Written.TheVariants.{Bare, Escaped}
use Rattle.lucene_lang.specs.Tokens.{Sort, Wild, Decimal, Plain, Phrase, Opens, Closes, is_decimal}
use Rattle.lucene_lang.specs.Grammar.{star, wild, exact, End, unbounded, bound, Value, a_term, a_phrase, a_range, Group, last, joined, Clause, asked, forbidden, Leaf, everything, sought, Atom, a_leaf, enclosed, spell_clause}
use Rattle.lucene_lang.specs.Query.{name_text, FieldName, found_in}

-- ---- what is left out of the language

-- & | ! ^ ~ and /
abbrev pub is_operator : ℕ → Bool
is_operator c = c == 38 || c == 124 || c == 33 || c == 94 || c == 126 || c == 47

-- u behind a backslash
abbrev pub is_unicode : Written → Bool
is_unicode (Bare c) = false
is_unicode (Escaped c) = c == 117

-- an operator without a backslash, or u behind one
abbrev pub is_left_out : Written → Bool
is_left_out (Bare c) = is_operator c
is_left_out (Escaped c) = c == 117

abbrev pub is_plus_or_minus : ℕ → Bool
is_plus_or_minus c = c == 43 || c == 45

-- + or - without a backslash at the start
abbrev pub begins_signed : List Written → Bool
begins_signed [] = false
begins_signed (Bare c ∷ w) = is_plus_or_minus c
begins_signed (Escaped c ∷ w) = false

abbrev pub begins_minus : List ℕ → Bool
begins_minus [] = false
begins_minus (c ∷ w) = c == 45

-- a run may begin with a sign inside the brackets of a range alone
abbrev pub is_outside : Bool → Sort → Bool
is_outside ranged (Wild w) = list_any is_left_out w || not ranged && begins_signed w
is_outside ranged (Plain w) = list_any is_left_out w || not ranged && begins_signed w
is_outside ranged (Decimal w) = not ranged && begins_minus w
is_outside ranged (Phrase w) = list_any is_unicode w
is_outside ranged s = false

-- Behind a token, whether that is inside the brackets of a range: the last bracket is an opening one.
abbrev pub ranged_behind : Bool → Sort → Bool
ranged_behind ranged (Opens b) = true
ranged_behind ranged (Closes b) = false
ranged_behind ranged s = ranged

-- ---- words

abbrev pub differs : Option Word → Word → Bool
differs None w = false
differs (Some And) And = false
differs (Some And) Or = true
differs (Some Or) And = true
differs (Some Or) Or = false

abbrev pub first_word : Option Word → Word → Word
first_word None w = w
first_word (Some v) w = v

-- of a piece whose tokens stand at these places: each word that differs from the first of its group, from the left
abbrev mutual
  pub group_mixed : Option Word → Group → List At → List CodeAt
  group_mixed v (last c) ps = clause_mixed c ps
  group_mixed v (joined c w g) ps =
      clause_mixed c ps ++ (code_at_if (differs v w) 134 (nth ps (length (spell_clause c)))
      ++ group_mixed (Some (first_word v w)) g (drop (suc (length (spell_clause c))) ps))

  pub clause_mixed : Clause → List At → List CodeAt
  clause_mixed (asked a) ps = atom_mixed a ps
  clause_mixed (forbidden a) ps = atom_mixed a (drop 1 ps)

  pub atom_mixed : Atom → List At → List CodeAt
  atom_mixed (a_leaf l) ps = []
  atom_mixed (enclosed g) ps = group_mixed None g (drop 1 ps)

-- ---- names and kinds

-- from -(2^63 - 1) to 2^63 - 1
abbrev pub in_bounds : List ℕ → Bool
in_bounds w = nat_lt (digits_from 0 (unsigned w)) (2 ^ 63)

abbrev pub end_in_bounds : End → Bool
end_in_bounds unbounded = true
end_in_bounds (bound w) = in_bounds w

-- a canonical decimal in bounds
unfoldable pub is_number : List ℕ → Bool
is_number w = is_decimal w && in_bounds w

abbrev pub is_whole : FieldKind → Bool
is_whole kinds.Text = false
is_whole kinds.Whole = true
is_whole kinds.Address = false

-- A field of whole numbers takes the term *, whole numbers and ranges of whole numbers; any other takes terms and phrases.
abbrev pub is_ill : (whole : Bool) → Value → Bool
is_ill true (a_term star) = false
is_ill true (a_term (wild w)) = true
is_ill true (a_term (exact n)) = not (is_number (name_text n))
is_ill true (a_phrase w) = true
is_ill true (a_range b low high c) = not (end_in_bounds low && end_in_bounds high)
is_ill false (a_term t) = false
is_ill false (a_phrase w) = false
is_ill false (a_range b low high c) = true

-- field k is of whole numbers
abbrev pub is_whole_at : List Field → ℕ → Bool
is_whole_at [] k = false
is_whole_at (field ∷ fields) zero = is_whole field.kind
is_whole_at (field ∷ fields) (suc k) = is_whole_at fields k

module _ (fields : List Field) where
  -- at a field's name: no name of the schema's, or else a value that its kind doesn't take
  abbrev pub found_faults : Option FieldName → Value → At → List CodeAt
  found_faults None v p = code_at 132 p ∷ []
  found_faults (Some f) v p = code_at_if (is_ill (is_whole_at fields f.field) v) 133 p

  abbrev pub leaf_faults : Leaf → List At → List CodeAt
  leaf_faults everything ps = []
  leaf_faults (sought n v) ps = found_faults (found_in fields (name_text n)) v (nth ps 0)

  -- of a piece whose tokens stand at these places: its parts' faults, from the left
  abbrev mutual
    pub group_faults : Group → List At → List CodeAt
    group_faults (last c) ps = clause_faults c ps
    group_faults (joined c w g) ps = clause_faults c ps ++ group_faults g (drop (suc (length (spell_clause c))) ps)

    pub clause_faults : Clause → List At → List CodeAt
    clause_faults (asked a) ps = atom_faults a ps
    clause_faults (forbidden a) ps = atom_faults a (drop 1 ps)

    pub atom_faults : Atom → List At → List CodeAt
    atom_faults (a_leaf l) ps = leaf_faults l ps
    atom_faults (enclosed g) ps = group_faults g (drop 1 ps)

-- of a query whose tokens stand at these places: each 134 before each 132 and 133
abbrev pub query_faults : Schema → Group → List At → List CodeAt
query_faults schema g ps = group_mixed None g ps ++ group_faults schema.fields g ps
