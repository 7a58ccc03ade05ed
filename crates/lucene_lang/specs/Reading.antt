-- Which text is which query under a schema, which bytes are, and which refusal comes first.
use Rattle.std.specs.Prelude.{ℕ, suc, ◌≡◌, ◌+◌, Bool, true, false, ◌||◌, nat_lt, if◌then◌else◌, List, [], ◌∷◌, length, Option, Some, None, encode_utf8_all}
use Rattle.std.specs.Str.{all_scalars}
use Rattle.event_schema.specs.declared.schema.Schema.{Schema}
use Rattle.query_tokens.specs.Places.{At, origin, IsText, IsBadAt, CodeAt, code_at}
use Rattle.query_tokens.specs.Tokens.{sorts, places, token_place}
use Rattle.lucene_lang.specs.Tokens.{Token, Sort, Opening, Closing, tokens}
use Rattle.lucene_lang.specs.Grammar as grammar
use Rattle.lucene_lang.specs.Grammar.{spell_group, StopsAt}
use Rattle.lucene_lang.specs.Query.{Group, group_of}
use Rattle.lucene_lang.specs.Faults.{is_outside, ranged_behind, query_faults}

-- the first token that is left out of the language; the flag says that it stands inside the brackets of a range
abbrev pub first_outside : Bool → List Token → Option At
first_outside ranged [] = None
first_outside ranged (t ∷ ts) = if is_outside ranged t.sort then Some t.place else first_outside (ranged_behind ranged t.sort) ts

-- These characters are this query of this schema: none of their tokens is left out, their tokens spell it, each group has one
-- word, its names are the schema's, and its values are of fitting kinds.
pub record LuceneReads (schema : Schema) (characters : List ℕ) (g : Group) : Type 0 where
  pub query : grammar.Group
  pub inside : first_outside false (tokens characters) ≡ None
  pub spelled : spell_group query ≡ sorts (tokens characters)
  pub faultless : query_faults schema query (places (tokens characters)) ≡ []
  pub means : g ≡ group_of schema.fields query

-- these bytes are UTF-8 characters that are a query of this schema
pub record Reads (schema : Schema) (bytes : List ℕ) (g : Group) : Type 0 where
  pub characters : List ℕ
  pub scalars : all_scalars characters ≡ true
  pub encoded : bytes ≡ encode_utf8_all characters
  pub reads : LuceneReads schema characters g

-- ---- limits

-- Up to some token the signs ( are more than the signs ) by more than the limit: so many opened and closed before these.
unfoldable pub opens_too_far : ℕ → ℕ → ℕ → List Sort → Bool
opens_too_far limit opened closed [] = false
opens_too_far limit opened closed (Opening ∷ ts) = nat_lt (closed + limit) (suc opened) || opens_too_far limit (suc opened) closed ts
opens_too_far limit opened closed (Closing ∷ ts) = opens_too_far limit opened (suc closed) ts
opens_too_far limit opened closed (t ∷ ts) = opens_too_far limit opened closed ts

-- a query within the limit of parentheses
pub record ReadsWithin (limit : ℕ) (schema : Schema) (characters : List ℕ) (g : Group) : Type 0 where
  pub reads : LuceneReads schema characters g
  pub nests : opens_too_far limit 0 0 (sorts (tokens characters)) ≡ false

-- ---- the first refusal of characters that are no query within the limit

-- In this order: 131, a token that is left out; 135, parentheses that nest too far; 130, the place where the tokens stop
-- being a query's; 134, a group with both words; 132 and 133, the first of the query's names and kinds.
pub data Refuses (limit : ℕ) (schema : Schema) (cs : List ℕ) (f : CodeAt) : Type 0 where
  left_out : (place : At) → first_outside false (tokens cs) ≡ Some place → f ≡ code_at 131 place → Refuses limit schema cs f
  nested : first_outside false (tokens cs) ≡ None → opens_too_far limit 0 0 (sorts (tokens cs)) ≡ true → f ≡ code_at 135 origin
      → Refuses limit schema cs f
  stopped : (front rest : List Sort) → first_outside false (tokens cs) ≡ None → opens_too_far limit 0 0 (sorts (tokens cs)) ≡ false
      → StopsAt (sorts (tokens cs)) front rest → f ≡ code_at 130 (token_place cs (tokens cs) (length front)) → Refuses limit schema cs f
  faulty : (q : grammar.Group) → first_outside false (tokens cs) ≡ None → opens_too_far limit 0 0 (sorts (tokens cs)) ≡ false
      → spell_group q ≡ sorts (tokens cs) → (more : List CodeAt) → query_faults schema q (places (tokens cs)) ≡ f ∷ more
      → Refuses limit schema cs f

-- ---- the same of bytes

-- bytes that are UTF-8, and a query within the limit
pub record BytesRead (limit : ℕ) (schema : Schema) (bytes : List ℕ) (g : Group) : Type 0 where
  pub characters : List ℕ
  pub text : IsText bytes characters
  pub reads : ReadsWithin limit schema characters g

-- 1 where the bytes stop being UTF-8; else the first refusal of their characters
pub data BytesRefused (limit : ℕ) (schema : Schema) (bytes : List ℕ) (f : CodeAt) : Type 0 where
  no_text : (place : At) → IsBadAt bytes place → f ≡ code_at 1 place → BytesRefused limit schema bytes f
  no_query : (characters : List ℕ) → IsText bytes characters → Refuses limit schema characters f → BytesRefused limit schema bytes f
