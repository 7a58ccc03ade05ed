-- Which text is which query under a schema, and which refusal comes first.
use Rattle.std.specs.Prelude.{ℕ, suc, ◌≡◌, ◌≤◌, ◌<◌, ◌+◌, Bool, true, false, ◌||◌, nat_lt, if◌then◌else◌, List, [], ◌∷◌, length, Option, Some, None, encode_utf8_all}
use Rattle.std.specs.Str.{all_scalars}
use Rattle.query_tokens.specs.Places.{At, origin, IsText, IsBadAt, CodeAt, code_at}
use Rattle.sql_lang.specs.Tokens.{Token, Sort, Word, Opening, Closing, Other, NOT, tokens}
use Rattle.query_tokens.specs.Tokens.{sorts, places, token_place}
use Rattle.sql_lang.specs.Grammar.{Query, spell_query, StopsAt}
use Rattle.event_schema.specs.declared.schema.Schema.{Schema}
use Rattle.sql_lang.specs.Expression.{Expr, or_expr, depth}
use Rattle.query_lang.specs.RefusedPlaces.{is_of_pattern}
use Rattle.sql_lang.specs.Faults.{is_refused, query_faults}

-- These characters are a query of this schema with this expression: their tokens spell it, its names are the schema's,
-- its operands are of fitting kinds, and its patterns are written right. Regular expressions are taken as they are.
pub record SqlReads (schema : Schema) (characters : List ℕ) (e : Expr) : Type 0 where
  pub query : Query
  pub spelled : spell_query query ≡ sorts (tokens characters)
  pub faultless : query_faults schema [] query (places (tokens characters)) ≡ []
  pub means : e ≡ or_expr schema.fields query.condition

-- these bytes are UTF-8 characters whose tokens are a query of this schema with this expression
pub record Reads (schema : Schema) (bytes : List ℕ) (e : Expr) : Type 0 where
  pub characters : List ℕ
  pub scalars : all_scalars characters ≡ true
  pub encoded : bytes ≡ encode_utf8_all characters
  pub reads : SqlReads schema characters e

-- ---- limits

-- Up to some token the signs ( are more than the signs ) by more than the limit: so many opened and closed before these.
unfoldable pub opens_too_far : ℕ → ℕ → ℕ → List Sort → Bool
opens_too_far limit opened closed [] = false
opens_too_far limit opened closed (Opening ∷ ts) = nat_lt (closed + limit) (suc opened) || opens_too_far limit (suc opened) closed ts
opens_too_far limit opened closed (Closing ∷ ts) = opens_too_far limit opened (suc closed) ts
opens_too_far limit opened closed (t ∷ ts) = opens_too_far limit opened closed ts

-- more than the limit of words NOT follow one another directly, of which there are n right before these
unfoldable pub nots_too_many : ℕ → ℕ → List Sort → Bool
nots_too_many limit n [] = false
nots_too_many limit n (Word NOT ∷ ts) = nat_lt limit (suc n) || nots_too_many limit (suc n) ts
nots_too_many limit n (t ∷ ts) = nots_too_many limit 0 ts

abbrev pub nests_too_far : ℕ → List Sort → Bool
nests_too_far limit ts = opens_too_far limit 0 0 ts || nots_too_many limit 0 ts

-- a query within the limit of depth
pub record ReadsWithin (limit : ℕ) (schema : Schema) (characters : List ℕ) (e : Expr) : Type 0 where
  pub reads : SqlReads schema characters e
  pub nests : nests_too_far limit (sorts (tokens characters)) ≡ false
  pub deep : depth e ≤ limit

-- ---- the first refusal of characters that are no query within the limit, or of which a regular expression is refused

-- a refusal at a place of this list, with 47 or 48
abbrev pub IsRefusedPlace : List CodeAt → CodeAt → Type 0
IsRefusedPlace refused f = (is_refused refused f.code f.place ≡ true) × (is_of_pattern f.code ≡ true)

abbrev pub is_other : Sort → Bool
is_other Other = true
is_other s = false

-- the first token that is none of the language's
abbrev pub first_other : List Token → Option At
first_other [] = None
first_other (t ∷ ts) = if is_other t.sort then Some t.place else first_other ts

-- In this order: 121, a token that is none; 124, parentheses or words NOT that nest too far; 120, the place where the
-- tokens stop being a query's; 124, an expression too deep; 122, 123, 125, 47 and 48, the first of the query's faults, where
-- these places are refused for their regular expressions.
pub data Refuses (limit : ℕ) (schema : Schema) (refused : List CodeAt) (cs : List ℕ) (f : CodeAt) : Type 0 where
  no_token : (place : At) → first_other (tokens cs) ≡ Some place → f ≡ code_at 121 place → Refuses limit schema refused cs f
  nested : first_other (tokens cs) ≡ None → nests_too_far limit (sorts (tokens cs)) ≡ true → f ≡ code_at 124 origin → Refuses limit schema refused cs f
  stopped : (front rest : List Sort) → first_other (tokens cs) ≡ None → nests_too_far limit (sorts (tokens cs)) ≡ false
      → StopsAt (sorts (tokens cs)) front rest → f ≡ code_at 120 (token_place cs (tokens cs) (length front)) → Refuses limit schema refused cs f
  deep : (q : Query) → first_other (tokens cs) ≡ None → nests_too_far limit (sorts (tokens cs)) ≡ false
      → spell_query q ≡ sorts (tokens cs) → limit < depth (or_expr schema.fields q.condition)
      → f ≡ code_at 124 origin → Refuses limit schema refused cs f
  faulty : (q : Query) → first_other (tokens cs) ≡ None → nests_too_far limit (sorts (tokens cs)) ≡ false
      → spell_query q ≡ sorts (tokens cs) → depth (or_expr schema.fields q.condition) ≤ limit
      → (more : List CodeAt) → query_faults schema refused q (places (tokens cs)) ≡ f ∷ more → Refuses limit schema refused cs f

-- ---- the same of bytes

-- bytes that are UTF-8, and a query within the limit
pub record BytesRead (limit : ℕ) (schema : Schema) (bytes : List ℕ) (e : Expr) : Type 0 where
  pub characters : List ℕ
  pub text : IsText bytes characters
  pub reads : ReadsWithin limit schema characters e

-- 1 where the bytes stop being UTF-8; else the first refusal of their characters
pub data BytesRefused (limit : ℕ) (schema : Schema) (refused : List CodeAt) (bytes : List ℕ) (f : CodeAt) : Type 0 where
  no_text : (place : At) → IsBadAt bytes place → f ≡ code_at 1 place → BytesRefused limit schema refused bytes f
  no_query : (characters : List ℕ) → IsText bytes characters → Refuses limit schema refused characters f → BytesRefused limit schema refused bytes f
