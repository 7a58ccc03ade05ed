-- The text of a query: one space between tokens, and none inside parentheses.
use Rattle.std.specs.Prelude.{ℕ, Bool, true, false, ◌&&◌, ◌==◌, if◌then◌else◌, List, [], ◌∷◌, ◌++◌, codes}
use Rattle.std.specs.List.{list_all}
use Rattle.std.specs.Str.{all_scalars}
use Rattle.sql_lang.specs.Tokens.{Keyword, SELECT, FROM, WHERE, OR, AND, NOT, IS, NULL, LIKE, ESCAPE, GLOB, REGEXP, IN, BETWEEN, COLLATE, NOCASE, BINARY, Op, Eq, Ne, Lt, Lte, Gt, Gte, Sort, Word, Name, Text, Number, Opening, Closing, Comma, Star, Semicolon, Compares, Unclosed, Other, is_number, is_plain}
use Rattle.sql_lang.specs.Grammar.{Ors, last_and, and_or, Ands, last_not, not_and, Nots, not_not, a_test, enclosed, Query, spell_test, spell_head, spell_query}

-- ---- tokens

-- a quote inside is doubled
abbrev pub doubled : ℕ → List ℕ → List ℕ
doubled quote [] = []
doubled quote (c ∷ cs) = if c == quote then quote ∷ quote ∷ doubled quote cs else c ∷ doubled quote cs

abbrev pub in_quotes : ℕ → List ℕ → List ℕ
in_quotes quote cs = quote ∷ (doubled quote cs ++ quote ∷ [])

abbrev pub keyword_text : Keyword → List ℕ
keyword_text SELECT = codes "SELECT"
keyword_text FROM = codes "FROM"
keyword_text WHERE = codes "WHERE"
keyword_text OR = codes "OR"
keyword_text AND = codes "AND"
keyword_text NOT = codes "NOT"
keyword_text IS = codes "IS"
keyword_text NULL = codes "NULL"
keyword_text LIKE = codes "LIKE"
keyword_text ESCAPE = codes "ESCAPE"
keyword_text GLOB = codes "GLOB"
keyword_text REGEXP = codes "REGEXP"
keyword_text IN = codes "IN"
keyword_text BETWEEN = codes "BETWEEN"
keyword_text COLLATE = codes "COLLATE"
keyword_text NOCASE = codes "NOCASE"
keyword_text BINARY = codes "BINARY"

abbrev pub op_text : Op → List ℕ
op_text Eq = codes "="
op_text Ne = codes "<>"
op_text Lt = codes "<"
op_text Lte = codes "<="
op_text Gt = codes ">"
op_text Gte = codes ">="

-- what is no token of the language has no text
abbrev pub token_text : Sort → List ℕ
token_text (Word k) = keyword_text k
token_text (Name n) = in_quotes 34 n
token_text (Text t) = in_quotes 39 t
token_text (Number w) = w
token_text Opening = codes "("
token_text Closing = codes ")"
token_text Comma = codes ","
token_text Star = codes "*"
token_text Semicolon = codes ";"
token_text (Compares op) = op_text op
token_text Unclosed = []
token_text Other = []

-- a name and a text of characters, the text without U+0000, a number that is one, and every other token of the language
abbrev pub has_text : Sort → Bool
has_text (Name n) = all_scalars n
has_text (Text t) = all_scalars t && is_plain t
has_text (Number w) = is_number w
has_text Unclosed = false
has_text Other = false
has_text t = true

-- with one space between
abbrev pub spaced : List Sort → List ℕ
spaced [] = []
spaced (t ∷ []) = token_text t
spaced (t ∷ u ∷ ts) = token_text t ++ 32 ∷ spaced (u ∷ ts)

-- ---- queries

abbrev mutual
  pub text_or : Ors → List ℕ
  text_or (last_and a) = text_and a
  text_or (and_or a o) = text_and a ++ (codes " OR " ++ text_or o)

  pub text_and : Ands → List ℕ
  text_and (last_not n) = text_not n
  text_and (not_and n a) = text_not n ++ (codes " AND " ++ text_and a)

  pub text_not : Nots → List ℕ
  text_not (not_not n) = codes "NOT " ++ text_not n
  text_not (a_test t) = spaced (spell_test t)
  text_not (enclosed o) = codes "(" ++ (text_or o ++ codes ")")

abbrev pub text_end : Bool → List ℕ
text_end false = []
text_end true = codes ";"

abbrev pub text_query : Query → List ℕ
text_query q = spaced (spell_head q.table) ++ (codes " " ++ (text_or q.condition ++ text_end q.ends))

-- each of its tokens has a text
abbrev pub is_writable : Query → Bool
is_writable q = list_all has_text (spell_query q)
