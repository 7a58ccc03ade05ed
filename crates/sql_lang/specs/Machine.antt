-- The reading of tokens one by one, from the left: what may be going on, and what the next token makes of it.
use Rattle.std.specs.Prelude.{ℕ, zero, suc, ◌≡◌, Bool, true, false, ◌&&◌, if◌then◌else◌, List, [], ◌∷◌, ◌++◌, codes, Option, Some, None, Result, Ok, Err}
use Rattle.std.specs.Str.{bytes_eq}
use Rattle.sql_lang.specs.Tokens.{Keyword, SELECT, FROM, WHERE, OR, AND, NOT, IS, NULL, LIKE, ESCAPE, GLOB, REGEXP, IN, BETWEEN, COLLATE, NOCASE, BINARY, Op, Sort, Word, Name, Text, Number, Opening, Closing, Comma, Star, Semicolon, Compares}
use Rattle.sql_lang.specs.Grammar.{Collate, Unsaid, NoCase, Binary, Literal, a_text, a_number, Right, a_name, a_literal, Leaf, constant, is_null, compares, like, glob, regexp, one_of, between, Ors, last_and, and_or, Ands, last_not, not_and, Nots, not_not, a_test, enclosed, Query, spell_query, StopsAt}

-- what was read of one test
pub data Partial : Type 0 where
  Start : Partial
  Named : (name : List ℕ) → Partial
  Collating : (name : List ℕ) → Partial
  Collated : (name : List ℕ) → Collate → Partial
  Is : (name : List ℕ) → Partial
  IsNot : (name : List ℕ) → Partial
  Against : (name : List ℕ) → Collate → Op → Partial
  Compared : (name : List ℕ) → Collate → Op → Right → Partial
  RightCollating : (name : List ℕ) → Collate → Op → Right → Partial
  NamedNot : (name : List ℕ) → Partial
  CollatedNot : (name : List ℕ) → Collate → Partial
  Liking : (name : List ℕ) → (negated : Bool) → Partial
  Liked : (name : List ℕ) → (negated : Bool) → (pattern : List ℕ) → Partial
  Escaping : (name : List ℕ) → (negated : Bool) → (pattern : List ℕ) → Partial
  Globbing : (name : List ℕ) → (negated : Bool) → Partial
  Searching : (name : List ℕ) → (negated : Bool) → Partial
  Among : (name : List ℕ) → Collate → (negated : Bool) → Partial
  Listing : (name : List ℕ) → Collate → (negated : Bool) → (before : List Literal) → Partial
  Listed : (name : List ℕ) → Collate → (negated : Bool) → (before : List Literal) → Literal → Partial
  Ranging : (name : List ℕ) → Collate → (negated : Bool) → Partial
  Low : (name : List ℕ) → Collate → (negated : Bool) → (low : List ℕ) → Partial
  High : (name : List ℕ) → Collate → (negated : Bool) → (low : List ℕ) → Partial
  Complete : Leaf → Partial
  Closed : Ors → Partial

abbrev pub constant_of : List ℕ → Option Partial
constant_of w = if bytes_eq w (codes "0") then Some (Complete (constant false)) else if bytes_eq w (codes "1") then Some (Complete (constant true)) else None

-- after a name with a COLLATE, and perhaps NOT
abbrev pub in_collated : List ℕ → Collate → Bool → Sort → Option Partial
in_collated n c negated (Word IN) = Some (Among n c negated)
in_collated n c negated (Word BETWEEN) = Some (Ranging n c negated)
in_collated n c negated t = None

-- after a name, and perhaps NOT
abbrev pub in_named : List ℕ → Bool → Sort → Option Partial
in_named n negated (Word LIKE) = Some (Liking n negated)
in_named n negated (Word GLOB) = Some (Globbing n negated)
in_named n negated (Word REGEXP) = Some (Searching n negated)
in_named n negated t = in_collated n Unsaid negated t

abbrev pub named : List ℕ → Sort → Option Partial
named n (Word COLLATE) = Some (Collating n)
named n (Word IS) = Some (Is n)
named n (Word NOT) = Some (NamedNot n)
named n (Compares op) = Some (Against n Unsaid op)
named n t = in_named n false t

abbrev pub collated : List ℕ → Collate → Sort → Option Partial
collated n c (Word NOT) = Some (CollatedNot n c)
collated n c (Compares op) = Some (Against n c op)
collated n c t = in_collated n c false t

abbrev pub collation : (Collate → Partial) → Sort → Option Partial
collation go_on (Word NOCASE) = Some (go_on NoCase)
collation go_on (Word BINARY) = Some (go_on Binary)
collation go_on t = None

abbrev pub is : List ℕ → Sort → Option Partial
is n (Word NOT) = Some (IsNot n)
is n (Word NULL) = Some (Complete (is_null n false))
is n t = None

abbrev pub is_not : List ℕ → Sort → Option Partial
is_not n (Word NULL) = Some (Complete (is_null n true))
is_not n t = None

abbrev pub on_literal : (Literal → Partial) → Sort → Option Partial
on_literal go_on (Text v) = Some (go_on (a_text v))
on_literal go_on (Number w) = Some (go_on (a_number w))
on_literal go_on t = None

abbrev pub against : (Right → Partial) → Sort → Option Partial
against go_on (Name m) = Some (go_on (a_name m))
against go_on t = on_literal (λ l. go_on (a_literal l)) t

abbrev pub on_word : Keyword → Partial → Sort → Option Partial
on_word COLLATE p (Word COLLATE) = Some p
on_word ESCAPE p (Word ESCAPE) = Some p
on_word AND p (Word AND) = Some p
on_word k p t = None

abbrev pub on_text : (List ℕ → Partial) → Sort → Option Partial
on_text go_on (Text v) = Some (go_on v)
on_text go_on t = None

abbrev pub on_number : (List ℕ → Partial) → Sort → Option Partial
on_number go_on (Number w) = Some (go_on w)
on_number go_on t = None

abbrev pub on_opening : Partial → Sort → Option Partial
on_opening p Opening = Some p
on_opening p t = None

abbrev pub listed : List ℕ → Collate → Bool → List Literal → Literal → Sort → Option Partial
listed n c negated ls l Comma = Some (Listing n c negated (ls ++ l ∷ []))
listed n c negated ls l Closing = Some (Complete (one_of n c negated ls l))
listed n c negated ls l t = None

abbrev pub first : Sort → Option Partial
first (Name n) = Some (Named n)
first (Number w) = constant_of w
first t = None

-- what a token makes of a test that it goes on with
unfoldable pub go_on : Partial → Sort → Option Partial
go_on Start t = first t
go_on (Named n) t = named n t
go_on (Collating n) t = collation (Collated n) t
go_on (Collated n c) t = collated n c t
go_on (Is n) t = is n t
go_on (IsNot n) t = is_not n t
go_on (Against n c op) t = against (Compared n c op) t
go_on (Compared n c op x) t = on_word COLLATE (RightCollating n c op x) t
go_on (RightCollating n c op x) t = collation (λ d. Complete (compares n c op x d)) t
go_on (NamedNot n) t = in_named n true t
go_on (CollatedNot n c) t = in_collated n c true t
go_on (Liking n b) t = on_text (Liked n b) t
go_on (Liked n b v) t = on_word ESCAPE (Escaping n b v) t
go_on (Escaping n b v) t = on_text (λ e. Complete (like n b v (Some e))) t
go_on (Globbing n b) t = on_text (λ v. Complete (glob n b v)) t
go_on (Searching n b) t = on_text (λ v. Complete (regexp n b v)) t
go_on (Among n c b) t = on_opening (Listing n c b []) t
go_on (Listing n c b ls) t = on_literal (Listed n c b ls) t
go_on (Listed n c b ls l) t = listed n c b ls l t
go_on (Ranging n c b) t = on_number (Low n c b) t
go_on (Low n c b w) t = on_word AND (High n c b w) t
go_on (High n c b w) t = on_number (λ v. Complete (between n c b w v)) t
go_on (Complete x) t = None
go_on (Closed o) t = None

-- what may end here
abbrev pub whole : Partial → Option Nots
whole (Compared n c op x) = Some (a_test (compares n c op x Unsaid))
whole (Liked n b v) = Some (a_test (like n b v None))
whole (Complete t) = Some (a_test t)
whole (Closed o) = Some (enclosed o)
whole p = None

abbrev pub is_whole : Partial → Bool
is_whole (Compared n c op x) = true
is_whole (Liked n b v) = true
is_whole (Complete t) = true
is_whole (Closed o) = true
is_whole p = false

-- ---- levels of parentheses

-- the pieces before this one at one level: of the or, of the and, and the number of words NOT
pub record Level : Type 0 where
  pub ors : List Ands
  pub ands : List Nots
  pub nots : ℕ

abbrev pub level : List Ands → List Nots → ℕ → Level
level ors ands nots = record { ors = ors; ands = ands; nots = nots }

abbrev pub negated : ℕ → Nots → Nots
negated zero v = v
negated (suc n) v = not_not (negated n v)

abbrev pub and_of : List Nots → Nots → Ands
and_of [] v = last_not v
and_of (n ∷ ns) v = not_and n (and_of ns v)

abbrev pub or_of : List Ands → Ands → Ors
or_of [] a = last_and a
or_of (b ∷ bs) a = and_or b (or_of bs a)

-- the piece of the or, and the whole of the level, that end with v
abbrev pub ands_of : Level → Nots → Ands
ands_of l v = and_of l.ands (negated l.nots v)

abbrev pub ors_of : Level → Nots → Ors
ors_of l v = or_of l.ors (ands_of l v)

pub data State : Type 0 where
  Begun : State
  Selected : State
  Starred : State
  FromWord : State
  Tabled : (table : List ℕ) → State
  Inside : (table : List ℕ) → Partial → Level → List Level → State
  Ended : (table : List ℕ) → Ors → State

abbrev pub close : List ℕ → Ors → List Level → Option State
close table o [] = None
close table o (l ∷ ls) = Some (Inside table (Closed o) l ls)

abbrev pub ends : List ℕ → Ors → List Level → Option State
ends table o [] = Some (Ended table o)
ends table o (l ∷ ls) = None

-- after a whole not, which v is
abbrev pub behind : List ℕ → Nots → Level → List Level → Sort → Option State
behind table v l ls (Word AND) = Some (Inside table Start (level l.ors (l.ands ++ negated l.nots v ∷ []) 0) ls)
behind table v l ls (Word OR) = Some (Inside table Start (level (l.ors ++ ands_of l v ∷ []) [] 0) ls)
behind table v l ls Closing = close table (ors_of l v) ls
behind table v l ls Semicolon = ends table (ors_of l v) ls
behind table v l ls t = None

abbrev pub behind_if : List ℕ → Option Nots → Level → List Level → Sort → Option State
behind_if table None l ls t = None
behind_if table (Some v) l ls t = behind table v l ls t

abbrev pub within : List ℕ → Level → List Level → Option Partial → Option State
within table l ls (Some p) = Some (Inside table p l ls)
within table l ls None = None

abbrev pub at_start : List ℕ → Level → List Level → Sort → Option State
at_start table l ls (Word NOT) = Some (Inside table Start (level l.ors l.ands (suc l.nots)) ls)
at_start table l ls Opening = Some (Inside table Start (level [] [] 0) (l ∷ ls))
at_start table l ls t = within table l ls (first t)

-- the tokens that may stand behind a whole test
abbrev pub is_joint : Sort → Bool
is_joint (Word AND) = true
is_joint (Word OR) = true
is_joint Closing = true
is_joint Semicolon = true
is_joint t = false

abbrev pub started : List ℕ → Partial → Level → List Level → Sort → Option State
started table p l ls t = if is_joint t && is_whole p then behind_if table (whole p) l ls t else within table l ls (go_on p t)

abbrev pub inside : List ℕ → Partial → Level → List Level → Sort → Option State
inside table Start l ls t = at_start table l ls t
inside table p l ls t = started table p l ls t

abbrev pub head_on : Sort → Sort → State → Option State
head_on (Word SELECT) (Word SELECT) s = Some s
head_on (Word FROM) (Word FROM) s = Some s
head_on (Word WHERE) (Word WHERE) s = Some s
head_on Star Star s = Some s
head_on t u s = None

abbrev pub on_table : Sort → Option State
on_table (Name n) = Some (Tabled n)
on_table t = None

unfoldable pub step : State → Sort → Option State
step Begun t = head_on (Word SELECT) t Selected
step Selected t = head_on Star t Starred
step Starred t = head_on (Word FROM) t FromWord
step FromWord t = on_table t
step (Tabled n) t = head_on (Word WHERE) t (Inside n Start (level [] [] 0) [])
step (Inside table p l ls) t = inside table p l ls t
step (Ended table o) t = None

-- the state behind the next token, or what is left where none goes on
abbrev pub on_step : Option State → (State → Result State (List Sort)) → List Sort → Result State (List Sort)
on_step None go_on rest = Err rest
on_step (Some s) go_on rest = go_on s

abbrev pub run : State → List Sort → Result State (List Sort)
run s [] = Ok s
run s (t ∷ ts) = on_step (step s t) (λ u. run u ts) (t ∷ ts)

abbrev pub query_if : List ℕ → Option Nots → Level → List Level → Option Query
query_if table (Some v) l [] = Some (record { table = table; condition = ors_of l v; ends = false })
query_if table v l ls = None

-- the query that is read, if it may end here
abbrev pub done : State → Option Query
done (Inside table p l ls) = query_if table (whole p) l ls
done (Ended table o) = Some (record { table = table; condition = o; ends = true })
done s = None

abbrev pub finish : Result State (List Sort) → Result (Option Query) (List Sort)
finish (Ok s) = Ok (done s)
finish (Err rest) = Err rest

-- What a reading answers: the query that the tokens spell, or where they stop being one's, by the tokens that are left.
pub data Ends (ts : List Sort) : Result (Option Query) (List Sort) → Type 0 where
  reads : (q : Query) → spell_query q ≡ ts → Ends ts (Ok (Some q))
  stops_at_end : StopsAt ts ts [] → Ends ts (Ok None)
  stops : (front rest : List Sort) → StopsAt ts front rest → Ends ts (Err rest)
