-- The reading of tokens one by one, from the left: what may be going on, and what the next token makes of it.
use Rattle.std.specs.Prelude.{◌≡◌, Bool, true, false, List, [], ◌∷◌, ◌++◌, Option, Some, None, Result, Ok, Err}
use Rattle.lucene_lang.specs.declared.query.Word.{Word}
use Rattle.lucene_lang.specs.Tokens.{Sort, Joins, Not, Star, Wild, To, Decimal, Plain, Phrase, Opening, Closing, Opens, Closes, Colon}
use Rattle.lucene_lang.specs.Grammar.{Name, to, decimal, plain, star, wild, exact, End, unbounded, bound, a_term, a_phrase, a_range, Group, last, joined, Clause, asked, forbidden, everything, sought, Atom, a_leaf, enclosed, spell_group, StopsAt}

-- what was read of one atom
pub data Partial : Type 0 where
  Start : Partial
  Starred : Partial
  StarColon : Partial
  Named : Name → Partial
  Seeking : Name → Partial
  Ranging : Name → (low_in : Bool) → Partial
  Low : Name → (low_in : Bool) → End → Partial
  Upto : Name → (low_in : Bool) → End → Partial
  High : Name → (low_in : Bool) → End → End → Partial
  Complete : Atom → Partial

abbrev pub first : Sort → Option Partial
first Star = Some Starred
first To = Some (Named to)
first (Decimal w) = Some (Named (decimal w))
first (Plain w) = Some (Named (plain w))
first t = None

abbrev pub on_colon : Partial → Sort → Option Partial
on_colon p Colon = Some p
on_colon p t = None

abbrev pub on_star : Partial → Sort → Option Partial
on_star p Star = Some p
on_star p t = None

abbrev pub on_to : Partial → Sort → Option Partial
on_to p To = Some p
on_to p t = None

abbrev pub on_end : (End → Partial) → Sort → Option Partial
on_end go_on Star = Some (go_on unbounded)
on_end go_on (Decimal w) = Some (go_on (bound w))
on_end go_on t = None

abbrev pub on_close : (Bool → Partial) → Sort → Option Partial
on_close go_on (Closes c) = Some (go_on c)
on_close go_on t = None

abbrev pub on_value : Name → Sort → Option Partial
on_value n Star = Some (Complete (a_leaf (sought n (a_term star))))
on_value n (Wild w) = Some (Complete (a_leaf (sought n (a_term (wild w)))))
on_value n To = Some (Complete (a_leaf (sought n (a_term (exact to)))))
on_value n (Decimal w) = Some (Complete (a_leaf (sought n (a_term (exact (decimal w))))))
on_value n (Plain w) = Some (Complete (a_leaf (sought n (a_term (exact (plain w))))))
on_value n (Phrase w) = Some (Complete (a_leaf (sought n (a_phrase w))))
on_value n (Opens b) = Some (Ranging n b)
on_value n t = None

-- what a token makes of an atom that it goes on with
unfoldable pub go_on : Partial → Sort → Option Partial
go_on Start t = first t
go_on Starred t = on_colon StarColon t
go_on StarColon t = on_star (Complete (a_leaf everything)) t
go_on (Named n) t = on_colon (Seeking n) t
go_on (Seeking n) t = on_value n t
go_on (Ranging n b) t = on_end (Low n b) t
go_on (Low n b e) t = on_to (Upto n b e) t
go_on (Upto n b e) t = on_end (High n b e) t
go_on (High n b e f) t = on_close (λ c. Complete (a_leaf (sought n (a_range b e f c)))) t
go_on (Complete a) t = None

-- ---- levels of parentheses

-- a clause and the word behind it
pub record Before : Type 0 where
  pub clause : Clause
  pub word : Word

abbrev pub before : Clause → Word → Before
before c w = record { clause = c; word = w }

-- the clauses before this one at one level, and whether NOT stands before its atom
pub record Level : Type 0 where
  pub clauses : List Before
  pub negated : Bool

abbrev pub level : List Before → Bool → Level
level bs negated = record { clauses = bs; negated = negated }

abbrev pub clause_if : Bool → Atom → Clause
clause_if true a = forbidden a
clause_if false a = asked a

abbrev pub group_with : List Before → Clause → Group
group_with [] c = last c
group_with (b ∷ bs) c = joined b.clause b.word (group_with bs c)

-- the group of a level that ends with this atom
abbrev pub ended : Level → Atom → Group
ended l a = group_with l.clauses (clause_if l.negated a)

pub data State : Type 0 where
  Inside : Partial → Level → List Level → State

abbrev pub close : Group → List Level → Option State
close g [] = None
close g (l ∷ ls) = Some (Inside (Complete (enclosed g)) l ls)

-- after a whole atom
abbrev pub behind : Atom → Level → List Level → Sort → Option State
behind a l ls (Joins w) = Some (Inside Start (level (l.clauses ++ before (clause_if l.negated a) w ∷ []) false) ls)
behind a l ls Closing = close (ended l a) ls
behind a l ls t = None

abbrev pub within : Level → List Level → Option Partial → Option State
within l ls (Some p) = Some (Inside p l ls)
within l ls None = None

abbrev pub on_not : Bool → List Before → List Level → Option State
on_not true bs ls = None
on_not false bs ls = Some (Inside Start (level bs true) ls)

abbrev pub at_start : Level → List Level → Sort → Option State
at_start l ls Not = on_not l.negated l.clauses ls
at_start l ls Opening = Some (Inside Start (level [] false) (l ∷ ls))
at_start l ls t = within l ls (first t)

abbrev pub inside : Partial → Level → List Level → Sort → Option State
inside Start l ls t = at_start l ls t
inside (Complete a) l ls t = behind a l ls t
inside p l ls t = within l ls (go_on p t)

unfoldable pub step : State → Sort → Option State
step (Inside p l ls) t = inside p l ls t

-- the state behind the next token, or what is left where none goes on
abbrev pub on_step : Option State → (State → Result State (List Sort)) → List Sort → Result State (List Sort)
on_step None go_on rest = Err rest
on_step (Some s) go_on rest = go_on s

abbrev pub run : State → List Sort → Result State (List Sort)
run s [] = Ok s
run s (t ∷ ts) = on_step (step s t) (λ u. run u ts) (t ∷ ts)

abbrev pub begun : State
begun = Inside Start (level [] false) []

abbrev pub whole : Partial → Option Atom
whole (Complete a) = Some a
whole p = None

abbrev pub group_if : Option Atom → Level → List Level → Option Group
group_if (Some a) l [] = Some (ended l a)
group_if a l ls = None

-- the query that is read, if it may end here
abbrev pub done : State → Option Group
done (Inside p l ls) = group_if (whole p) l ls

abbrev pub finish : Result State (List Sort) → Result (Option Group) (List Sort)
finish (Ok s) = Ok (done s)
finish (Err rest) = Err rest

-- What a reading answers: the query that the tokens spell, or where they stop being one's, by the tokens that are left.
pub data Ends (ts : List Sort) : Result (Option Group) (List Sort) → Type 0 where
  reads : (q : Group) → spell_group q ≡ ts → Ends ts (Ok (Some q))
  stops_at_end : StopsAt ts ts [] → Ends ts (Ok None)
  stops : (front rest : List Sort) → StopsAt ts front rest → Ends ts (Err rest)
