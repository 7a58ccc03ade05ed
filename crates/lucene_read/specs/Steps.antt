-- The reader's own steps: what was read of a query as the code keeps it, and what the next token makes of it.
use Rattle.std.specs.Prelude.{ℕ, Bool, true, false, not, ◌||◌, if◌then◌else◌, List, [], ◌∷◌, ◌++◌, map, codes, Option, Some, None, Result, Ok, Err}
use Rattle.event_schema.specs.declared.schema.Field.{Field}
use Rattle.query_tokens.specs.Places.{At, origin, CodeAt, code_at}
use Rattle.query_tokens.specs.Tokens.{sorts}
use Rattle.lucene_lang.specs.declared.query.Glyph.TheVariants.{Char, Run}
use Rattle.lucene_lang.specs.declared.query.Word.{Word}
use Rattle.lucene_lang.specs.declared.query.Word.TheVariants.{And}
use Rattle.lucene_lang.specs.Tokens.{Token, Sort, Joins, Not, Star, Wild, To, Decimal, Plain, Phrase, Opening, Closing, Opens, Closes, Colon, character}
use Rattle.lucene_lang.specs.Query as query
use Rattle.lucene_lang.specs.Query.{Group, a_group, Atom, Everything, OfGroup, Term, Range, glyphs}
use Rattle.lucene_lang.specs.View.{Part, part, clauses_of}
use Rattle.lucene_lang.specs.Faults.{is_number, differs, first_word}
use Rattle.lucene_lang.specs.Reading.{first_outside, opens_too_far}
use Rattle.lucene_read.specs.declared.partial.Bound.{Bound}
use Rattle.lucene_read.specs.declared.partial.Bound.TheVariants.{Unbounded}
use Rattle.lucene_read.specs.Known.{known_in, bound_if, bound_number, is_far, number_in, Name, name_at, Leafed, leaf_for}

-- ---- leaves

pub data Partial : Type 0 where
  Start : Partial
  Starred : Partial
  StarColon : Partial
  Named : Name → Partial
  Seeking : Name → Partial
  Ranging : Name → (low_in : Bool) → Partial
  Low : Name → (low_in : Bool) → Bound → Partial
  Upto : Name → (low_in : Bool) → Bound → Partial
  High : Name → (low_in : Bool) → Bound → Bound → Partial

pub data Next : Type 0 where
  partial : Partial → Next
  leaf : Leafed → Next

abbrev pub some_partial : Partial → Option Next
some_partial p = Some (partial p)

abbrev pub some_leaf : Leafed → Option Next
some_leaf l = Some (leaf l)

abbrev pub named : List Field → List ℕ → At → Option Partial
named fields name p = Some (Named (name_at (known_in 0 fields name) p))

abbrev pub first : List Field → Sort → At → Option Partial
first fields Star p = Some Starred
first fields To p = named fields (codes "TO") p
first fields (Decimal w) p = named fields w p
first fields (Plain w) p = named fields (map character w) p
first fields t p = None

abbrev pub on_colon : Partial → Sort → Option Next
on_colon q Colon = some_partial q
on_colon q t = None

abbrev pub on_star : Sort → Option Next
on_star Star = some_leaf (record { atom = Everything; ill = None })
on_star t = None

abbrev pub on_to : Partial → Sort → Option Next
on_to q To = some_partial q
on_to q t = None

abbrev pub bound_of : Sort → Option Bound
bound_of Star = Some Unbounded
bound_of (Decimal w) = Some (bound_if (number_in w))
bound_of t = None

abbrev pub on_low : Name → Bool → Option Bound → Option Next
on_low n b None = None
on_low n b (Some e) = some_partial (Low n b e)

abbrev pub on_high : Name → Bool → Bound → Option Bound → Option Next
on_high n b e None = None
on_high n b e (Some f) = some_partial (High n b e f)

abbrev pub ranged : Name → Bool → Bound → Bound → Bool → Leafed
ranged n b e f c = leaf_for n true (is_far e || is_far f) (Range (bound_number e) b (bound_number f) c)

abbrev pub on_close : Name → Bool → Bound → Bound → Sort → Option Next
on_close n b e f (Closes c) = some_leaf (ranged n b e f c)
on_close n b e f t = None

abbrev pub exact_term : Name → List ℕ → Leafed
exact_term n text = leaf_for n false (not (is_number text)) (Term (map (λ c. Char c) text))

abbrev pub on_value : Name → Sort → Option Next
on_value n Star = some_leaf (leaf_for n false false (Term (Run ∷ [])))
on_value n (Wild w) = some_leaf (leaf_for n false true (Term (glyphs w)))
on_value n To = some_leaf (exact_term n (codes "TO"))
on_value n (Decimal w) = some_leaf (exact_term n w)
on_value n (Plain w) = some_leaf (exact_term n (map character w))
on_value n (Phrase w) = some_leaf (leaf_for n false true (query.Phrase (map character w)))
on_value n (Opens b) = some_partial (Ranging n b)
on_value n t = None

-- what a token makes of a leaf behind its first token
unfoldable pub go_on : Partial → Sort → Option Next
go_on Start t = None
go_on Starred t = on_colon StarColon t
go_on StarColon t = on_star t
go_on (Named n) t = on_colon (Seeking n) t
go_on (Seeking n) t = on_value n t
go_on (Ranging n b) t = on_low n b (bound_of t)
go_on (Low n b e) t = on_to (Upto n b e) t
go_on (Upto n b e) t = on_high n b e (bound_of t)
go_on (High n b e f) t = on_close n b e f t

-- ---- levels of parentheses

pub data Now : Type 0 where
  Reading : Partial → Now
  Whole : Atom → Now

-- the clauses before this one, their word, and whether NOT stands before the atom
pub record Level : Type 0 where
  pub clauses : List Part
  pub word : Option Word
  pub negated : Bool

abbrev pub level : List Part → Option Word → Bool → Level
level cs w negated = record { clauses = cs; word = w; negated = negated }

-- the refusal of the first word that differs from its group's, and that of the first leaf that is ill
pub record Wrong : Type 0 where
  pub mixed : Option CodeAt
  pub ill : Option CodeAt

abbrev pub wrong : Option CodeAt → Option CodeAt → Wrong
wrong m i = record { mixed = m; ill = i }

-- the nearest of the outer levels is the first here
pub record State : Type 0 where
  pub now : Now
  pub level : Level
  pub outer : List Level
  pub wrong : Wrong

abbrev pub state : Now → Level → List Level → Wrong → State
state n l ls w = record { now = n; level = l; outer = ls; wrong = w }

abbrev pub begun : State
begun = state (Reading Start) (level [] None false) [] (wrong None None)

abbrev pub first_of : {A : Type 0} → Option A → Option A → Option A
first_of None b = b
first_of (Some a) b = Some a

abbrev pub mixed_at : Bool → At → Option CodeAt
mixed_at true p = Some (code_at 134 p)
mixed_at false p = None

abbrev pub with_ill : Wrong → Option CodeAt → Wrong
with_ill w i = wrong w.mixed (first_of w.ill i)

abbrev pub with_mixed : Wrong → Bool → At → Wrong
with_mixed w b p = wrong (first_of w.mixed (mixed_at b p)) w.ill

abbrev pub reading_if : Level → List Level → Wrong → Option Partial → Option State
reading_if l ls w None = None
reading_if l ls w (Some p) = Some (state (Reading p) l ls w)

abbrev pub next_if : Level → List Level → Wrong → Option Next → Option State
next_if l ls w None = None
next_if l ls w (Some (partial p)) = Some (state (Reading p) l ls w)
next_if l ls w (Some (leaf a)) = Some (state (Whole a.atom) l ls (with_ill w a.ill))

abbrev pub on_not : Level → List Level → Wrong → Option State
on_not l ls w = if l.negated then None else Some (state (Reading Start) (level l.clauses l.word true) ls w)

abbrev pub at_start : List Field → Level → List Level → Wrong → Sort → At → Option State
at_start fields l ls w Not p = on_not l ls w
at_start fields l ls w Opening p = Some (state (Reading Start) (level [] None false) (l ∷ ls) w)
at_start fields l ls w t p = reading_if l ls w (first fields t p)

abbrev pub word_or_and : Option Word → Word
word_or_and None = And
word_or_and (Some w) = w

-- the group of a level that ends with this atom
abbrev pub ended : Level → Atom → Group
ended l a = a_group (word_or_and l.word) (clauses_of (l.clauses ++ part l.negated a ∷ []))

abbrev pub joint : Atom → Level → Word → Level
joint a l v = level (l.clauses ++ part l.negated a ∷ []) (Some (first_word l.word v)) false

abbrev pub close : Group → List Level → Wrong → Option State
close g [] w = None
close g (l ∷ ls) w = Some (state (Whole (OfGroup g)) l ls w)

-- after a whole atom
abbrev pub behind : Atom → Level → List Level → Wrong → Sort → At → Option State
behind a l ls w (Joins v) p = Some (state (Reading Start) (joint a l v) ls (with_mixed w (differs l.word v) p))
behind a l ls w Closing p = close (ended l a) ls w
behind a l ls w t p = None

abbrev pub inside : List Field → Now → Level → List Level → Wrong → Sort → At → Option State
inside fields (Reading Start) l ls w t p = at_start fields l ls w t p
inside fields (Whole a) l ls w t p = behind a l ls w t p
inside fields (Reading q) l ls w t p = next_if l ls w (go_on q t)

unfoldable pub step : List Field → State → Token → Option State
step fields s t = inside fields s.now s.level s.outer s.wrong t.sort t.place

-- ---- the end

abbrev pub refused : ℕ → At → Result Group CodeAt
refused c p = Err (code_at c p)

-- 134 before 132 and 133
abbrev pub judged : Option CodeAt → Option CodeAt → Group → Result Group CodeAt
judged (Some f) i g = Err f
judged None (Some f) g = Err f
judged None None g = Ok g

-- 130 at the end, where a query can't end
abbrev pub ends : Now → Level → List Level → Wrong → At → Result Group CodeAt
ends (Whole a) l [] w end = judged w.mixed w.ill (ended l a)
ends (Whole a) l (m ∷ ls) w end = refused 130 end
ends (Reading p) l ls w end = refused 130 end

abbrev pub finish : State → At → Result Group CodeAt
finish s end = ends s.now s.level s.outer s.wrong end

-- 130 at the first token with which no query goes on
abbrev pub on_step : Option State → (State → Result Group CodeAt) → At → Result Group CodeAt
on_step None go p = refused 130 p
on_step (Some s) go p = go s

abbrev pub run : List Field → State → List Token → At → Result Group CodeAt
run fields s [] end = finish s end
run fields s (t ∷ ts) end = on_step (step fields s t) (λ u. run fields u ts end) t.place

-- ---- the whole

-- 131 before 135
abbrev pub first_cause : Option At → Bool → Option CodeAt
first_cause (Some p) far = Some (code_at 131 p)
first_cause None true = Some (code_at 135 origin)
first_cause None false = None

-- either before the reading
abbrev pub unless : Option CodeAt → Result Group CodeAt → Result Group CodeAt
unless (Some f) r = Err f
unless None r = r

abbrev pub verdict : ℕ → List Field → List Token → At → Result Group CodeAt
verdict limit fields ts end = unless (first_cause (first_outside false ts) (opens_too_far limit 0 0 (sorts ts))) (run fields begun ts end)
