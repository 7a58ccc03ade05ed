-- Clauses of a group that are so: the words in which the laws of selection speak.
use Rattle.std.specs.Prelude.{◌≡◌, ◌⊎◌, ⊤, Bool}
use Rattle.lucene_lang.specs.Query.{Clauses, no_clauses, a_clause, Atom}

-- each clause with NOT, or each without, has such an atom
abbrev pub EachClause : (negated : Bool) → (Atom → Type 0) → Clauses → Type 0
EachClause negated P no_clauses = ⊤
EachClause negated P (a_clause n a cs) = (n ≡ negated → P a) × EachClause negated P cs

-- some clause with NOT, or some without, has
abbrev pub SomeClause : (negated : Bool) → (Atom → Type 0) → Clauses → Type 0
SomeClause negated P no_clauses = ⊥
SomeClause negated P (a_clause n a cs) = ((n ≡ negated) × P a) ⊎ SomeClause negated P cs
