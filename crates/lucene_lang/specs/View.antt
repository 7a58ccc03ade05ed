-- The query that a value of the code's types is.
use Rattle.std.specs.Prelude.{Bool, List, [], ◌∷◌, map}
use Rattle.lucene_lang.specs.declared.query.Group.{Group}
use Rattle.lucene_lang.specs.declared.query.Clause.{Clause}
use Rattle.lucene_lang.specs.declared.query.Atom.{Atom}
use Rattle.lucene_lang.specs.declared.query.Atom.TheOpen.{Group-F, Clause-F, Atom-F}
use Rattle.lucene_lang.specs.declared.query.Atom.TheFolds.{fold-Group, fold-Clause, fold-Atom}
use Rattle.lucene_lang.specs.declared.query.Sought.{Sought}
use Rattle.lucene_lang.specs.declared.query.Sought.TheVariants as values
use Rattle.lucene_lang.specs.Query as query
use Rattle.lucene_lang.specs.Query.{a_group, Clauses, no_clauses, a_clause, Everything, OfGroup, OfField}

-- a clause by its parts: its atom, with NOT or without
pub record Part : Type 0 where
  pub negated : Bool
  pub atom : query.Atom

abbrev pub part : Bool → query.Atom → Part
part negated atom = record { negated = negated; atom = atom }

abbrev pub clauses_of : List Part → Clauses
clauses_of [] = no_clauses
clauses_of (p ∷ ps) = a_clause p.negated p.atom (clauses_of ps)

abbrev pub sought_view : Sought → query.Sought
sought_view (values.Term gs) = query.Term gs
sought_view (values.Phrase t) = query.Phrase t
sought_view (values.Range low low_in high high_in) = query.Range low low_in high high_in

-- one level, with each part inside already seen
abbrev pub group_step : Group-F query.Atom Part query.Group → query.Group
group_step g = a_group g.word (clauses_of g.clauses.items)

abbrev pub clause_step : Clause-F query.Atom Part query.Group → Part
clause_step c = part c.negated c.atom

abbrev pub atom_step : Atom-F query.Atom Part query.Group → query.Atom
atom_step Atom-F.Everything = Everything
atom_step (Atom-F.Group g) = OfGroup g
atom_step (Atom-F.Field k cased s) = OfField k cased (sought_view s)

abbrev pub group_view : Group → query.Group
group_view = fold-Group query.Atom Part query.Group atom_step clause_step group_step

abbrev pub clause_view : Clause → Part
clause_view = fold-Clause query.Atom Part query.Group atom_step clause_step group_step

abbrev pub atom_view : Atom → query.Atom
atom_view = fold-Atom query.Atom Part query.Group atom_step clause_step group_step

abbrev pub parts_view : List Clause → List Part
parts_view cs = map clause_view cs
