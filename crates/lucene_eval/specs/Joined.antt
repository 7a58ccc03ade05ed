-- The clauses of a group, each with whether it holds.
use Rattle.std.specs.Prelude.{Bool, not, ◌&&◌, List, if◌then◌else◌}
use Rattle.event_schema.specs.declared.value.Value.{Value}
use Rattle.lucene_lang.specs.Meaning.{atom_holds}
use Rattle.lucene_lang.specs.View.{Part}

abbrev pub is_asked : Part → Bool
is_asked c = not c.negated

module _ (row : List (List Value)) where
  -- a clause without NOT holds, and one with NOT doesn't
  abbrev pub agrees : Part → Bool
  agrees c = if c.negated then not (atom_holds row c.atom) else atom_holds row c.atom

  -- a clause with NOT, or without, whose atom holds
  abbrev pub is_hit : Bool → Part → Bool
  is_hit negated c = (if negated then c.negated else not c.negated) && atom_holds row c.atom
