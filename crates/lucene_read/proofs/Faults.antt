-- The faults of a query are 132, 133 and 134, so none is of a regular expression.
use Rattle.std.proofs.Common.{◌≡◌, refl, Bool, true, false, List, [], ◌∷◌, ◌++◌, length}
use Rattle.std.specs.Prelude.{suc, drop, Option, Some, None}
use Rattle.event_schema.specs.Lists.{EachOf}
use Rattle.event_schema.specs.declared.schema.Field.{Field}
use Rattle.event_schema.specs.declared.schema.Schema.{Schema}
use Rattle.query_tokens.specs.Places.{At, CodeAt, code_at_if, nth}
use Rattle.query_lang.specs.RefusedPlaces.{is_of_pattern}
use Rattle.lucene_lang.specs.declared.query.Word.{Word}
use Rattle.lucene_lang.specs.Query.{FieldName, found_in, name_text}
use Rattle.lucene_lang.specs.Grammar.{Value, Group, last, joined, Clause, asked, forbidden, Leaf, everything, sought, Atom, a_leaf, enclosed, spell_clause}
use Rattle.lucene_lang.specs.Faults.{differs, first_word, group_mixed, clause_mixed, atom_mixed, is_whole_at, is_ill, found_faults, leaf_faults, group_faults, clause_faults, atom_faults, query_faults}

abbrev pub IsOther : CodeAt → Type 0
IsOther f = is_of_pattern f.code ≡ false

abbrev pub AreOther : List CodeAt → Type 0
AreOther fs = EachOf IsOther fs

both : (fs gs : List CodeAt) → AreOther fs → AreOther gs → AreOther (fs ++ gs)
both [] gs h k = k
both (f ∷ fs) gs h k = (h.0, both fs gs h.1 k)

word_other : (b : Bool) (p : At) → AreOther (code_at_if b 134 p)
word_other true p = (refl, tt)
word_other false p = tt

kind_other : (b : Bool) (p : At) → AreOther (code_at_if b 133 p)
kind_other true p = (refl, tt)
kind_other false p = tt

mutual
  group_words : (v : Option Word) (g : Group) (ps : List At) → AreOther (group_mixed v g ps)
  group_words v (last c) ps = clause_words c ps
  group_words v (joined c w g) ps =
      both (clause_mixed c ps) _ (clause_words c ps) (both (code_at_if (differs v w) 134 (nth ps (length (spell_clause c)))) _ (word_other (differs v w) _)
      (group_words (Some (first_word v w)) g (drop (suc (length (spell_clause c))) ps)))

  clause_words : (c : Clause) (ps : List At) → AreOther (clause_mixed c ps)
  clause_words (asked a) ps = atom_words a ps
  clause_words (forbidden a) ps = atom_words a (drop 1 ps)

  atom_words : (a : Atom) (ps : List At) → AreOther (atom_mixed a ps)
  atom_words (a_leaf l) ps = tt
  atom_words (enclosed g) ps = group_words None g (drop 1 ps)

module _ (fields : List Field) where
  found_other : (f : Option FieldName) (v : Value) (p : At) → AreOther (found_faults fields f v p)
  found_other None v p = (refl, tt)
  found_other (Some f) v p = kind_other (is_ill (is_whole_at fields f.field) v) p

  leaf_other : (l : Leaf) (ps : List At) → AreOther (leaf_faults fields l ps)
  leaf_other everything ps = tt
  leaf_other (sought n v) ps = found_other (found_in fields (name_text n)) v (nth ps 0)

  mutual
    group_other : (g : Group) (ps : List At) → AreOther (group_faults fields g ps)
    group_other (last c) ps = clause_other c ps
    group_other (joined c w g) ps = both (clause_faults fields c ps) _ (clause_other c ps) (group_other g (drop (suc (length (spell_clause c))) ps))

    clause_other : (c : Clause) (ps : List At) → AreOther (clause_faults fields c ps)
    clause_other (asked a) ps = atom_other a ps
    clause_other (forbidden a) ps = atom_other a (drop 1 ps)

    atom_other : (a : Atom) (ps : List At) → AreOther (atom_faults fields a ps)
    atom_other (a_leaf l) ps = leaf_other l ps
    atom_other (enclosed g) ps = group_other g (drop 1 ps)

pub query_other : (schema : Schema) (g : Group) (ps : List At) → AreOther (query_faults schema g ps)
query_other schema g ps = both (group_mixed None g ps) _ (group_words None g ps) (group_other schema.fields g ps)
