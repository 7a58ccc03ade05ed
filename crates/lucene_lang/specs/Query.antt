-- The query that a spelling is: fields by their numbers, one word for each group.
use Rattle.std.specs.Prelude.{ℕ, zero, suc, ◌-◌, ◌*◌, Bool, true, false, ◌==◌, if◌then◌else◌, List, [], ◌∷◌, map, codes, Option, Some, None, ℤ, pos, negsuc}
use Rattle.std.specs.Str.{bytes_eq}
use Rattle.sig_base.specs.Digits.{digits_from}
use Rattle.event_schema.specs.Schemas.{twin}
use Rattle.event_schema.specs.declared.schema.Field.{Field}
use Rattle.lucene_lang.specs.declared.query.Glyph.{Glyph}
use Rattle.lucene_lang.specs.declared.query.Glyph.TheVariants.{Char, One, Run}
use Rattle.lucene_lang.specs.declared.query.Word.{Word}
use Rattle.lucene_lang.specs.declared.query.Word.TheVariants.{And}
use Rattle.lucene_lang.specs.declared.written.Written.{Written}
use Rattle.lucene_lang.specs.declared.written.Written.TheVariants.{Bare, Escaped}
use Rattle.lucene_lang.specs.Tokens.{character}
use Rattle.lucene_lang.specs.Grammar as grammar
use Rattle.lucene_lang.specs.Grammar.{Name, to, decimal, plain, star, wild, exact, End, unbounded, bound, a_term, a_phrase, a_range, last, joined, asked, forbidden, Leaf, everything, sought, a_leaf, enclosed}

-- the ends of a range are inside or outside, or open
pub data Sought : Type 0 where
  Term : List Glyph → Sought
  Phrase : List ℕ → Sought
  Range : (low : Option ℤ) → (low_in : Bool) → (high : Option ℤ) → (high_in : Bool) → Sought

mutual
  -- clauses that one word joins
  pub data Group : Type 0 where
    a_group : Word → Clauses → Group

  pub data Clauses : Type 0 where
    no_clauses : Clauses
    a_clause : (negated : Bool) → Atom → Clauses → Clauses

  -- *:*, a group, or what is sought in a field or in its twin
  pub data Atom : Type 0 where
    Everything : Atom
    OfGroup : Group → Atom
    OfField : (field : ℕ) → (cased : Bool) → Sought → Atom

-- ---- runs

-- * and ? without a backslash are wildcards
abbrev pub glyph : Written → Glyph
glyph (Bare c) = if c == 42 then Run else if c == 63 then One else Char c
glyph (Escaped c) = Char c

abbrev pub glyphs : List Written → List Glyph
glyphs w = map glyph w

abbrev pub name_text : Name → List ℕ
name_text to = codes "TO"
name_text (decimal w) = w
name_text (plain w) = map character w

abbrev pub term_glyphs : grammar.Term → List Glyph
term_glyphs star = Run ∷ []
term_glyphs (wild w) = glyphs w
term_glyphs (exact n) = map (λ c. Char c) (name_text n)

-- ---- numbers

abbrev pub negative : ℕ → ℤ
negative zero = pos 0
negative (suc n) = negsuc n

-- the number that is written so
abbrev pub number_of : List ℕ → ℤ
number_of [] = pos 0
number_of (c ∷ cs) = if c == 45 then negative (digits_from 0 cs) else pos (digits_from 0 (c ∷ cs))

abbrev pub end_number : End → Option ℤ
end_number unbounded = None
end_number (bound w) = Some (number_of w)

abbrev pub sought_of : grammar.Value → Sought
sought_of (a_term t) = Term (term_glyphs t)
sought_of (a_phrase w) = Phrase (map character w)
sought_of (a_range b low high c) = Range (end_number low) b (end_number high) c

-- ---- names: a field of the schema, or the twin NAME.cased of a field that keeps its case

pub record FieldName : Type 0 where
  pub field : ℕ
  pub cased : Bool

abbrev pub named : ℕ → Bool → FieldName
named k cased = record { field = k; cased = cased }

abbrev pub next : Option FieldName → Option FieldName
next None = None
next (Some f) = Some (named (suc f.field) f.cased)

abbrev pub is_twin : Field → List ℕ → Bool
is_twin field name = if field.cased then bytes_eq (twin field.name) name else false

-- the first field, counted from 0, that has exactly this name or twin
abbrev pub found_in : List Field → List ℕ → Option FieldName
found_in [] name = None
found_in (field ∷ fields) name =
    if bytes_eq field.name name then Some (named 0 false)
    else if is_twin field name then Some (named 0 true)
    else next (found_in fields name)

-- a name that is no field's is refused
abbrev pub or_first : Option FieldName → FieldName
or_first None = named 0 false
or_first (Some f) = f

-- ---- the query

abbrev pub field_atom : FieldName → Sought → Atom
field_atom f s = OfField f.field f.cased s

module _ (fields : List Field) where
  abbrev pub leaf_of : Leaf → Atom
  leaf_of everything = Everything
  leaf_of (sought n v) = field_atom (or_first (found_in fields (name_text n))) (sought_of v)

  -- a group's word is its first, and And for one clause
  abbrev mutual
    pub group_of : grammar.Group → Group
    group_of (last c) = a_group And (clause_of c no_clauses)
    group_of (joined c w g) = a_group w (clause_of c (clauses_of g))

    pub clauses_of : grammar.Group → Clauses
    clauses_of (last c) = clause_of c no_clauses
    clauses_of (joined c w g) = clause_of c (clauses_of g)

    pub clause_of : grammar.Clause → Clauses → Clauses
    clause_of (asked a) more = a_clause false (atom_of a) more
    clause_of (forbidden a) more = a_clause true (atom_of a) more

    pub atom_of : grammar.Atom → Atom
    atom_of (a_leaf l) = leaf_of l
    atom_of (enclosed g) = OfGroup (group_of g)
