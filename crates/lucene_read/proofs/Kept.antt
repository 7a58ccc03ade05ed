-- What is kept of a query's parts: a leaf that is ill asks for nothing, and where none is, the query is what it means.
use Rattle.std.proofs.Common.{ℕ, suc, ◌≡◌, ◌+◌, refl, sym, ◌∙◌, ap, Bool, true, false, List, [], ◌∷◌, ◌++◌, length, drop, arith}
use Rattle.std.specs.Prelude.{Option, Some, None, if◌then◌else◌, ◌&&◌, ◌||◌, not, ℤ}
use Rattle.std.specs.Str.{bytes_eq}
use Rattle.event_schema.specs.declared.schema.Field.{Field}
use Rattle.query_tokens.specs.Places.{At, origin, CodeAt, code_at_if, nth}
use Rattle.lucene_lang.specs.declared.query.Word.{Word}
use Rattle.lucene_lang.specs.declared.query.Word.TheVariants.{And}
use Rattle.lucene_lang.specs.Grammar as grammar
use Rattle.lucene_lang.specs.Grammar.{End, unbounded, bound, Value, a_range, Leaf, everything, sought, last, joined, Clause, asked, forbidden, a_leaf, enclosed, spell_clause}
use Rattle.lucene_lang.specs.Query as query
use Rattle.lucene_lang.specs.Query.{Sought, Range, Atom, Everything, OfGroup, OfField, a_group, Clauses, no_clauses, a_clause, FieldName, named, next, found_in, is_twin, name_text, sought_of, end_number, number_of, leaf_of, group_of, clause_of, atom_of}
use Rattle.lucene_lang.specs.Faults.{is_ill, is_whole, is_whole_at, in_bounds, end_in_bounds, found_faults, leaf_faults, group_faults, clause_faults, atom_faults, first_word}
use Rattle.lucene_lang.specs.Machine.{Before, before, Level, level, clause_if, group_with, ended}
use Rattle.lucene_lang.specs.View.{Part, part, clauses_of}
use Rattle.lucene_read.specs.declared.partial.Known.{Known}
use Rattle.lucene_read.specs.declared.partial.Bound.{Bound}
use Rattle.lucene_read.specs.declared.partial.Bound.TheVariants.{Unbounded}
use Rattle.lucene_read.specs.Known.{known, known_in, number_in, bound_if, bound_number, is_far, ill_if, ill_of, Name, name_at, Leafed, leaf_with, leaf_for}
use Rattle.lucene_read.specs.Steps as steps
use Rattle.lucene_read.specs.Steps.{first_of, word_or_and, ranged}

-- ---- names

module _ (fields : List Field) where
  abbrev pub known_for : Option FieldName → Option Known
  known_for None = None
  known_for (Some f) = Some (known f.field f.cased (is_whole_at fields f.field))

  abbrev from : ℕ → Option FieldName → Option Known
  from k None = None
  from k (Some f) = Some (known (k + f.field) f.cased (is_whole_at fields f.field))

from_next : (field : Field) (fields : List Field) (k : ℕ) (o : Option FieldName) → from fields (suc k) o ≡ from (field ∷ fields) k (next o)
from_next field fields k None = refl
from_next field fields k (Some f) = let e : suc k + f.field ≡ k + suc f.field = omega arith in ap (λ (n : ℕ). Some (known n f.cased (is_whole_at fields f.field))) e

from_known : (k : ℕ) (fields : List Field) (name : List ℕ) → known_in k fields name ≡ from fields k (found_in fields name)
from_known k [] name = refl
from_known k (field ∷ fields) name = by (bytes_eq field.name name) (is_twin field name) (from_known (suc k) fields name) where
  here : (cased : Bool) → Some (known k cased (is_whole field.kind)) ≡ from (field ∷ fields) k (Some (named 0 cased))
  here cased = let e : k ≡ k + 0 = omega arith in ap (λ (n : ℕ). Some (known n cased (is_whole field.kind))) e

  by : (b c : Bool) → known_in (suc k) fields name ≡ from fields (suc k) (found_in fields name)
      → (if b then Some (known k false (is_whole field.kind)) else if c then Some (known k true (is_whole field.kind)) else known_in (suc k) fields name)
      ≡ from (field ∷ fields) k (if b then Some (named 0 false) else if c then Some (named 0 true) else next (found_in fields name))
  by true c later = here false
  by false true later = here true
  by false false later = later ∙ from_next field fields k (found_in fields name)

from_zero : (fields : List Field) (o : Option FieldName) → from fields 0 o ≡ known_for fields o
from_zero fields None = refl
from_zero fields (Some f) = let e : 0 + f.field ≡ f.field = omega arith in ap (λ (n : ℕ). Some (known n f.cased (is_whole_at fields f.field))) e

pub known_is : (fields : List Field) (name : List ℕ) → known_in 0 fields name ≡ known_for fields (found_in fields name)
known_is fields name = from_known 0 fields name ∙ from_zero fields (found_in fields name)

-- ---- lists of faults

abbrev pub first_in : List CodeAt → Option CodeAt
first_in [] = None
first_in (f ∷ fs) = Some f

pub first_none : {A : Type 0} (o : Option A) → first_of o None ≡ o
first_none None = refl
first_none (Some a) = refl

pub first_both : (fs gs : List CodeAt) → first_in (fs ++ gs) ≡ first_of (first_in fs) (first_in gs)
first_both [] gs = refl
first_both (f ∷ fs) gs = refl

none_of : (fs gs : List CodeAt) → fs ++ gs ≡ [] → (fs ≡ []) × (gs ≡ [])
none_of [] gs is = (refl, is)
none_of (f ∷ fs) gs is = absurd cc

-- ---- leaves

module _ (fields : List Field) where
  abbrev pub name_of : grammar.Name → At → Name
  name_of n p = name_at (known_in 0 fields (name_text n)) p

  abbrev pub leafed : grammar.Name → Value → At → Leafed
  leafed n v p = leaf_for (name_of n p) (is_ill false v) (is_ill true v) (sought_of v)

  abbrev pub kept_leaf : Leaf → Atom
  kept_leaf everything = Everything
  kept_leaf (sought n v) = (leafed n v origin).atom

  kept_with : (k : Option Known) (t w : Bool) (s : Sought) (p q : At) → (leaf_for (name_at k p) t w s).atom ≡ (leaf_for (name_at k q) t w s).atom
  kept_with None t w s p q = refl
  kept_with (Some k) t w s p q = by (if k.whole then w else t) where
    by : (b : Bool) → (leaf_with (Some k) (ill_if b p) s).atom ≡ (leaf_with (Some k) (ill_if b q) s).atom
    by true = refl
    by false = refl

  pub kept_is : (n : grammar.Name) (v : Value) (p : At) → (leafed n v p).atom ≡ kept_leaf (sought n v)
  kept_is n v p = kept_with (known_in 0 fields (name_text n)) (is_ill false v) (is_ill true v) (sought_of v) p origin

  ill_with : (o : Option FieldName) (v : Value) (p : At) (s : Sought) → (leaf_with (known_for fields o) (ill_of (known_for fields o) p (is_ill false v) (is_ill true v)) s).ill ≡ first_in (found_faults fields o v p)
  ill_with None v p s = refl
  ill_with (Some f) v p s = by (is_whole_at fields f.field) where
    by_ill : (b : Bool) → (leaf_with (Some (known f.field f.cased (is_whole_at fields f.field))) (ill_if b p) s).ill ≡ first_in (code_at_if b 133 p)
    by_ill true = refl
    by_ill false = refl

    by : (whole : Bool) → (leaf_with (Some (known f.field f.cased (is_whole_at fields f.field))) (ill_if (if whole then is_ill true v else is_ill false v) p) s).ill ≡ first_in (code_at_if (is_ill whole v) 133 p)
    by true = by_ill (is_ill true v)
    by false = by_ill (is_ill false v)

  pub ill_is : (n : grammar.Name) (v : Value) (p : At) → (leafed n v p).ill ≡ first_in (found_faults fields (found_in fields (name_text n)) v p)
  ill_is n v p =
      ap (λ (k : Option Known). (leaf_for (name_at k p) (is_ill false v) (is_ill true v) (sought_of v)).ill) (known_is fields (name_text n))
      ∙ ill_with (found_in fields (name_text n)) v p (sought_of v)

  whole_leaf_with : (o : Option FieldName) (v : Value) (p : At) (s : Sought) → found_faults fields o v p ≡ []
      → (leaf_with (known_for fields o) (ill_of (known_for fields o) origin (is_ill false v) (is_ill true v)) s).atom ≡ query.field_atom (query.or_first o) s
  whole_leaf_with None v p s none = absurd cc
  whole_leaf_with (Some f) v p s none = by (is_whole_at fields f.field) none where
    by_ill : (b : Bool) → code_at_if b 133 p ≡ [] → (leaf_with (Some (known f.field f.cased (is_whole_at fields f.field))) (ill_if b origin) s).atom ≡ OfField f.field f.cased s
    by_ill true h = absurd cc
    by_ill false h = refl

    by : (whole : Bool) → code_at_if (is_ill whole v) 133 p ≡ []
        → (leaf_with (Some (known f.field f.cased (is_whole_at fields f.field))) (ill_if (if whole then is_ill true v else is_ill false v) origin) s).atom ≡ OfField f.field f.cased s
    by true h = by_ill (is_ill true v) h
    by false h = by_ill (is_ill false v) h

  whole_leaf : (l : Leaf) (ps : List At) → leaf_faults fields l ps ≡ [] → kept_leaf l ≡ leaf_of fields l
  whole_leaf everything ps none = refl
  whole_leaf (sought n v) ps none =
      ap (λ (k : Option Known). (leaf_for (name_at k origin) (is_ill false v) (is_ill true v) (sought_of v)).atom) (known_is fields (name_text n))
      ∙ whole_leaf_with (found_in fields (name_text n)) v (nth ps 0) (sought_of v) none

  -- ---- groups

  abbrev pub word_of : grammar.Group → Word
  word_of (last c) = And
  word_of (joined c w g) = w

  abbrev mutual
    pub kept_group : grammar.Group → query.Group
    kept_group (last c) = a_group And (clauses_of (kept_part c ∷ []))
    kept_group (joined c w g) = a_group w (clauses_of (kept_part c ∷ kept_parts g))

    pub kept_parts : grammar.Group → List Part
    kept_parts (last c) = kept_part c ∷ []
    kept_parts (joined c w g) = kept_part c ∷ kept_parts g

    pub kept_part : Clause → Part
    kept_part (asked a) = part false (kept_atom a)
    kept_part (forbidden a) = part true (kept_atom a)

    pub kept_atom : grammar.Atom → Atom
    kept_atom (a_leaf l) = kept_leaf l
    kept_atom (enclosed g) = OfGroup (kept_group g)

  mutual
    pub whole_group : (g : grammar.Group) (ps : List At) → group_faults fields g ps ≡ [] → kept_group g ≡ group_of fields g
    whole_group (last c) ps none = ap (a_group And) (whole_clause c no_clauses no_clauses ps none refl)
    whole_group (joined c w g) ps none =
        let both = none_of (clause_faults fields c ps) (group_faults fields g (drop (suc (length (spell_clause c))) ps)) none in
        ap (a_group w) (whole_clause c (clauses_of (kept_parts g)) (query.clauses_of fields g) ps both.0 (whole_clauses g (drop (suc (length (spell_clause c))) ps) both.1))

    whole_clauses : (g : grammar.Group) (ps : List At) → group_faults fields g ps ≡ [] → clauses_of (kept_parts g) ≡ query.clauses_of fields g
    whole_clauses (last c) ps none = whole_clause c no_clauses no_clauses ps none refl
    whole_clauses (joined c w g) ps none =
        let both = none_of (clause_faults fields c ps) (group_faults fields g (drop (suc (length (spell_clause c))) ps)) none in
        whole_clause c (clauses_of (kept_parts g)) (query.clauses_of fields g) ps both.0 (whole_clauses g (drop (suc (length (spell_clause c))) ps) both.1)

    whole_clause : (c : Clause) (more others : Clauses) (ps : List At) → clause_faults fields c ps ≡ [] → more ≡ others
        → a_clause (kept_part c).negated (kept_part c).atom more ≡ clause_of fields c others
    whole_clause (asked a) more others ps none same = ap (λ (b : Atom). a_clause false b more) (whole_atom a ps none) ∙ ap (a_clause false (atom_of fields a)) same
    whole_clause (forbidden a) more others ps none same = ap (λ (b : Atom). a_clause true b more) (whole_atom a (drop 1 ps) none) ∙ ap (a_clause true (atom_of fields a)) same

    whole_atom : (a : grammar.Atom) (ps : List At) → atom_faults fields a ps ≡ [] → kept_atom a ≡ atom_of fields a
    whole_atom (a_leaf l) ps none = whole_leaf l ps none
    whole_atom (enclosed g) ps none = ap OfGroup (whole_group g (drop 1 ps) none)

  -- ---- levels

  abbrev pub parts_in : List Before → List Part
  parts_in [] = []
  parts_in (b ∷ bs) = kept_part b.clause ∷ parts_in bs

  abbrev pub word_in : List Before → Option Word
  word_in [] = None
  word_in (b ∷ bs) = Some b.word

  abbrev pub level_in : Level → steps.Level
  level_in l = steps.level (parts_in l.clauses) (word_in l.clauses) l.negated

  abbrev pub levels_in : List Level → List steps.Level
  levels_in [] = []
  levels_in (l ∷ ls) = level_in l ∷ levels_in ls

  part_if : (n : Bool) (a : grammar.Atom) → kept_part (clause_if n a) ≡ part n (kept_atom a)
  part_if true a = refl
  part_if false a = refl

  parts_ended : (bs : List Before) (c : Clause) → kept_parts (group_with bs c) ≡ parts_in bs ++ kept_part c ∷ []
  parts_ended [] c = refl
  parts_ended (b ∷ bs) c = ap (λ (ps : List Part). kept_part b.clause ∷ ps) (parts_ended bs c)

  group_ended : (bs : List Before) (c : Clause) → kept_group (group_with bs c) ≡ a_group (word_or_and (word_in bs)) (clauses_of (parts_in bs ++ kept_part c ∷ []))
  group_ended [] c = refl
  group_ended (b ∷ bs) c = ap (λ (ps : List Part). a_group b.word (clauses_of (kept_part b.clause ∷ ps))) (parts_ended bs c)

  pub level_ended : (l : Level) (a : grammar.Atom) → steps.ended (level_in l) (kept_atom a) ≡ kept_group (ended l a)
  level_ended l a =
      ap (λ (p : Part). a_group (word_or_and (word_in l.clauses)) (clauses_of (parts_in l.clauses ++ p ∷ []))) (sym (part_if l.negated a))
      ∙ sym (group_ended l.clauses (clause_if l.negated a))

  parts_joined : (bs : List Before) (c : Clause) (w : Word) → parts_in (bs ++ before c w ∷ []) ≡ parts_in bs ++ kept_part c ∷ []
  parts_joined [] c w = refl
  parts_joined (b ∷ bs) c w = ap (λ (ps : List Part). kept_part b.clause ∷ ps) (parts_joined bs c w)

  word_joined : (bs : List Before) (c : Clause) (w : Word) → Some (first_word (word_in bs) w) ≡ word_in (bs ++ before c w ∷ [])
  word_joined [] c w = refl
  word_joined (b ∷ bs) c w = refl

  pub level_joined : (l : Level) (a : grammar.Atom) (w : Word) → steps.joint (kept_atom a) (level_in l) w ≡ level_in (level (l.clauses ++ before (clause_if l.negated a) w ∷ []) false)
  level_joined l a w =
      ap (λ (p : Part). steps.level (parts_in l.clauses ++ p ∷ []) (Some (first_word (word_in l.clauses) w)) false) (sym (part_if l.negated a))
      ∙ (ap (λ (ps : List Part). steps.level ps (Some (first_word (word_in l.clauses) w)) false) (sym (parts_joined l.clauses (clause_if l.negated a) w))
      ∙ ap (λ (o : Option Word). steps.level (parts_in (l.clauses ++ before (clause_if l.negated a) w ∷ [])) o false) (word_joined l.clauses (clause_if l.negated a) w))

-- ---- ranges

abbrev pub bound_in : End → Bound
bound_in unbounded = Unbounded
bound_in (bound w) = bound_if (number_in w)

fits_bound : (e : End) → is_far (bound_in e) ≡ not (end_in_bounds e)
fits_bound unbounded = refl
fits_bound (bound w) = by (in_bounds w) where
  by : (b : Bool) → is_far (bound_if (if b then Some (number_of w) else None)) ≡ not b
  by true = refl
  by false = refl

number_bound : (e : End) → end_in_bounds e ≡ true → bound_number (bound_in e) ≡ end_number e
number_bound unbounded fits = refl
number_bound (bound w) fits = by (in_bounds w) fits where
  by : (b : Bool) → b ≡ true → bound_number (bound_if (if b then Some (number_of w) else None)) ≡ Some (number_of w)
  by true h = refl
  by false h = absurd cc

far_either : (a b : Bool) → (not a || not b) ≡ not (a && b)
far_either true true = refl
far_either true false = refl
far_either false b = refl

-- what is sought doesn't matter where both kinds are ill
ill_both : (n : Name) (s t : Sought) → leaf_for n true true s ≡ leaf_for n true true t
ill_both n s t = by n.known where
  by : (k : Option Known) → leaf_for (name_at k n.place) true true s ≡ leaf_for (name_at k n.place) true true t
  by None = refl
  by (Some k) = by_kind k.whole where
    by_kind : (b : Bool) → leaf_with (Some k) (ill_if (if b then true else true) n.place) s ≡ leaf_with (Some k) (ill_if (if b then true else true) n.place) t
    by_kind true = refl
    by_kind false = refl

pub ranged_is : (fields : List Field) (n : grammar.Name) (b : Bool) (e f : End) (c : Bool) (p : At) → ranged (name_of fields n p) b (bound_in e) (bound_in f) c ≡ leafed fields n (a_range b e f c) p
ranged_is fields n b e f c p =
    ap (λ (w : Bool). leaf_for (name_of fields n p) true w (Range (bound_number (bound_in e)) b (bound_number (bound_in f)) c))
    (ap (λ (x : Bool). x || is_far (bound_in f)) (fits_bound e) ∙ (ap (λ (x : Bool). not (end_in_bounds e) || x) (fits_bound f) ∙ far_either (end_in_bounds e) (end_in_bounds f)))
    ∙ by (end_in_bounds e) (end_in_bounds f) refl refl where
      by : (x y : Bool) → end_in_bounds e ≡ x → end_in_bounds f ≡ y
          → leaf_for (name_of fields n p) true (not (x && y)) (Range (bound_number (bound_in e)) b (bound_number (bound_in f)) c)
          ≡ leaf_for (name_of fields n p) true (not (x && y)) (Range (end_number e) b (end_number f) c)
      by true true left right =
          ap (λ (o : Option ℤ). leaf_for (name_of fields n p) true false (Range o b (bound_number (bound_in f)) c)) (number_bound e left)
          ∙ ap (λ (o : Option ℤ). leaf_for (name_of fields n p) true false (Range (end_number e) b o c)) (number_bound f right)
      by true false left right = ill_both (name_of fields n p) (Range (bound_number (bound_in e)) b (bound_number (bound_in f)) c) (Range (end_number e) b (end_number f) c)
      by false y left right = ill_both (name_of fields n p) (Range (bound_number (bound_in e)) b (bound_number (bound_in f)) c) (Range (end_number e) b (end_number f) c)
