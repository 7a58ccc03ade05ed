-- Each query is what the reading of its own spelling ends with; so a spelling is that of one query at most.
use Rattle.std.proofs.Common.{◌≡◌, refl, sym, ◌∙◌, ap, Bool, true, false, List, [], ◌∷◌, ◌++◌, append_assoc, append-nil}
use Rattle.std.specs.Prelude.{Some, Ok}
use Rattle.lucene_lang.specs.declared.query.Word.{Word}
use Rattle.lucene_lang.specs.Tokens.{Sort, Joins, Opening, Closing, Colon}
use Rattle.lucene_lang.specs.Grammar.{Name, to, decimal, plain, star, wild, exact, unbounded, bound, Value, a_term, a_phrase, a_range, Group, last, joined, Clause, asked, forbidden, everything, sought, Atom, a_leaf, enclosed, spell_name, spell_value, spell_group, spell_clause, spell_leaf, spell_atom}
use Rattle.lucene_lang.specs.Machine.{Partial, Start, Seeking, Complete, Before, before, Level, level, clause_if, group_with, Inside, step, go_on, run, begun, finish}

module _ (l : Level) (ls : List Level) where
  abbrev Goes : Partial → List Sort → Partial → List Sort → Type 0
  Goes p ts q us = run (Inside p l ls) ts ≡ run (Inside q l ls) us

  goes_name : (n : Name) (ts : List Sort) → Goes Start (spell_name n ∷ Colon ∷ ts) (Seeking n) ts
  unfolding step go_on
  goes_name to ts = refl
  goes_name (decimal w) ts = refl
  goes_name (plain w) ts = refl

  goes_value : (n : Name) (v : Value) (ts : List Sort) → Goes (Seeking n) (spell_value v ++ ts) (Complete (a_leaf (sought n v))) ts
  unfolding step go_on
  goes_value n (a_term star) ts = refl
  goes_value n (a_term (wild w)) ts = refl
  goes_value n (a_term (exact to)) ts = refl
  goes_value n (a_term (exact (decimal w))) ts = refl
  goes_value n (a_term (exact (plain w))) ts = refl
  goes_value n (a_phrase w) ts = refl
  goes_value n (a_range b unbounded unbounded c) ts = refl
  goes_value n (a_range b unbounded (bound w) c) ts = refl
  goes_value n (a_range b (bound v) unbounded c) ts = refl
  goes_value n (a_range b (bound v) (bound w) c) ts = refl

  goes_sought : (n : Name) (v : Value) (ts : List Sort) → Goes Start (spell_leaf (sought n v) ++ ts) (Complete (a_leaf (sought n v))) ts
  goes_sought n v ts = goes_name n (spell_value v ++ ts) ∙ goes_value n v ts

  goes_everything : (ts : List Sort) → Goes Start (spell_leaf everything ++ ts) (Complete (a_leaf everything)) ts
  unfolding step go_on
  goes_everything ts = refl

-- ---- pieces: each is read up to a state in which it may end, whatever stands behind it

abbrev ReadsAtom : Atom → Type 0
ReadsAtom a = (bs : List Before) (negated : Bool) (ls : List Level) (ts : List Sort)
    → run (Inside Start (level bs negated) ls) (spell_atom a ++ ts) ≡ run (Inside (Complete a) (level bs negated) ls) ts

-- the clauses before, and then a group
abbrev group_behind : List Before → Group → Group
group_behind [] g = g
group_behind (b ∷ bs) g = joined b.clause b.word (group_behind bs g)

behind_one : (bs : List Before) (c : Clause) (w : Word) (g : Group) → group_behind (bs ++ before c w ∷ []) g ≡ group_behind bs (joined c w g)
behind_one [] c w g = refl
behind_one (b ∷ bs) c w g = ap (λ (h : Group). joined b.clause b.word h) (behind_one bs c w g)

last_behind : (bs : List Before) (c : Clause) → group_with bs c ≡ group_behind bs (last c)
last_behind [] c = refl
last_behind (b ∷ bs) c = ap (λ (h : Group). joined b.clause b.word h) (last_behind bs c)

record ReadsGroup (bs : List Before) (g : Group) : Type 0 where
  clauses : List Before
  negated : Bool
  atom : Atom
  same : group_with clauses (clause_if negated atom) ≡ group_behind bs g
  goes : (ls : List Level) (ts : List Sort)
      → run (Inside Start (level bs false) ls) (spell_group g ++ ts) ≡ run (Inside (Complete atom) (level clauses negated) ls) ts

-- a clause, which is an atom with NOT or without
record ReadsClause (c : Clause) : Type 0 where
  negated : Bool
  atom : Atom
  same : clause_if negated atom ≡ c
  goes : (bs : List Before) (ls : List Level) (ts : List Sort)
      → run (Inside Start (level bs false) ls) (spell_clause c ++ ts) ≡ run (Inside (Complete atom) (level bs negated) ls) ts

of_asked : (a : Atom) → ReadsAtom a → ReadsClause (asked a)
of_asked a r = record { negated = false; atom = a; same = refl; goes = λ bs ls ts. r bs false ls ts }

of_forbidden : (a : Atom) → ReadsAtom a → ReadsClause (forbidden a)
unfolding step
of_forbidden a r = record { negated = true; atom = a; same = refl; goes = λ bs ls ts. r bs true ls ts }

joint_goes : (a : Atom) (bs : List Before) (negated : Bool) (w : Word) (ls : List Level) (ts : List Sort)
    → run (Inside (Complete a) (level bs negated) ls) (Joins w ∷ ts) ≡ run (Inside Start (level (bs ++ before (clause_if negated a) w ∷ []) false) ls) ts
unfolding step
joint_goes a bs negated w ls ts = refl

closing_goes : (a : Atom) (cs : List Before) (n : Bool) (l : Level) (ls : List Level) (ts : List Sort)
    → run (Inside (Complete a) (level cs n) (l ∷ ls)) (Closing ∷ ts) ≡ run (Inside (Complete (enclosed (group_with cs (clause_if n a)))) l ls) ts
unfolding step
closing_goes a cs n l ls ts = refl

opening_goes : (l : Level) (ls : List Level) (ts : List Sort) → run (Inside Start l ls) (Opening ∷ ts) ≡ run (Inside Start (level [] false) (l ∷ ls)) ts
unfolding step
opening_goes l ls ts = refl

last_of : (bs : List Before) (c : Clause) → ReadsClause c → ReadsGroup bs (last c)
last_of bs c r = record {
  clauses = bs;
  negated = r.negated;
  atom = r.atom;
  same = ap (group_with bs) r.same ∙ last_behind bs c;
  goes = λ ls ts. r.goes bs ls ts;
}

joined_of : (bs : List Before) (c : Clause) (w : Word) (g : Group) → ReadsClause c → ReadsGroup (bs ++ before c w ∷ []) g → ReadsGroup bs (joined c w g)
joined_of bs c w g r s = record {
  clauses = s.clauses;
  negated = s.negated;
  atom = s.atom;
  same = s.same ∙ behind_one bs c w g;
  goes = λ ls ts.
      let rest = spell_group g ++ ts in
      ap (λ (us : List Sort). run (Inside Start (level bs false) ls) us) (append_assoc (spell_clause c) (Joins w ∷ spell_group g) ts)
      ∙ (r.goes bs ls (Joins w ∷ rest)
      ∙ (joint_goes r.atom bs r.negated w ls rest
      ∙ (ap (λ (d : Clause). run (Inside Start (level (bs ++ before d w ∷ []) false) ls) rest) r.same ∙ s.goes ls ts)));
}

of_enclosed : (g : Group) → ReadsGroup [] g → ReadsAtom (enclosed g)
of_enclosed g r bs negated ls ts =
    let l = level bs negated in
    ap (λ (us : List Sort). run (Inside Start l ls) (Opening ∷ us)) (append_assoc (spell_group g) (Closing ∷ []) ts)
    ∙ (opening_goes l ls (spell_group g ++ Closing ∷ ts)
    ∙ (r.goes (l ∷ ls) (Closing ∷ ts)
    ∙ (closing_goes r.atom r.clauses r.negated l ls ts ∙ ap (λ (h : Group). run (Inside (Complete (enclosed h)) l ls) ts) r.same)))

mutual
  reads_group : (bs : List Before) (g : Group) → ReadsGroup bs g
  reads_group bs (last c) = last_of bs c (reads_clause c)
  reads_group bs (joined c w g) = joined_of bs c w g (reads_clause c) (reads_group (bs ++ before c w ∷ []) g)

  reads_clause : (c : Clause) → ReadsClause c
  reads_clause (asked a) = of_asked a (reads_atom a)
  reads_clause (forbidden a) = of_forbidden a (reads_atom a)

  reads_atom : (a : Atom) → ReadsAtom a
  reads_atom (a_leaf everything) = λ bs negated ls ts. goes_everything (level bs negated) ls ts
  reads_atom (enclosed g) = of_enclosed g (reads_group [] g)
  reads_atom (a_leaf (sought n v)) = λ bs negated ls ts. goes_sought (level bs negated) ls n v ts

pub reads_query : (g : Group) → finish (run begun (spell_group g)) ≡ Ok (Some g)
reads_query g =
    let r = reads_group [] g in
    ap (λ (us : List Sort). finish (run begun us)) (sym (append-nil (spell_group g)))
    ∙ (ap finish (r.goes [] []) ∙ ap (λ (h : Group). Ok (Some h)) r.same)

-- a spelling is that of one query at most
pub one_spelled : (f g : Group) → spell_group f ≡ spell_group g → f ≡ g
one_spelled f g same =
    let e = ap (λ (ts : List Sort). finish (run begun ts)) same in
    let x = reads_query f in
    let y = reads_query g in
    cc
