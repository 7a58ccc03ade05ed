-- What a state has read so far, in tokens; a step adds its token.
use Rattle.std.proofs.Common.{◌≡◌, refl, sym, ◌∙◌, ap, Bool, true, false, List, [], ◌∷◌, ◌++◌, append_assoc, append-nil}
use Rattle.std.specs.Prelude.{Option, Some, None}
use Rattle.lucene_lang.specs.declared.query.Word.{Word}
use Rattle.lucene_lang.specs.Tokens.{Sort, Joins, Not, Star, Wild, To, Decimal, Plain, Phrase, Opening, Closing, Opens, Closes, Colon}
use Rattle.lucene_lang.specs.Grammar.{to, decimal, plain, star, wild, exact, unbounded, bound, a_term, a_phrase, a_range, Clause, everything, sought, Atom, a_leaf, enclosed, spell_name, spell_end, spell_group, spell_clause, spell_atom}
use Rattle.lucene_lang.specs.Machine.{Partial, Start, Starred, StarColon, Named, Seeking, Ranging, Low, Upto, High, Complete, Before, before, Level, level, clause_if, group_with, ended, State, Inside, on_not, step, go_on}

-- ---- what was read so far

abbrev pub sofar_partial : Partial → List Sort
sofar_partial Start = []
sofar_partial Starred = Star ∷ []
sofar_partial StarColon = Star ∷ Colon ∷ []
sofar_partial (Named n) = spell_name n ∷ []
sofar_partial (Seeking n) = spell_name n ∷ Colon ∷ []
sofar_partial (Ranging n b) = spell_name n ∷ Colon ∷ Opens b ∷ []
sofar_partial (Low n b e) = spell_name n ∷ Colon ∷ Opens b ∷ spell_end e ∷ []
sofar_partial (Upto n b e) = spell_name n ∷ Colon ∷ Opens b ∷ spell_end e ∷ To ∷ []
sofar_partial (High n b e f) = spell_name n ∷ Colon ∷ Opens b ∷ spell_end e ∷ To ∷ spell_end f ∷ []
sofar_partial (Complete a) = spell_atom a

abbrev pub sofar_before : List Before → List Sort
sofar_before [] = []
sofar_before (b ∷ bs) = spell_clause b.clause ++ Joins b.word ∷ sofar_before bs

abbrev pub sofar_not : Bool → List Sort
sofar_not true = Not ∷ []
sofar_not false = []

abbrev pub sofar_level : Level → List Sort
sofar_level l = sofar_before l.clauses ++ sofar_not l.negated

abbrev pub sofar_outer : List Level → List Sort
sofar_outer [] = []
sofar_outer (l ∷ ls) = sofar_outer ls ++ (sofar_level l ++ Opening ∷ [])

abbrev pub sofar : State → List Sort
sofar (Inside p l ls) = sofar_outer ls ++ (sofar_level l ++ sofar_partial p)

before_more : (bs : List Before) (c : Clause) (w : Word) → sofar_before (bs ++ before c w ∷ []) ≡ sofar_before bs ++ (spell_clause c ++ Joins w ∷ [])
before_more [] c w = refl
before_more (b ∷ bs) c w =
    ap (λ (ts : List Sort). spell_clause b.clause ++ Joins b.word ∷ ts) (before_more bs c w)
    ∙ sym (append_assoc (spell_clause b.clause) (Joins b.word ∷ sofar_before bs) (spell_clause c ++ Joins w ∷ []))

group_spells : (bs : List Before) (c : Clause) → spell_group (group_with bs c) ≡ sofar_before bs ++ spell_clause c
group_spells [] c = refl
group_spells (b ∷ bs) c =
    ap (λ (ts : List Sort). spell_clause b.clause ++ Joins b.word ∷ ts) (group_spells bs c)
    ∙ sym (append_assoc (spell_clause b.clause) (Joins b.word ∷ sofar_before bs) (spell_clause c))

pub clause_spells : (b : Bool) (a : Atom) → spell_clause (clause_if b a) ≡ sofar_not b ++ spell_atom a
clause_spells true a = refl
clause_spells false a = refl

pub ended_spells : (l : Level) (a : Atom) → spell_group (ended l a) ≡ sofar_level l ++ spell_atom a
ended_spells l a =
    group_spells l.clauses (clause_if l.negated a)
    ∙ (ap (λ (ts : List Sort). sofar_before l.clauses ++ ts) (clause_spells l.negated a) ∙ sym (append_assoc (sofar_before l.clauses) (sofar_not l.negated) (spell_atom a)))

-- ---- a step adds its token

abbrev pub Grows : Option State → List Sort → Type 0
Grows None ts = Unit {0}
Grows (Some u) ts = sofar u ≡ ts

module _ (l : Level) (ls : List Level) where
  goes_on : (p q : Partial) (t : Sort) → sofar_partial q ≡ sofar_partial p ++ t ∷ [] → sofar (Inside q l ls) ≡ sofar (Inside p l ls) ++ t ∷ []
  goes_on p q t same =
      ap (λ (ts : List Sort). sofar_outer ls ++ (sofar_level l ++ ts)) same ∙ simp append_assoc

joint_grows : (a : Atom) (l : Level) (ls : List Level) (w : Word)
    → sofar (Inside Start (level (l.clauses ++ before (clause_if l.negated a) w ∷ []) false) ls) ≡ sofar (Inside (Complete a) l ls) ++ Joins w ∷ []
joint_grows a l ls w =
    ap (λ (ts : List Sort). sofar_outer ls ++ ((ts ++ []) ++ [])) (before_more l.clauses (clause_if l.negated a) w)
    ∙ (ap (λ (ts : List Sort). sofar_outer ls ++ (((sofar_before l.clauses ++ (ts ++ Joins w ∷ [])) ++ []) ++ [])) (clause_spells l.negated a) ∙ simp (append_assoc, append-nil))

closing_grows : (a : Atom) (l m : Level) (ls : List Level) → sofar (Inside (Complete (enclosed (ended l a))) m ls) ≡ sofar (Inside (Complete a) l (m ∷ ls)) ++ Closing ∷ []
closing_grows a l m ls =
    ap (λ (ts : List Sort). sofar_outer ls ++ (sofar_level m ++ Opening ∷ (ts ++ Closing ∷ []))) (ended_spells l a) ∙ simp append_assoc

pub step_grows : (s : State) (t : Sort) → Grows (step s t) (sofar s ++ t ∷ [])
unfolding step go_on
step_grows (Inside Start l ls) Star = goes_on l ls Start Starred Star refl
step_grows (Inside Start l ls) To = goes_on l ls Start (Named to) To refl
step_grows (Inside Start l ls) (Decimal w) = goes_on l ls Start (Named (decimal w)) (Decimal w) refl
step_grows (Inside Start l ls) (Plain w) = goes_on l ls Start (Named (plain w)) (Plain w) refl
step_grows (Inside Start l ls) Not = by l.negated refl where
  by : (b : Bool) → l.negated ≡ b → Grows (on_not b l.clauses ls) (sofar (Inside Start l ls) ++ Not ∷ [])
  by true is = tt
  by false is = ap (λ (b : Bool). sofar_outer ls ++ ((sofar_before l.clauses ++ (Not ∷ [])) ++ [])) is ∙ (let e = is in rw e (simp (append_assoc, append-nil)))
step_grows (Inside Start l ls) Opening = simp (append_assoc, append-nil)
step_grows (Inside Start l ls) t = tt
step_grows (Inside Starred l ls) Colon = goes_on l ls Starred StarColon Colon refl
step_grows (Inside Starred l ls) t = tt
step_grows (Inside StarColon l ls) Star = goes_on l ls StarColon (Complete (a_leaf everything)) Star refl
step_grows (Inside StarColon l ls) t = tt
step_grows (Inside (Named n) l ls) Colon = goes_on l ls (Named n) (Seeking n) Colon refl
step_grows (Inside (Named n) l ls) t = tt
step_grows (Inside (Seeking n) l ls) Star = goes_on l ls (Seeking n) (Complete (a_leaf (sought n (a_term star)))) Star refl
step_grows (Inside (Seeking n) l ls) (Wild w) = goes_on l ls (Seeking n) (Complete (a_leaf (sought n (a_term (wild w))))) (Wild w) refl
step_grows (Inside (Seeking n) l ls) To = goes_on l ls (Seeking n) (Complete (a_leaf (sought n (a_term (exact to))))) To refl
step_grows (Inside (Seeking n) l ls) (Decimal w) = goes_on l ls (Seeking n) (Complete (a_leaf (sought n (a_term (exact (decimal w)))))) (Decimal w) refl
step_grows (Inside (Seeking n) l ls) (Plain w) = goes_on l ls (Seeking n) (Complete (a_leaf (sought n (a_term (exact (plain w)))))) (Plain w) refl
step_grows (Inside (Seeking n) l ls) (Phrase w) = goes_on l ls (Seeking n) (Complete (a_leaf (sought n (a_phrase w)))) (Phrase w) refl
step_grows (Inside (Seeking n) l ls) (Opens b) = goes_on l ls (Seeking n) (Ranging n b) (Opens b) refl
step_grows (Inside (Seeking n) l ls) t = tt
step_grows (Inside (Ranging n b) l ls) Star = goes_on l ls (Ranging n b) (Low n b unbounded) Star refl
step_grows (Inside (Ranging n b) l ls) (Decimal w) = goes_on l ls (Ranging n b) (Low n b (bound w)) (Decimal w) refl
step_grows (Inside (Ranging n b) l ls) t = tt
step_grows (Inside (Low n b e) l ls) To = goes_on l ls (Low n b e) (Upto n b e) To refl
step_grows (Inside (Low n b e) l ls) t = tt
step_grows (Inside (Upto n b e) l ls) Star = goes_on l ls (Upto n b e) (High n b e unbounded) Star refl
step_grows (Inside (Upto n b e) l ls) (Decimal w) = goes_on l ls (Upto n b e) (High n b e (bound w)) (Decimal w) refl
step_grows (Inside (Upto n b e) l ls) t = tt
step_grows (Inside (High n b e f) l ls) (Closes c) = goes_on l ls (High n b e f) (Complete (a_leaf (sought n (a_range b e f c)))) (Closes c) refl
step_grows (Inside (High n b e f) l ls) t = tt
step_grows (Inside (Complete a) l ls) (Joins w) = joint_grows a l ls w
step_grows (Inside (Complete a) l []) Closing = tt
step_grows (Inside (Complete a) l (m ∷ ls)) Closing = closing_grows a l m ls
step_grows (Inside (Complete a) l ls) t = tt
