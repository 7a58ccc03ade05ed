-- The faults of what was read so far: a step adds those of its token, and at the end they are the query's.
use Rattle.std.proofs.Common.{ℕ, zero, suc, ◌≡◌, ◌+◌, refl, sym, ◌∙◌, ap, Bool, true, false, List, [], ◌∷◌, ◌++◌, length, drop, append_assoc, append-nil, length-append, arith}
use Rattle.std.specs.Prelude.{Option, Some, None}
use Rattle.query_tokens.specs.Places.{At, CodeAt, nth}
use Rattle.lucene_lang.specs.declared.query.Word.{Word}
use Rattle.lucene_lang.specs.Tokens.{Sort, Joins, Opening}
use Rattle.lucene_lang.specs.Grammar.{Group, last, joined, Clause, asked, forbidden, Atom, enclosed, spell_clause, spell_atom}
use Rattle.lucene_lang.specs.Faults.{first_word}
use Rattle.lucene_lang.specs.Machine.{Partial, Complete, Before, before, Level, level, clause_if, group_with, ended, State, Inside}
use Rattle.lucene_lang.proofs.Sofar.{sofar_before, sofar_not, sofar_level, sofar_outer, sofar, clause_spells}

-- ---- places behind some

same_drop : {A : Type 0} (xs : List A) (m n : ℕ) → m ≡ n → drop m xs ≡ drop n xs
same_drop xs m n is = ap (λ (k : ℕ). drop k xs) is

same_nth : (ps : List At) (m n : ℕ) → m ≡ n → nth ps m ≡ nth ps n
same_nth ps m n is = ap (nth ps) is

drop_none : {A : Type 0} (none : List A) (n k : ℕ) → none ≡ [] → drop n none ≡ drop k none
drop_none {A = A} none zero zero is = refl
drop_none {A = A} none zero (suc k) is = rw is refl
drop_none {A = A} none (suc n) zero is = rw is refl
drop_none {A = A} none (suc n) (suc k) is = rw is refl

pub dropped : {A : Type 0} (m n : ℕ) (xs : List A) → drop n (drop m xs) ≡ drop (m + n) xs
dropped zero n xs = same_drop xs n (0 + n) (omega arith)
dropped {A = A} (suc m) n [] = drop_none {A = A} [] n (suc m + n) refl
dropped (suc m) n (x ∷ xs) = dropped m n xs ∙ same_drop (x ∷ xs) (suc (m + n)) (suc m + n) (omega arith)

pub nth_dropped : (m k : ℕ) (ps : List At) → nth (drop m ps) k ≡ nth ps (m + k)
nth_dropped zero k ps = same_nth ps k (0 + k) (omega arith)
nth_dropped (suc m) k [] = refl
nth_dropped (suc m) k (p ∷ ps) = nth_dropped m k ps ∙ same_nth (p ∷ ps) (suc (m + k)) (suc m + k) (omega arith)

behind_both : {A : Type 0} (ps : List A) (xs ys : List Sort) → drop (length ys) (drop (length xs) ps) ≡ drop (length (xs ++ ys)) ps
behind_both ps xs ys = dropped (length xs) (length ys) ps ∙ ap (λ (k : ℕ). drop k ps) (sym (length-append xs ys))

behind_sign : {A : Type 0} (ps : List A) (xs : List Sort) (y : Sort) (ys : List Sort) → drop (length ys) (drop (suc (length xs)) ps) ≡ drop (length (xs ++ y ∷ ys)) ps
behind_sign ps xs y ys = dropped (suc (length xs)) (length ys) ps ∙ same_drop ps (suc (length xs) + length ys) (length (xs ++ y ∷ ys)) (omega (arith, length-append xs (y ∷ ys)))

-- the word of the clauses before, and the first one
abbrev pub word_behind : Option Word → List Before → Option Word
word_behind v [] = v
word_behind v (b ∷ bs) = word_behind (Some (first_word v b.word)) bs

module _ (group : Option Word → Group → List At → List CodeAt) (clause : Clause → List At → List CodeAt) (atom : Atom → List At → List CodeAt)
    (word : Option Word → Word → At → List CodeAt)
    (last_is : (v : Option Word) (c : Clause) (ps : List At) → group v (last c) ps ≡ clause c ps)
    (joined_is : (v : Option Word) (c : Clause) (w : Word) (g : Group) (ps : List At) → group v (joined c w g) ps
    ≡ clause c ps ++ (word v w (nth ps (length (spell_clause c))) ++ group (Some (first_word v w)) g (drop (suc (length (spell_clause c))) ps)))
    (asked_is : (a : Atom) (ps : List At) → clause (asked a) ps ≡ atom a ps)
    (forbidden_is : (a : Atom) (ps : List At) → clause (forbidden a) ps ≡ atom a (drop 1 ps))
    (enclosed_is : (g : Group) (ps : List At) → atom (enclosed g) ps ≡ group None g (drop 1 ps)) where
  -- of the clauses before, each with the word behind it
  abbrev pub before_faults : Option Word → List Before → List At → List CodeAt
  before_faults v [] ps = []
  before_faults v (b ∷ bs) ps =
      clause b.clause ps ++ (word v b.word (nth ps (length (spell_clause b.clause))) ++ before_faults (Some (first_word v b.word)) bs (drop (suc (length (spell_clause b.clause))) ps))

  abbrev pub outer_faults : List Level → List At → List CodeAt
  outer_faults [] ps = []
  outer_faults (l ∷ ls) ps = outer_faults ls ps ++ before_faults None l.clauses (drop (length (sofar_outer ls)) ps)

  abbrev pub partial_faults : Partial → List At → List CodeAt
  partial_faults (Complete a) ps = atom a ps
  partial_faults p ps = []

  abbrev pub state_faults : State → List At → List CodeAt
  state_faults (Inside p l ls) ps = outer_faults (l ∷ ls) ps ++ partial_faults p (drop (length (sofar_outer ls ++ sofar_level l)) ps)

  group_faults_of : (v : Option Word) (bs : List Before) (c : Clause) (ps : List At)
      → group v (group_with bs c) ps ≡ before_faults v bs ps ++ clause c (drop (length (sofar_before bs)) ps)
  group_faults_of v [] c ps = last_is v c ps
  group_faults_of v (b ∷ bs) c ps =
      let n = length (spell_clause b.clause) in
      let qs = drop (suc n) ps in
      let here = clause b.clause ps in
      let said = word v b.word (nth ps n) in
      let more = before_faults (Some (first_word v b.word)) bs qs in
      let place : drop (length (sofar_before bs)) qs ≡ drop (length (sofar_before (b ∷ bs))) ps = behind_sign ps (spell_clause b.clause) (Joins b.word) (sofar_before bs) in
      joined_is v b.clause b.word (group_with bs c) ps
      ∙ (ap (λ (fs : List CodeAt). here ++ (said ++ fs)) (group_faults_of (Some (first_word v b.word)) bs c qs)
      ∙ (ap (λ (fs : List CodeAt). here ++ fs) (sym (append_assoc said more (clause c (drop (length (sofar_before bs)) qs))))
      ∙ (sym (append_assoc here (said ++ more) (clause c (drop (length (sofar_before bs)) qs)))
      ∙ ap (λ (rs : List At). (here ++ (said ++ more)) ++ clause c rs) place)))

  clause_faults_of : (b : Bool) (a : Atom) (ps : List At) → clause (clause_if b a) ps ≡ atom a (drop (length (sofar_not b)) ps)
  clause_faults_of true a ps = forbidden_is a ps
  clause_faults_of false a ps = asked_is a ps

  pub ended_faults : (l : Level) (a : Atom) (ps : List At) → group None (ended l a) ps ≡ before_faults None l.clauses ps ++ atom a (drop (length (sofar_level l)) ps)
  ended_faults l a ps =
      let qs = drop (length (sofar_before l.clauses)) ps in
      group_faults_of None l.clauses (clause_if l.negated a) ps
      ∙ ap (λ (fs : List CodeAt). before_faults None l.clauses ps ++ fs)
      (clause_faults_of l.negated a qs ∙ ap (atom a) (behind_both ps (sofar_before l.clauses) (sofar_not l.negated)))

  before_more : (v : Option Word) (bs : List Before) (c : Clause) (w : Word) (ps : List At) → before_faults v (bs ++ before c w ∷ []) ps
      ≡ before_faults v bs ps ++ (clause c (drop (length (sofar_before bs)) ps) ++ word (word_behind v bs) w (nth (drop (length (sofar_before bs)) ps) (length (spell_clause c))))
  before_more v [] c w ps = ap (λ (fs : List CodeAt). clause c ps ++ fs) (append-nil (word v w (nth ps (length (spell_clause c)))))
  before_more v (b ∷ bs) c w ps =
      let n = length (spell_clause b.clause) in
      let qs = drop (suc n) ps in
      let u = Some (first_word v b.word) in
      let here = clause b.clause ps in
      let said = word v b.word (nth ps n) in
      let more = before_faults u bs qs in
      let place : drop (length (sofar_before bs)) qs ≡ drop (length (sofar_before (b ∷ bs))) ps = behind_sign ps (spell_clause b.clause) (Joins b.word) (sofar_before bs) in
      let new : List At → List CodeAt = λ rs. clause c rs ++ word (word_behind u bs) w (nth rs (length (spell_clause c))) in
      ap (λ (fs : List CodeAt). here ++ (said ++ fs)) (before_more u bs c w qs)
      ∙ (ap (λ (fs : List CodeAt). here ++ fs) (sym (append_assoc said more (new (drop (length (sofar_before bs)) qs))))
      ∙ (sym (append_assoc here (said ++ more) (new (drop (length (sofar_before bs)) qs)))
      ∙ ap (λ (rs : List At). (here ++ (said ++ more)) ++ new rs) place))

  module _ (ps : List At) where
    -- a step that adds nothing
    pub opening_faults : (l : Level) (ls : List Level) (p q : Partial) → partial_faults p (drop (length (sofar_outer ls ++ sofar_level l)) ps) ≡ [] → partial_faults q (drop (length (sofar_outer (l ∷ ls) ++ [])) ps) ≡ []
        → state_faults (Inside q (level [] false) (l ∷ ls)) ps ≡ state_faults (Inside p l ls) ps
    opening_faults l ls p q none nothing =
        ap (λ (fs : List CodeAt). (outer_faults (l ∷ ls) ps ++ []) ++ fs) nothing
        ∙ (append-nil (outer_faults (l ∷ ls) ps ++ []) ∙ ap (λ (fs : List CodeAt). outer_faults (l ∷ ls) ps ++ fs) (sym none))

    -- a word adds what it is
    pub word_faults : (a : Atom) (l : Level) (ls : List Level) (w : Word) → (p : Partial) → partial_faults p (drop (length (sofar_outer ls ++ sofar_level (level (l.clauses ++ before (clause_if l.negated a) w ∷ []) false))) ps) ≡ []
        → state_faults (Inside p (level (l.clauses ++ before (clause_if l.negated a) w ∷ []) false) ls) ps
        ≡ state_faults (Inside (Complete a) l ls) ps ++ word (word_behind None l.clauses) w (nth ps (length (sofar (Inside (Complete a) l ls))))
    word_faults a l ls w p nothing =
        let os = outer_faults ls ps in
        let qs = drop (length (sofar_outer ls)) ps in
        let bs = l.clauses in
        let c = clause_if l.negated a in
        let rs = drop (length (sofar_before bs)) qs in
        let old = before_faults None bs qs in
        let k = length (spell_clause c) in
        let here : clause c rs ≡ atom a (drop (length (sofar_outer ls ++ sofar_level l)) ps) =
        clause_faults_of l.negated a rs ∙ ap (atom a) (behind_both qs (sofar_before bs) (sofar_not l.negated) ∙ behind_both ps (sofar_outer ls) (sofar_level l)) in
        let where_is : nth rs k ≡ nth ps (length (sofar (Inside (Complete a) l ls))) =
        nth_dropped (length (sofar_before bs)) k qs
        ∙ (nth_dropped (length (sofar_outer ls)) (length (sofar_before bs) + k) ps
        ∙ same_nth ps (length (sofar_outer ls) + (length (sofar_before bs) + k)) (length (sofar (Inside (Complete a) l ls))) (omega (
          arith,
          ap length (clause_spells l.negated a),
          length-append (sofar_not l.negated) (spell_atom a),
          length-append (sofar_before bs) (sofar_not l.negated),
          length-append (sofar_level l) (spell_atom a),
          length-append (sofar_outer ls) (sofar_level l ++ spell_atom a),
        ))) in
        let said = word (word_behind None bs) w in
        ap (λ (fs : List CodeAt). (os ++ before_faults None (bs ++ before c w ∷ []) qs) ++ fs) nothing
        ∙ (append-nil (os ++ before_faults None (bs ++ before c w ∷ []) qs)
        ∙ (ap (λ (fs : List CodeAt). os ++ fs) (before_more None bs c w qs)
        ∙ (sym (append_assoc os old (clause c rs ++ said (nth rs k)))
        ∙ (sym (append_assoc (os ++ old) (clause c rs) (said (nth rs k)))
        ∙ (ap (λ (fs : List CodeAt). ((os ++ old) ++ fs) ++ said (nth rs k)) here
        ∙ ap (λ (q : At). state_faults (Inside (Complete a) l ls) ps ++ said q) where_is)))))

    -- a parenthesis that closes adds nothing
    pub closing_faults : (a : Atom) (l m : Level) (ls : List Level) → state_faults (Inside (Complete (enclosed (ended l a))) m ls) ps ≡ state_faults (Inside (Complete a) l (m ∷ ls)) ps
    closing_faults a l m ls =
        let os = outer_faults (m ∷ ls) ps in
        let front = sofar_outer ls ++ sofar_level m in
        let qs = drop (length (sofar_outer (m ∷ ls))) ps in
        let place : drop 1 (drop (length front) ps) ≡ qs =
        dropped (length front) 1 ps ∙ same_drop ps (length front + 1) (length (sofar_outer (m ∷ ls))) (omega (arith, length-append (sofar_outer ls) (sofar_level m), length-append (sofar_outer ls) (sofar_level m ++ Opening ∷ []), length-append (sofar_level m) (Opening ∷ []))) in
        ap (λ (fs : List CodeAt). os ++ fs)
        (enclosed_is (ended l a) (drop (length front) ps) ∙ (ap (group None (ended l a)) place ∙ (ended_faults l a qs ∙ ap (λ (rs : List At). before_faults None l.clauses qs ++ atom a rs) (behind_both ps (sofar_outer (m ∷ ls)) (sofar_level l)))))
        ∙ sym (append_assoc os (before_faults None l.clauses qs) (atom a (drop (length (sofar_outer (m ∷ ls) ++ sofar_level l)) ps)))

    -- at the end they are the query's
    pub whole_faults : (a : Atom) (l : Level) → state_faults (Inside (Complete a) l []) ps ≡ group None (ended l a) ps
    whole_faults a l = sym (ended_faults l a ps)
