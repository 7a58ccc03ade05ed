-- What a reader answers at the front of the words is a condition by the grammar.
use Rattle.std.proofs.Common.{ℕ, zero, suc, ◌≡◌, ◌≤◌, Bool, true, false, List, [], ◌∷◌, ◌++◌, length, refl, ap, sym, ◌∙◌, subst, arith, append_assoc}
use Rattle.std.specs.Prelude.{Some, None, if◌then◌else◌}
use Rattle.std.specs.declared.option.Option.{Option}
use Rattle.sig_conditions.specs.declared.selector.Selector.{Selector}
use Rattle.sig_conditions.specs.declared.word.Word.{Word}
use Rattle.sig_conditions.specs.declared.word.Sign.{Sign}
use Rattle.sig_conditions.specs.declared.word.Word.TheVariants.{Fixed, Name, Pattern}
use Rattle.sig_conditions.specs.declared.word.Sign.TheVariants.{Open, Close, Or, And, Not, One, All, Of}
use Rattle.sig_conditions.specs.Conditions.{Cond, CName, COneOf, CAllOf, CNot, Conds, no_conds, put, joined_or, joined_and}
use Rattle.sig_conditions.specs.Words.{nesting, same, is_sign}
use Rattle.sig_conditions.specs.Grammar.{selector_of, IsOr, or_chain, OrTail, or_end, or_next, IsAnd, and_chain, AndTail, and_end, and_next, IsNot, negated, plain, paren, named, one_of, all_of}
use Rattle.sig_conditions.specs.Reader.{◌>>=◌, read, read_map, tail_in, chain_in, not_in, and_in, or_in, closed, choice_of, selected, behind_of, atom_at, not_at, no_more, alone, condition_in}
use Rattle.sig_conditions.proofs.Chains.{same_read, read_map_some, bind_some, chain_case, stops, goes, tail_case}
use Rattle.sig_conditions.proofs.Complete.{read_or}
use Rattle.sig_conditions.proofs.WordTests.{same_sign, sign_word}

-- a front of the words is this by the grammar, and these stand behind
pub record Front {C : Type 0} (R : List Word → C → Type 0) (ws : List Word) (c : C) (rest : List Word) : Type 0 where
  pub front : List Word
  pub shape : ws ≡ front ++ rest
  pub holds : R front c

-- a reader that answers only what the grammar has
pub record Sound {C : Type 0} (R : List Word → C → Type 0) (part : List Word → Option (C × List Word)) : Type 0 where
  pub sound : (ws : List Word) (c : C) (rest : List Word) → part ws ≡ read c rest → Front R ws c rest

-- a part in front of a tail
rejoin : (w v : Word) (ws behind rest p q : List Word) → w ≡ v → ws ≡ p ++ behind → behind ≡ q ++ rest → w ∷ ws ≡ (v ∷ (p ++ q)) ++ rest
rejoin w v ws behind rest p q e f g =
    ap (λ (x : Word). x ∷ ws) e ∙ ap (λ (xs : List Word). v ∷ xs) (f ∙ (ap (λ (xs : List Word). p ++ xs) g ∙ sym (append_assoc p q rest)))

rejoin_two : (ws behind rest p q : List Word) → ws ≡ p ++ behind → behind ≡ q ++ rest → ws ≡ (p ++ q) ++ rest
rejoin_two ws behind rest p q f g = f ∙ (ap (λ (xs : List Word). p ++ xs) g ∙ sym (append_assoc p q rest))

or_stops : (ws rest : List Word) (cs : Conds) → no_conds ≡ cs → ws ≡ rest → Front OrTail ws cs rest
or_stops ws rest cs e f = record { front = []; shape = f; holds = subst (λ (x : Conds). OrTail [] x) e (or_end refl) }

and_stops : (ws rest : List Word) (cs : Conds) → no_conds ≡ cs → ws ≡ rest → Front AndTail ws cs rest
and_stops ws rest cs e f = record { front = []; shape = f; holds = subst (λ (x : Conds). AndTail [] x) e (and_end refl) }

or_goes : (w : Word) (ws behind rest : List Word) (c : Cond) (ds cs : Conds) → w ≡ Fixed Or → put c ds ≡ cs
    → Front IsAnd ws c behind → Front OrTail behind ds rest → Front OrTail (w ∷ ws) cs rest
or_goes w ws behind rest c ds cs j e a b = record {
  front = Fixed Or ∷ (a.front ++ b.front);
  shape = rejoin w (Fixed Or) ws behind rest a.front b.front j a.shape b.shape;
  holds = subst (λ (x : Conds). OrTail (Fixed Or ∷ (a.front ++ b.front)) x) e (or_next a.front b.front refl a.holds b.holds);
}

and_goes : (w : Word) (ws behind rest : List Word) (c : Cond) (ds cs : Conds) → w ≡ Fixed And → put c ds ≡ cs
    → Front IsNot ws c behind → Front AndTail behind ds rest → Front AndTail (w ∷ ws) cs rest
and_goes w ws behind rest c ds cs j e a b = record {
  front = Fixed And ∷ (a.front ++ b.front);
  shape = rejoin w (Fixed And) ws behind rest a.front b.front j a.shape b.shape;
  holds = subst (λ (x : Conds). AndTail (Fixed And ∷ (a.front ++ b.front)) x) e (and_next a.front b.front refl a.holds b.holds);
}

tail_zero : (part : List Word → Option (Cond × List Word)) (joins : Word → Bool) (ws rest : List Word) (cs : Conds)
    → tail_in part joins zero ws ≡ read cs rest → (no_conds ≡ cs) × (ws ≡ rest)
unfolding tail_in
tail_zero part joins ws rest cs h = same_read no_conds cs ws rest h

tail_empty : (part : List Word → Option (Cond × List Word)) (joins : Word → Bool) (k : ℕ) (rest : List Word) (cs : Conds)
    → tail_in part joins (suc k) [] ≡ read cs rest → (no_conds ≡ cs) × ([] ≡ rest)
unfolding tail_in
tail_empty part joins k rest cs h = same_read no_conds cs [] rest h

mutual
  or_tail_sound : (part : List Word → Option (Cond × List Word)) → Sound IsAnd part → (k : ℕ) (ws : List Word) (cs : Conds) (rest : List Word)
      → tail_in part (is_sign Or) k ws ≡ read cs rest → Front OrTail ws cs rest
  or_tail_sound part s zero ws cs rest h = let e = tail_zero part (is_sign Or) ws rest cs h in or_stops ws rest cs e.0 e.1
  or_tail_sound part s (suc k) [] cs rest h = let e = tail_empty part (is_sign Or) k rest cs h in or_stops [] rest cs e.0 e.1
  or_tail_sound part s (suc k) (w ∷ ws) cs rest h =
      elim (tail_case part (is_sign Or) k w ws rest cs h) as (λ _. Front OrTail (w ∷ ws) cs rest) [
        | stops e f ↦ or_stops (w ∷ ws) rest cs e f
        | goes c behind ds j p t e ↦
            or_goes w ws behind rest c ds cs (sign_word Or w j) e (s.sound ws c behind p) (or_tail_sound part s k behind ds rest t)
      ]

mutual
  and_tail_sound : (part : List Word → Option (Cond × List Word)) → Sound IsNot part → (k : ℕ) (ws : List Word) (cs : Conds) (rest : List Word)
      → tail_in part (is_sign And) k ws ≡ read cs rest → Front AndTail ws cs rest
  and_tail_sound part s zero ws cs rest h = let e = tail_zero part (is_sign And) ws rest cs h in and_stops ws rest cs e.0 e.1
  and_tail_sound part s (suc k) [] cs rest h = let e = tail_empty part (is_sign And) k rest cs h in and_stops [] rest cs e.0 e.1
  and_tail_sound part s (suc k) (w ∷ ws) cs rest h =
      elim (tail_case part (is_sign And) k w ws rest cs h) as (λ _. Front AndTail (w ∷ ws) cs rest) [
        | stops e f ↦ and_stops (w ∷ ws) rest cs e f
        | goes c behind ds j p t e ↦
            and_goes w ws behind rest c ds cs (sign_word And w j) e (s.sound ws c behind p) (and_tail_sound part s k behind ds rest t)
      ]

or_sound : (part : List Word → Option (Cond × List Word)) → Sound IsAnd part → Sound IsOr (chain_in part (is_sign Or) joined_or)
or_sound part s = record {
  sound = λ ws c rest h.
      let g = chain_case part (is_sign Or) joined_or ws rest c h in
      let a = s.sound ws g.first g.behind g.reads in
      let t = or_tail_sound part s (length g.behind) g.behind g.parts rest g.tail in
      record {
        front = a.front ++ t.front;
        shape = rejoin_two ws g.behind rest a.front t.front a.shape t.shape;
        holds = or_chain a.front t.front g.first g.parts refl a.holds t.holds (sym g.made);
      };
}

and_sound : (part : List Word → Option (Cond × List Word)) → Sound IsNot part → Sound IsAnd (chain_in part (is_sign And) joined_and)
and_sound part s = record {
  sound = λ ws c rest h.
      let g = chain_case part (is_sign And) joined_and ws rest c h in
      let a = s.sound ws g.first g.behind g.reads in
      let t = and_tail_sound part s (length g.behind) g.behind g.parts rest g.tail in
      record {
        front = a.front ++ t.front;
        shape = rejoin_two ws g.behind rest a.front t.front a.shape t.shape;
        holds = and_chain a.front t.front g.first g.parts refl a.holds t.holds (sym g.made);
      };
}

-- a closing parenthesis stands there
closed_some : (c e : Cond) (ws rest : List Word) → closed c ws ≡ read e rest → (c ≡ e) × (ws ≡ Fixed Close ∷ rest)
closed_some c e [] rest h = absurd cc
closed_some c e (w ∷ ws) rest h = by (is_sign Close w) refl h where
  by : (b : Bool) → is_sign Close w ≡ b → (if b then read c ws else None) ≡ read e rest → (c ≡ e) × (w ∷ ws ≡ Fixed Close ∷ rest)
  by true j h = let s = same_read c e ws rest h in (s.0, ap (λ (x : Word). x ∷ ws) (sign_word Close w j) ∙ ap (λ (xs : List Word). Fixed Close ∷ xs) s.1)
  by false j h = absurd cc

-- `of` and a word that selects
record Selected (make : Selector → Cond) (ws : List Word) (c : Cond) (rest : List Word) : Type 0 where
  word : Word
  selector : Selector
  shape : ws ≡ Fixed Of ∷ word ∷ rest
  selects : selector_of word ≡ Some selector
  made : make selector ≡ c

chosen_some : (make : Selector → Cond) (w : Word) (o : Option Selector) (ws : List Word) (c : Cond) (rest : List Word) → selector_of w ≡ o
    → choice_of make o ws ≡ read c rest → Selected make (Fixed Of ∷ w ∷ ws) c rest
chosen_some make w None ws c rest e h = absurd cc
chosen_some make w (Some s) ws c rest e h =
    let f = same_read (make s) c ws rest h in
    record { word = w; selector = s; shape = ap (λ (xs : List Word). Fixed Of ∷ w ∷ xs) f.1; selects = e; made = f.0 }

behind_some : (make : Selector → Cond) (ws : List Word) (c : Cond) (rest : List Word) → behind_of make ws ≡ read c rest → Selected make (Fixed Of ∷ ws) c rest
behind_some make [] c rest h = absurd cc
behind_some make (w ∷ ws) c rest h = chosen_some make w (selector_of w) ws c rest refl h

selected_some : (make : Selector → Cond) (ws : List Word) (c : Cond) (rest : List Word) → selected make ws ≡ read c rest → Selected make ws c rest
selected_some make [] c rest h = absurd cc
selected_some make (w ∷ ws) c rest h = by (is_sign Of w) refl h where
  by : (b : Bool) → is_sign Of w ≡ b → (if b then behind_of make ws else None) ≡ read c rest → Selected make (w ∷ ws) c rest
  by true j h = subst (λ (x : Word). Selected make (x ∷ ws) c rest) (sym (sign_word Of w j)) (behind_some make ws c rest h)
  by false j h = absurd cc

paren_sound : (o : List Word → Option (Cond × List Word)) → Sound IsOr o → (ws : List Word) (c : Cond) (rest : List Word)
    → atom_at o (Fixed Open) ws ≡ read c rest → Front IsNot (Fixed Open ∷ ws) c rest
paren_sound o s ws c rest h =
    let b = bind_some (o ws) (λ r. closed r.0 r.1) (c, rest) h in
    let e = closed_some b.was.0 c b.was.1 rest b.then_is in
    let f = s.sound ws b.was.0 b.was.1 b.is in
    record {
      front = Fixed Open ∷ (f.front ++ Fixed Close ∷ []);
      shape = ap (λ (xs : List Word). Fixed Open ∷ xs) (f.shape ∙ (ap (λ (xs : List Word). f.front ++ xs) e.1 ∙ sym (append_assoc f.front (Fixed Close ∷ []) rest)));
      holds = subst (λ (x : Cond). IsNot (Fixed Open ∷ (f.front ++ Fixed Close ∷ [])) x) e.0 (plain (paren f.front refl f.holds));
    }

one_sound : (ws : List Word) (c : Cond) (rest : List Word) → selected COneOf ws ≡ read c rest → Front IsNot (Fixed One ∷ ws) c rest
one_sound ws c rest h =
    let f = selected_some COneOf ws c rest h in
    record {
      front = Fixed One ∷ Fixed Of ∷ f.word ∷ [];
      shape = ap (λ (xs : List Word). Fixed One ∷ xs) f.shape;
      holds = subst (λ (x : Cond). IsNot (Fixed One ∷ Fixed Of ∷ f.word ∷ []) x) f.made (plain (one_of f.word f.selector refl f.selects));
    }

all_sound : (ws : List Word) (c : Cond) (rest : List Word) → selected CAllOf ws ≡ read c rest → Front IsNot (Fixed All ∷ ws) c rest
all_sound ws c rest h =
    let f = selected_some CAllOf ws c rest h in
    record {
      front = Fixed All ∷ Fixed Of ∷ f.word ∷ [];
      shape = ap (λ (xs : List Word). Fixed All ∷ xs) f.shape;
      holds = subst (λ (x : Cond). IsNot (Fixed All ∷ Fixed Of ∷ f.word ∷ []) x) f.made (plain (all_of f.word f.selector refl f.selects));
    }

name_sound : (n : List ℕ) (ws : List Word) (c : Cond) (rest : List Word) → read (CName n) ws ≡ read c rest → Front IsNot (Name n ∷ ws) c rest
name_sound n ws c rest h =
    let e = same_read (CName n) c ws rest h in
    record {
      front = Name n ∷ [];
      shape = ap (λ (xs : List Word). Name n ∷ xs) e.1;
      holds = subst (λ (x : Cond). IsNot (Name n ∷ []) x) e.0 (plain (named n refl));
    }

negated_sound : (n : List Word → Option (Cond × List Word)) → Sound IsNot n → (ws : List Word) (c : Cond) (rest : List Word)
    → read_map CNot (n ws) ≡ read c rest → Front IsNot (Fixed Not ∷ ws) c rest
negated_sound n s ws c rest h =
    let m = read_map_some CNot (n ws) c rest h in
    let f = s.sound ws m.was rest m.is in
    record {
      front = Fixed Not ∷ f.front;
      shape = ap (λ (xs : List Word). Fixed Not ∷ xs) f.shape;
      holds = subst (λ (x : Cond). IsNot (Fixed Not ∷ f.front) x) m.made (negated f.front refl f.holds);
    }

fixed_cases : (o : List Word → Option (Cond × List Word)) → Sound IsOr o → (s : Sign) (ws : List Word) (c : Cond) (rest : List Word) (a b d : Bool)
    → same s Open ≡ a → same s One ≡ b → same s All ≡ d
    → (if a then (o ws >>= (λ r. closed r.0 r.1)) else if b then selected COneOf ws else if d then selected CAllOf ws else None) ≡ read c rest → Front IsNot (Fixed s ∷ ws) c rest
fixed_cases o t s ws c rest true b d i j k h = subst (λ (x : Sign). Front IsNot (Fixed x ∷ ws) c rest) (sym (same_sign s Open i)) (paren_sound o t ws c rest h)
fixed_cases o t s ws c rest false true d i j k h = subst (λ (x : Sign). Front IsNot (Fixed x ∷ ws) c rest) (sym (same_sign s One j)) (one_sound ws c rest h)
fixed_cases o t s ws c rest false false true i j k h = subst (λ (x : Sign). Front IsNot (Fixed x ∷ ws) c rest) (sym (same_sign s All k)) (all_sound ws c rest h)
fixed_cases o t s ws c rest false false false i j k h = absurd cc

atom_cases : (o : List Word → Option (Cond × List Word)) → Sound IsOr o → (w : Word) (ws : List Word) (c : Cond) (rest : List Word)
    → atom_at o w ws ≡ read c rest → Front IsNot (w ∷ ws) c rest
atom_cases o t (Fixed s) ws c rest h = fixed_cases o t s ws c rest (same s Open) (same s One) (same s All) refl refl refl h
atom_cases o t (Name m) ws c rest h = name_sound m ws c rest h
atom_cases o t (Pattern m) ws c rest h = absurd cc

not_cases : (n o : List Word → Option (Cond × List Word)) → Sound IsNot n → Sound IsOr o → (ws : List Word) (c : Cond) (rest : List Word)
    → not_at n o ws ≡ read c rest → Front IsNot ws c rest
not_cases n o s t [] c rest h = absurd cc
not_cases n o s t (w ∷ ws) c rest h = by (is_sign Not w) refl h where
  by : (b : Bool) → is_sign Not w ≡ b → (if b then read_map CNot (n ws) else atom_at o w ws) ≡ read c rest → Front IsNot (w ∷ ws) c rest
  by true j h = subst (λ (x : Word). Front IsNot (x ∷ ws) c rest) (sym (sign_word Not w j)) (negated_sound n s ws c rest h)
  by false j h = atom_cases o t w ws c rest h

nothing_sound : (R : List Word → Cond → Type 0) → Sound R no_more
nothing_sound R = record { sound = λ ws c rest h. absurd cc }

pub not_in_sound : (d : ℕ) → Sound IsNot (not_in d)
unfolding not_in
not_in_sound zero = record { sound = not_cases no_more no_more (nothing_sound IsNot) (nothing_sound IsOr) }
not_in_sound (suc d) = record {
  sound = not_cases (not_in d) (chain_in (chain_in (not_in d) (is_sign And) joined_and) (is_sign Or) joined_or) (not_in_sound d)
      (or_sound (chain_in (not_in d) (is_sign And) joined_and) (and_sound (not_in d) (not_in_sound d)));
}

pub or_in_sound : (d : ℕ) → Sound IsOr (or_in d)
or_in_sound d = or_sound (and_in d) (and_sound (not_in d) (not_in_sound d))

alone_some : (r : Cond × List Word) (c : Cond) → alone r ≡ Some c → (r.0 ≡ c) × (r.1 ≡ [])
alone_some (e, []) c h = (cc, refl)
alone_some (e, w ∷ ws) c h = absurd cc

append_nothing : (xs : List Word) → xs ++ [] ≡ xs
append_nothing [] = refl
append_nothing (x ∷ xs) = ap (λ (ys : List Word). x ∷ ys) (append_nothing xs)

-- what is read as a condition is one
pub is_condition : (d : ℕ) (ws : List Word) (c : Cond) → condition_in d ws ≡ Some c → IsOr ws c
is_condition d ws c h =
    let b = bind_some (or_in d ws) alone c h in
    let a = alone_some b.was c b.then_is in
    let f = (or_in_sound d).sound ws b.was.0 b.was.1 b.is in
    let e : ws ≡ f.front = f.shape ∙ (ap (λ (xs : List Word). f.front ++ xs) a.1 ∙ append_nothing f.front) in
    subst (λ (x : Cond). IsOr ws x) a.0 (subst (λ (xs : List Word). IsOr xs b.was.0) (sym e) f.holds)

-- a condition is read, where no more words nest than the reader takes
pub reads_condition : (d : ℕ) (ws : List Word) (c : Cond) → nesting ws ≤ d → IsOr ws c → condition_in d ws ≡ Some c
reads_condition d ws c n i =
    let r : or_in d ws ≡ read c [] = ap (or_in d) (sym (append_nothing ws)) ∙ read_or i d [] n refl refl in
    ap (λ (o : Option (Cond × List Word)). o >>= alone) r

-- words are one condition, and no other
pub one_reading : (ws : List Word) (c e : Cond) → IsOr ws c → IsOr ws e → c ≡ e
one_reading ws c e p q =
    let x : nesting ws ≤ nesting ws = omega arith in
    let a = reads_condition (nesting ws) ws c x p in
    let b = reads_condition (nesting ws) ws e x q in
    let s : Some c ≡ Some e = sym a ∙ b in
    cc
