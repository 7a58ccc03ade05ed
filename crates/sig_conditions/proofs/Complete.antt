-- What the grammar calls a condition is read, whatever stands behind it.
use Rattle.std.proofs.Common.{ℕ, zero, suc, ◌≡◌, ◌≤◌, ◌+◌, false, List, [], ◌∷◌, ◌++◌, length, refl, ap, sym, ◌∙◌, arith, append_assoc, length-append}
use Rattle.std.specs.Prelude.{Some}
use Rattle.std.specs.declared.option.Option.{Option}
use Rattle.sig_conditions.specs.declared.word.Word.{Word}
use Rattle.sig_conditions.specs.declared.word.Word.TheVariants.{Fixed, Name}
use Rattle.sig_conditions.specs.declared.word.Sign.TheVariants.{Open, Close, Or, And, Not, One, All, Of}
use Rattle.sig_conditions.specs.Conditions.{Cond, CName, COneOf, CAllOf, CNot, Conds, joined_or, joined_and}
use Rattle.sig_conditions.specs.Words.{begins, nesting, nests, is_sign}
use Rattle.sig_conditions.specs.Grammar.{selector_of, IsOr, or_chain, OrTail, or_end, or_next, IsAnd, and_chain, AndTail, and_end, and_next, IsNot, negated, plain, IsAtom, paren, named, one_of, all_of}
use Rattle.sig_conditions.specs.Reader.{◌>>=◌, read, read_map, tail_in, not_in, and_in, or_in, closed}
use Rattle.sig_conditions.proofs.Chains.{chain_at, tail_next, tail_stop}

pub nesting-append : (p q : List Word) → nesting (p ++ q) ≡ nesting p + nesting q
unfolding nesting
nesting-append [] q = omega arith
nesting-append (w ∷ p) q = omega (arith, nesting-append p q)

pub nesting-nil : nesting [] ≡ 0
unfolding nesting
nesting-nil = refl

pub nesting-cons : (w : Word) (ws : List Word) → nesting (w ∷ ws) ≡ nests w + nesting ws
unfolding nesting
nesting-cons w ws = refl

-- how many nest in a list that begins with a word and is two parts
parts_nest : (w : Word) (ws p q : List Word) (d : ℕ) → ws ≡ w ∷ (p ++ q) → nesting ws ≤ d → nests w + nesting p + nesting q ≤ d
parts_nest w ws p q d e n = omega (arith, ap nesting e, nesting-cons w (p ++ q), nesting-append p q)

two_nest : (ws p q : List Word) (d : ℕ) → ws ≡ p ++ q → nesting ws ≤ d → nesting p + nesting q ≤ d
two_nest ws p q d e n = omega (arith, ap nesting e, nesting-append p q)

one_nests : (w : Word) (ws p : List Word) (d : ℕ) → ws ≡ w ∷ p → nesting ws ≤ d → nests w + nesting p ≤ d
one_nests w ws p d e n = omega (arith, ap nesting e, nesting-cons w p)

split_two : (ws p q rest : List Word) → ws ≡ p ++ q → ws ++ rest ≡ p ++ (q ++ rest)
split_two ws p q rest e = ap (λ (xs : List Word). xs ++ rest) e ∙ append_assoc p q rest

split_word : (w : Word) (ws p q rest : List Word) → ws ≡ w ∷ (p ++ q) → ws ++ rest ≡ w ∷ (p ++ (q ++ rest))
split_word w ws p q rest e = ap (λ (xs : List Word). xs ++ rest) e ∙ ap (λ (xs : List Word). w ∷ xs) (append_assoc p q rest)

or_tail_front : {q : List Word} {cs : Conds} → OrTail q cs → (rest : List Word) → begins (is_sign And) rest ≡ false → begins (is_sign And) (q ++ rest) ≡ false
or_tail_front (or_end w) rest b = ap (λ (xs : List Word). begins (is_sign And) (xs ++ rest)) w ∙ b
or_tail_front (or_next p q w a t) rest b = ap (λ (xs : List Word). begins (is_sign And) (xs ++ rest)) w

longer : (w : Word) (xs ys : List Word) (k : ℕ) → xs ≡ w ∷ ys → length xs ≤ suc k → length ys ≤ k
longer w xs ys k e l = omega (arith, ap length e)

behind_shorter : (p q : List Word) (k : ℕ) → length (p ++ q) ≤ k → length q ≤ k
behind_shorter p q k l = omega (arith, length-append p q)

not_zero : {A : Type 0} (w : Word) (ws ys : List Word) → ws ≡ w ∷ ys → length ws ≤ 0 → A
not_zero w ws ys e l = absurd (omega (arith, ap length e))

not_deep : {A : Type 0} (w : Word) (ws p : List Word) → ws ≡ w ∷ p → nests w ≡ 1 → nesting ws ≤ 0 → A
not_deep w ws p e s n = absurd (omega (arith, one_nests w ws p 0 e n))

-- an atom that is no parenthesis, at any depth
name_reads : (d : ℕ) (n : List ℕ) (rest : List Word) → not_in d (Name n ∷ rest) ≡ read (CName n) rest
unfolding not_in
name_reads zero n rest = refl
name_reads (suc d) n rest = refl

one_reads : (d : ℕ) (w : Word) (s : _) (rest : List Word) → selector_of w ≡ Some s → not_in d (Fixed One ∷ Fixed Of ∷ w ∷ rest) ≡ read (COneOf s) rest
unfolding not_in
one_reads zero w s rest e = rw e refl
one_reads (suc d) w s rest e = rw e refl

all_reads : (d : ℕ) (w : Word) (s : _) (rest : List Word) → selector_of w ≡ Some s → not_in d (Fixed All ∷ Fixed Of ∷ w ∷ rest) ≡ read (CAllOf s) rest
unfolding not_in
all_reads zero w s rest e = rw e refl
all_reads (suc d) w s rest e = rw e refl

not_reads : (d : ℕ) (ws rest : List Word) (c : Cond) → not_in d ws ≡ read c rest → not_in (suc d) (Fixed Not ∷ ws) ≡ read (CNot c) rest
unfolding not_in
not_reads d ws rest c h = ap (read_map CNot) h

paren_reads : (d : ℕ) (ws rest : List Word) (c : Cond) → or_in d ws ≡ read c (Fixed Close ∷ rest) → not_in (suc d) (Fixed Open ∷ ws) ≡ read c rest
unfolding not_in
paren_reads d ws rest c h = ap (λ (o : Option (Cond × List Word)). o >>= (λ r. closed r.0 r.1)) h

mutual
  pub read_or : {ws : List Word} {e : Cond} → IsOr ws e → (d : ℕ) (rest : List Word) → nesting ws ≤ d
      → begins (is_sign Or) rest ≡ false → begins (is_sign And) rest ≡ false → or_in d (ws ++ rest) ≡ read e rest
  read_or {ws} {e} (or_chain p q c cs w a t j) d rest n bo ba =
      ap (or_in d) (split_two ws p q rest w)
      ∙ (chain_at (and_in d) (is_sign Or) joined_or (p ++ (q ++ rest)) (q ++ rest) rest c cs
      (read_and a d (q ++ rest) (omega (arith, two_nest ws p q d w n)) (or_tail_front t rest ba))
      (read_or_tail t d (length (q ++ rest)) rest (omega (arith, two_nest ws p q d w n)) (omega arith) bo ba)
      ∙ ap (λ (x : Cond). read x rest) (sym j))

  pub read_or_tail : {ws : List Word} {cs : Conds} → OrTail ws cs → (d k : ℕ) (rest : List Word) → nesting ws ≤ d → length (ws ++ rest) ≤ k
      → begins (is_sign Or) rest ≡ false → begins (is_sign And) rest ≡ false → tail_in (and_in d) (is_sign Or) k (ws ++ rest) ≡ read cs rest
  read_or_tail {ws} (or_end w) d k rest n l bo ba =
      ap (λ (xs : List Word). tail_in (and_in d) (is_sign Or) k (xs ++ rest)) w ∙ tail_stop (and_in d) (is_sign Or) k rest bo
  read_or_tail {ws} (or_next p q w a t) d zero rest n l bo ba = not_zero (Fixed Or) (ws ++ rest) (p ++ (q ++ rest)) (split_word (Fixed Or) ws p q rest w) l
  read_or_tail {ws} {cs} (or_next {c = c} {cs = ds} p q w a t) d (suc k) rest n l bo ba =
      ap (tail_in (and_in d) (is_sign Or) (suc k)) (split_word (Fixed Or) ws p q rest w)
      ∙ tail_next (and_in d) (is_sign Or) k (Fixed Or) (p ++ (q ++ rest)) (q ++ rest) rest c ds refl
      (read_and a d (q ++ rest) (omega (arith, parts_nest (Fixed Or) ws p q d w n)) (or_tail_front t rest ba))
      (read_or_tail t d k rest (omega (arith, parts_nest (Fixed Or) ws p q d w n))
      (behind_shorter p (q ++ rest) k (longer (Fixed Or) (ws ++ rest) (p ++ (q ++ rest)) k (split_word (Fixed Or) ws p q rest w) l)) bo ba)

  pub read_and : {ws : List Word} {e : Cond} → IsAnd ws e → (d : ℕ) (rest : List Word) → nesting ws ≤ d
      → begins (is_sign And) rest ≡ false → and_in d (ws ++ rest) ≡ read e rest
  read_and {ws} {e} (and_chain p q c cs w a t j) d rest n ba =
      ap (and_in d) (split_two ws p q rest w)
      ∙ (chain_at (not_in d) (is_sign And) joined_and (p ++ (q ++ rest)) (q ++ rest) rest c cs
      (read_not a d (q ++ rest) (omega (arith, two_nest ws p q d w n)))
      (read_and_tail t d (length (q ++ rest)) rest (omega (arith, two_nest ws p q d w n)) (omega arith) ba)
      ∙ ap (λ (x : Cond). read x rest) (sym j))

  pub read_and_tail : {ws : List Word} {cs : Conds} → AndTail ws cs → (d k : ℕ) (rest : List Word) → nesting ws ≤ d → length (ws ++ rest) ≤ k
      → begins (is_sign And) rest ≡ false → tail_in (not_in d) (is_sign And) k (ws ++ rest) ≡ read cs rest
  read_and_tail {ws} (and_end w) d k rest n l ba =
      ap (λ (xs : List Word). tail_in (not_in d) (is_sign And) k (xs ++ rest)) w ∙ tail_stop (not_in d) (is_sign And) k rest ba
  read_and_tail {ws} (and_next p q w a t) d zero rest n l ba = not_zero (Fixed And) (ws ++ rest) (p ++ (q ++ rest)) (split_word (Fixed And) ws p q rest w) l
  read_and_tail {ws} {cs} (and_next {c = c} {cs = ds} p q w a t) d (suc k) rest n l ba =
      ap (tail_in (not_in d) (is_sign And) (suc k)) (split_word (Fixed And) ws p q rest w)
      ∙ tail_next (not_in d) (is_sign And) k (Fixed And) (p ++ (q ++ rest)) (q ++ rest) rest c ds refl
      (read_not a d (q ++ rest) (omega (arith, parts_nest (Fixed And) ws p q d w n)))
      (read_and_tail t d k rest (omega (arith, parts_nest (Fixed And) ws p q d w n))
      (behind_shorter p (q ++ rest) k (longer (Fixed And) (ws ++ rest) (p ++ (q ++ rest)) k (split_word (Fixed And) ws p q rest w) l)) ba)

  pub read_not : {ws : List Word} {e : Cond} → IsNot ws e → (d : ℕ) (rest : List Word) → nesting ws ≤ d → not_in d (ws ++ rest) ≡ read e rest
  read_not {ws} (negated p w a) zero rest n = not_deep (Fixed Not) ws p w refl n
  read_not {ws} (negated {c = c} p w a) (suc d) rest n =
      ap (λ (xs : List Word). not_in (suc d) (xs ++ rest)) w
      ∙ not_reads d (p ++ rest) rest c (read_not a d rest (omega (arith, one_nests (Fixed Not) ws p (suc d) w n)))
  read_not (plain a) d rest n = read_atom a d rest n

  pub read_atom : {ws : List Word} {e : Cond} → IsAtom ws e → (d : ℕ) (rest : List Word) → nesting ws ≤ d → not_in d (ws ++ rest) ≡ read e rest
  read_atom {ws} (paren p w a) zero rest n = not_deep (Fixed Open) ws (p ++ Fixed Close ∷ []) w refl n
  read_atom {ws} {e} (paren p w a) (suc d) rest n =
      ap (not_in (suc d)) (split_word (Fixed Open) ws p (Fixed Close ∷ []) rest w)
      ∙ paren_reads d (p ++ Fixed Close ∷ rest) rest e
      (read_or a d (Fixed Close ∷ rest) (omega (arith, parts_nest (Fixed Open) ws p (Fixed Close ∷ []) (suc d) w n)) refl refl)
  read_atom (named n w) d rest m = ap (λ (xs : List Word). not_in d (xs ++ rest)) w ∙ name_reads d n rest
  read_atom (one_of v s w i) d rest n = ap (λ (xs : List Word). not_in d (xs ++ rest)) w ∙ one_reads d v s rest i
  read_atom (all_of v s w i) d rest n = ap (λ (xs : List Word). not_in d (xs ++ rest)) w ∙ all_reads d v s rest i
