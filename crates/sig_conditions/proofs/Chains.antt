-- Chains of parts: what a reader of a chain answers, from what its parts are read as, and back.
use Rattle.std.proofs.Common.{ℕ, zero, suc, ◌≡◌, Bool, true, false, List, [], ◌∷◌, length, refl, ap, ◌∙◌}
use Rattle.std.specs.Prelude.{Some, None, if◌then◌else◌}
use Rattle.std.specs.declared.option.Option.{Option}
use Rattle.sig_conditions.specs.declared.word.Word.{Word}
use Rattle.sig_conditions.specs.Conditions.{Cond, Conds, no_conds, put}
use Rattle.sig_conditions.specs.Words.{begins}
use Rattle.sig_conditions.specs.Reader.{◌>>=◌, read, read_map, tail_in, chain_in}

pub chain_at : (part : List Word → Option (Cond × List Word)) (joins : Word → Bool) (join : Cond → Conds → Cond) (ws behind rest : List Word) (c : Cond) (cs : Conds)
    → part ws ≡ read c behind → tail_in part joins (length behind) behind ≡ read cs rest → chain_in part joins join ws ≡ read (join c cs) rest
unfolding chain_in
chain_at part joins join ws behind rest c cs h t =
    ap (λ (o : Option (Cond × List Word)). o >>= (λ r. read_map (join r.0) (tail_in part joins (length r.1) r.1))) h ∙ ap (read_map (join c)) t

pub tail_next : (part : List Word → Option (Cond × List Word)) (joins : Word → Bool) (k : ℕ) (w : Word) (ws behind rest : List Word) (c : Cond) (cs : Conds)
    → joins w ≡ true → part ws ≡ read c behind → tail_in part joins k behind ≡ read cs rest → tail_in part joins (suc k) (w ∷ ws) ≡ read (put c cs) rest
unfolding tail_in
tail_next part joins k w ws behind rest c cs j h t =
    rw j (ap (λ (o : Option (Cond × List Word)). o >>= (λ r. read_map (put r.0) (tail_in part joins k r.1))) h ∙ ap (read_map (put c)) t)

pub tail_stop : (part : List Word → Option (Cond × List Word)) (joins : Word → Bool) (k : ℕ) (rest : List Word)
    → begins joins rest ≡ false → tail_in part joins k rest ≡ read no_conds rest
unfolding tail_in
tail_stop part joins zero rest b = refl
tail_stop part joins (suc k) [] b = refl
tail_stop part joins (suc k) (w ∷ ws) b = rw b refl

some_same : {A : Type 0} (x y : A) → Some x ≡ Some y → x ≡ y
some_same x y h = cc

-- equal readings have equal values and leave the same words
pub same_read : {A : Type 0} (a b : A) (r s : List Word) → read a r ≡ read b s → (a ≡ b) × (r ≡ s)
same_read {A} a b r s h =
    let e = some_same {A = A × List Word} (a, r) (b, s) h in
    (ap (λ (p : A × List Word). p.0) e, ap (λ (p : A × List Word). p.1) e)

-- what was read by a map was read before
pub record Mapped {A B : Type 0} (f : A → B) (o : Option (A × List Word)) (b : B) (rest : List Word) : Type 0 where
  pub was : A
  pub is : o ≡ read was rest
  pub made : f was ≡ b

pub read_map_some : {A B : Type 0} (f : A → B) (o : Option (A × List Word)) (b : B) (rest : List Word) → read_map f o ≡ read b rest → Mapped f o b rest
read_map_some f None b rest h = absurd cc
read_map_some {A} {B} f (Some (a, r)) b rest h =
    let e = same_read (f a) b r rest h in
    record { was = a; is = ap (λ (xs : List Word). read a xs) e.1; made = e.0 }

pub record Bound {A B : Type 0} (o : Option A) (f : A → Option B) (b : B) : Type 0 where
  pub was : A
  pub is : o ≡ Some was
  pub then_is : f was ≡ Some b

pub bind_some : {A B : Type 0} (o : Option A) (f : A → Option B) (b : B) → (o >>= f) ≡ Some b → Bound o f b
bind_some None f b h = absurd cc
bind_some (Some a) f b h = record { was = a; is = refl; then_is = h }

-- a chain that is read: its first part and its tail
pub record Chained (part : List Word → Option (Cond × List Word)) (joins : Word → Bool) (join : Cond → Conds → Cond) (ws rest : List Word) (e : Cond) : Type 0 where
  pub first : Cond
  pub behind : List Word
  pub parts : Conds
  pub reads : part ws ≡ read first behind
  pub tail : tail_in part joins (length behind) behind ≡ read parts rest
  pub made : join first parts ≡ e

pub chain_case : (part : List Word → Option (Cond × List Word)) (joins : Word → Bool) (join : Cond → Conds → Cond) (ws rest : List Word) (e : Cond)
    → chain_in part joins join ws ≡ read e rest → Chained part joins join ws rest e
unfolding chain_in
chain_case part joins join ws rest e h =
    let b = bind_some (part ws) (λ r. read_map (join r.0) (tail_in part joins (length r.1) r.1)) (e, rest) h in
    let m = read_map_some (join b.was.0) (tail_in part joins (length b.was.1) b.was.1) e rest b.then_is in
    record { first = b.was.0; behind = b.was.1; parts = m.was; reads = b.is; tail = m.is; made = m.made }

-- a tail that is read: it ends there, or goes on
pub data Tail (part : List Word → Option (Cond × List Word)) (joins : Word → Bool) (k : ℕ) (w : Word) (ws rest : List Word) (cs : Conds) : Type 0 where
  stops : no_conds ≡ cs → w ∷ ws ≡ rest → Tail part joins k w ws rest cs
  goes : (c : Cond) (behind : List Word) (ds : Conds) → joins w ≡ true → part ws ≡ read c behind → tail_in part joins k behind ≡ read ds rest → put c ds ≡ cs
      → Tail part joins k w ws rest cs

tail_cases : (part : List Word → Option (Cond × List Word)) (joins : Word → Bool) (k : ℕ) (w : Word) (ws rest : List Word) (cs : Conds) (b : Bool) → joins w ≡ b
    → (if b then (part ws >>= (λ r. read_map (put r.0) (tail_in part joins k r.1))) else read no_conds (w ∷ ws)) ≡ read cs rest → Tail part joins k w ws rest cs
tail_cases part joins k w ws rest cs false j h =
    let e = same_read no_conds cs (w ∷ ws) rest h in stops e.0 e.1
tail_cases part joins k w ws rest cs true j h =
    let b = bind_some (part ws) (λ r. read_map (put r.0) (tail_in part joins k r.1)) (cs, rest) h in
    let m = read_map_some (put b.was.0) (tail_in part joins k b.was.1) cs rest b.then_is in
    goes b.was.0 b.was.1 m.was j b.is m.is m.made

pub tail_case : (part : List Word → Option (Cond × List Word)) (joins : Word → Bool) (k : ℕ) (w : Word) (ws rest : List Word) (cs : Conds)
    → tail_in part joins (suc k) (w ∷ ws) ≡ read cs rest → Tail part joins k w ws rest cs
unfolding tail_in
tail_case part joins k w ws rest cs h = tail_cases part joins k w ws rest cs (joins w) refl h
