-- The loop over a chain: what has been read and the tail that is left make the whole tail.
use Rattle.std.proofs.Common.{ℕ, zero, suc, ◌≡◌, ◌<◌, ◌≤◌, ◌+◌, ◌-◌, Bool, true, false, List, [], ◌∷◌, ◌++◌, length, drop, refl, ap, sym, ◌∙◌, arith}
use Rattle.std.specs.Prelude.{Some, None}
use Rattle.std.specs.declared.option.Option.{Option}
use Rattle.sig_conditions.specs.declared.condition.Condition.{Condition}
use Rattle.sig_conditions.specs.declared.word.Word.{Word}
use Rattle.sig_conditions.specs.Conditions.{Cond, Conds, no_conds, put, conds_of, cond_view, conds_view}
use Rattle.sig_conditions.specs.Words.{begins}
use Rattle.sig_conditions.specs.Reader.{◌>>=◌, read, read_map, tail_in, chain_in}
use Rattle.sig_conditions.proofs.Chains.{tail_stop}

-- a list before the parts that follow
abbrev pub prepend : List Cond → Conds → Conds
prepend [] cs = cs
prepend (x ∷ xs) cs = put x (prepend xs cs)

prepend-end : (xs : List Cond) → prepend xs no_conds ≡ conds_of xs
prepend-end [] = refl
prepend-end (x ∷ xs) = ap (put x) (prepend-end xs)

prepend-push : (xs : List Condition) (c : Condition) (cs : Conds) → prepend (conds_view (xs ++ c ∷ [])) cs ≡ prepend (conds_view xs) (put (cond_view c) cs)
prepend-push [] c cs = refl
prepend-push (x ∷ xs) c cs = ap (put (cond_view x)) (prepend-push xs c cs)

-- nothing has been read yet
pub begun : (xs : List Condition) → xs ≡ [] → (t : Option (Conds × List Word)) → read_map (prepend (conds_view xs)) t ≡ t
begun xs e None = refl
begun xs e (Some (cs, ws)) = ap (λ (zs : List Condition). read (prepend (conds_view zs) cs) ws) e

-- what stands at a place where a test holds
pub record Standing (joins : Word → Bool) (words : List Word) (at : ℕ) : Type 0 where
  pub word : Word
  pub passes : joins word ≡ true
  pub shape : drop at words ≡ word ∷ drop (at + 1) words
  pub within : at < length words

pub front_of : (joins : Word → Bool) (words : List Word) (at : ℕ) → begins joins (drop at words) ≡ true → Standing joins words at
front_of joins [] zero b = absurd cc
front_of joins [] (suc at) b = absurd cc
front_of joins (w ∷ ws) zero b = record { word = w; passes = b; shape = refl; within = omega arith }
front_of joins (w ∷ ws) (suc at) b =
    let f = front_of joins ws at b in
    let e : suc at + 1 ≡ suc (at + 1) = omega arith in
    record {
      word = f.word;
      passes = f.passes;
      shape = f.shape ∙ ap (λ (n : ℕ). f.word ∷ drop n (w ∷ ws)) (sym e);
      within = omega (arith, f.within);
    }

-- one turn of the tail
tail_turn : (part : List Word → Option (Cond × List Word)) (joins : Word → Bool) (k : ℕ) (ws xs : List Word) (w : Word)
    → ws ≡ w ∷ xs → joins w ≡ true → tail_in part joins (suc k) ws ≡ (part xs >>= (λ r. read_map (put r.0) (tail_in part joins k r.1)))
unfolding tail_in
tail_turn part joins k ws xs w e j = ap (tail_in part joins (suc k)) e ∙ rw j refl

fuel_left : (fuel at n : ℕ) → n ≤ fuel + at → at < n → fuel ≡ suc (fuel - 1)
fuel_left fuel at n l h = omega arith

read_map_twice : (xs : List Condition) (c : Condition) (t : Option (Conds × List Word))
    → read_map (prepend (conds_view xs)) (read_map (put (cond_view c)) t) ≡ read_map (prepend (conds_view (xs ++ c ∷ []))) t
read_map_twice xs c None = refl
read_map_twice xs c (Some (cs, ws)) = ap (λ (x : Conds). read x ws) (sym (prepend-push xs c cs))

module _ (part : List Word → Option (Cond × List Word)) (joins : Word → Bool) (words : List Word) (fuel at : ℕ) (xs : List Condition) (whole : Option (Conds × List Word)) where
  -- the part that stands at the place, and then the rest of the tail
  turn : read_map (prepend (conds_view xs)) (tail_in part joins fuel (drop at words)) ≡ whole → begins joins (drop at words) ≡ true → length words ≤ fuel + at
      → read_map (prepend (conds_view xs)) (part (drop (at + 1) words) >>= (λ r. read_map (put r.0) (tail_in part joins (fuel - 1) r.1))) ≡ whole
  turn inv b l =
      let f = front_of joins words at b in
      sym (ap (λ (k : ℕ). read_map (prepend (conds_view xs)) (tail_in part joins k (drop at words))) (fuel_left fuel at (length words) l f.within)
      ∙ ap (read_map (prepend (conds_view xs))) (tail_turn part joins (fuel - 1) (drop at words) (drop (at + 1) words) f.word f.shape f.passes)) ∙ inv

  pub turned : (behind : ℕ) (c : Condition) (ys : List Condition)
      → read_map (prepend (conds_view xs)) (tail_in part joins fuel (drop at words)) ≡ whole → begins joins (drop at words) ≡ true → length words ≤ fuel + at
      → part (drop (at + 1) words) ≡ read (cond_view c) (drop behind words) → ys ≡ xs ++ c ∷ []
      → read_map (prepend (conds_view ys)) (tail_in part joins (fuel - 1) (drop behind words)) ≡ whole
  turned behind c ys inv b l p e =
      ap (λ (zs : List Condition). read_map (prepend (conds_view zs)) (tail_in part joins (fuel - 1) (drop behind words))) e
      ∙ (sym (read_map_twice xs c (tail_in part joins (fuel - 1) (drop behind words)))
      ∙ (sym (ap (λ (o : Option (Cond × List Word)). read_map (prepend (conds_view xs)) (o >>= (λ r. read_map (put r.0) (tail_in part joins (fuel - 1) r.1)))) p)
      ∙ turn inv b l))

  -- a part that isn't read ends it all
  pub later_none : read_map (prepend (conds_view xs)) (tail_in part joins fuel (drop at words)) ≡ whole → begins joins (drop at words) ≡ true → length words ≤ fuel + at
      → part (drop (at + 1) words) ≡ None → whole ≡ None
  later_none inv b l p =
      sym (turn inv b l)
      ∙ ap (λ (o : Option (Cond × List Word)). read_map (prepend (conds_view xs)) (o >>= (λ r. read_map (put r.0) (tail_in part joins (fuel - 1) r.1)))) p

  -- no further part: the tail is what was read
  pub tail_ended : read_map (prepend (conds_view xs)) (tail_in part joins fuel (drop at words)) ≡ whole → begins joins (drop at words) ≡ false
      → whole ≡ read (conds_of (conds_view xs)) (drop at words)
  tail_ended inv b =
      sym inv
      ∙ (ap (read_map (prepend (conds_view xs))) (tail_stop part joins fuel (drop at words) b)
      ∙ ap (λ (x : Conds). read x (drop at words)) (prepend-end (conds_view xs)))

pub chain_none : (part : List Word → Option (Cond × List Word)) (joins : Word → Bool) (join : Cond → Conds → Cond) (ws : List Word)
    → part ws ≡ None → chain_in part joins join ws ≡ None
unfolding chain_in
chain_none part joins join ws h = ap (λ (o : Option (Cond × List Word)). o >>= (λ r. read_map (join r.0) (tail_in part joins (length r.1) r.1))) h

pub chain_later_none : (part : List Word → Option (Cond × List Word)) (joins : Word → Bool) (join : Cond → Conds → Cond) (ws behind : List Word) (c : Cond)
    → part ws ≡ read c behind → tail_in part joins (length behind) behind ≡ None → chain_in part joins join ws ≡ None
unfolding chain_in
chain_later_none part joins join ws behind c h t =
    ap (λ (o : Option (Cond × List Word)). o >>= (λ r. read_map (join r.0) (tail_in part joins (length r.1) r.1))) h ∙ ap (read_map (join c)) t
