-- What is left of a line behind what was read is no longer than before.
use Rattle.std.proofs.Common.{◌≡◌, ℕ, zero, suc, ◌<◌, ◌≤◌, Bool, true, false, cond, not, ◌&&◌, ◌==◌, inl, inr, List, [], ◌∷◌, length, drop, Option, Some, None, Ok, Err, refl, ap, arith}
use Rattle.std.specs.List.{prefix_len}
use Rattle.std.specs.Str.{bytes_eq}
use Rattle.std.proofs.lemmas.List.{length-drop}
use Rattle.yaml_inline.specs.File.{Line, is_blank, begins, skip_blanks, ends_line}
use Rattle.yaml_inline.specs.Line.{indentation, body, is_dash, is_left_out, starts_plain, plain_len, plain_front, plain_rest}
use Rattle.yaml_inline.specs.Scalar.{Quoted, closed, open_ended, bad_escape, behind, passed, single, escape, escaped, double}
use Rattle.yaml_inline.specs.Flow.{Front, quoted_as, is_quote, quoted, merge, behind_colon, flow_key, is_seen, fresh_key, after_element}
use Rattle.yaml_inline.specs.Key.{keyed, colon_then, quoted_key, key_at}
use Rattle.yaml_inline.proofs.Flows.{length-tail}
use Rattle.yaml_blocks.proofs.Tools.{choose, allowed, bind_ok, ok_same}

pub skip_within : (cs : List ℕ) → length (skip_blanks cs) ≤ length cs
unfolding skip_blanks
skip_within cs = omega (arith, length-drop (prefix_len is_blank cs) cs)

pub tail_within : (cs : List ℕ) → length (drop 1 cs) ≤ length cs
tail_within [] = omega arith
tail_within (c ∷ cs) = omega arith

pub plain_within : (in_flow : Bool) (cs : List ℕ) → length (plain_rest in_flow cs) ≤ length cs
unfolding plain_rest
plain_within in_flow cs = omega (arith, length-drop (plain_len in_flow cs) cs)

pub body_within : (l : Line) → length (body l) ≤ length l.text
unfolding body
body_within l = omega (arith, length-drop (indentation l.text) l.text)

pub dash_tail : (cs : List ℕ) → is_dash cs ≡ true → length (drop 1 cs) < length cs
dash_tail [] e = cc
dash_tail (c ∷ cs) e = omega arith

-- ---- quotes

-- where the quotes close, fewer than n characters are left
abbrev Leaves : ℕ → Quoted → Type 0
Leaves n (closed t rest) = length rest < n
Leaves n open_ended = Unit {0}
Leaves n (bad_escape k) = Unit {0}

behind_leaves : (c n m : ℕ) (q : Quoted) → n ≤ m → Leaves n q → Leaves m (behind c q)
behind_leaves c n m (closed t rest) more h = omega arith
behind_leaves c n m open_ended more h = tt
behind_leaves c n m (bad_escape k) more h = tt

passed_leaves : (n m : ℕ) (q : Quoted) → n ≤ m → Leaves n q → Leaves m (passed q)
passed_leaves n m (closed t rest) more h = omega arith
passed_leaves n m open_ended more h = tt
passed_leaves n m (bad_escape k) more h = tt

single_leaves : (cs : List ℕ) → Leaves (length cs) (single cs)
unfolding single
single_leaves [] = tt
single_leaves (c ∷ []) = elim (c == 39) as (λ b. Leaves (length (c ∷ [])) (cond b (closed [] []) open_ended)) [ true ↦ omega arith | false ↦ tt ]
single_leaves (c ∷ d ∷ ds) =
    let n = length (c ∷ d ∷ ds) in
    elim (c == 39) as (λ b. Leaves n (cond (not b) (behind c (single (d ∷ ds))) (cond (d == 39) (behind 39 (single ds)) (closed [] (d ∷ ds))))) [
      | true ↦ elim (d == 39) as (λ b. Leaves n (cond b (behind 39 (single ds)) (closed [] (d ∷ ds)))) [
        | true ↦ behind_leaves 39 (length ds) n (single ds) (omega arith) (single_leaves ds)
        | false ↦ omega arith
      ]
      | false ↦ behind_leaves c (length (d ∷ ds)) n (single (d ∷ ds)) (omega arith) (single_leaves (d ∷ ds))
    ]

escaped_leaves : (n m : ℕ) (f : ℕ → Quoted) (o : Option (ℕ × ℕ)) → n ≤ m → ((k : ℕ) → Leaves n (f k)) → Leaves m (escaped f o)
escaped_leaves n m f None more h = tt
escaped_leaves n m f (Some e) more h = behind_leaves e.0 n m (f e.1) more (h e.1)

double_leaves : (n : ℕ) (cs : List ℕ) → Leaves (length cs) (double n cs)
unfolding double
double_leaves zero [] = tt
double_leaves (suc n) [] = tt
double_leaves (suc n) (c ∷ cs) = passed_leaves (length cs) (length (c ∷ cs)) (double n cs) (omega arith) (double_leaves n cs)
double_leaves zero (c ∷ cs) =
    let n = length (c ∷ cs) in
    let within : length cs ≤ n = omega arith in
    elim (c == 34) as (λ b. Leaves n (cond b (closed [] cs) (cond (c == 92) (escaped (λ k. double k cs) (escape cs)) (behind c (double zero cs))))) [
      | true ↦ omega arith
      | false ↦ elim (c == 92) as (λ b. Leaves n (cond b (escaped (λ k. double k cs) (escape cs)) (behind c (double zero cs)))) [
        | true ↦ escaped_leaves (length cs) n (λ k. double k cs) (escape cs) within (λ k. double_leaves k cs)
        | false ↦ behind_leaves c (length cs) n (double zero cs) within (double_leaves zero cs)
      ]
    ]

closing_within : (l : Line) (cs : List ℕ) (c : ℕ) (q : Quoted) (x : List ℕ × List ℕ) → Leaves (length (drop 1 cs)) q → quoted_as l cs c q ≡ Ok x → length x.1 < length cs
closing_within l cs c (closed t rest) x h e =
    let same = ok_same (t, rest) x e in
    omega (arith, ap (λ (y : List ℕ × List ℕ). length y.1) same, tail_within cs)
closing_within l cs c open_ended x h e = cc
closing_within l cs c (bad_escape n) x h e = cc

pub quoted_within : (l : Line) (cs : List ℕ) (x : List ℕ × List ℕ) → quoted l cs ≡ Ok x → length x.1 < length cs
unfolding quoted
quoted_within l cs x e =
    elim (choose (begins 39 cs) _ _ _ e) [
      | inl h ↦ closing_within l cs 39 (single (drop 1 cs)) x (single_leaves (drop 1 cs)) h.1
      | inr h ↦ closing_within l cs 34 (double 0 (drop 1 cs)) x (double_leaves 0 (drop 1 cs)) h.1
    ]

-- ---- keys

colon_within : (l : Line) (k rest : List ℕ) (x : List ℕ × List ℕ) → behind_colon l k rest ≡ Ok x → length x.1 < length rest
unfolding behind_colon
colon_within l k rest x e =
    elim (choose (begins 58 (skip_blanks rest)) _ _ _ e) [
      | inl h ↦
          let same = ok_same (k, drop 1 (skip_blanks rest)) x h.1 in
          omega (arith, ap (λ (y : List ℕ × List ℕ). length y.1) same, length-tail 58 (skip_blanks rest) h.0, skip_within rest)
      | inr h ↦ elim (choose (ends_line rest) _ _ _ h.1) [ inl g ↦ cc | inr g ↦ cc ]
    ]

flow_key_within : (l : Line) (cs : List ℕ) (x : List ℕ × List ℕ) → flow_key l cs ≡ Ok x → length x.1 < length cs
unfolding flow_key
flow_key_within l cs x e =
    let (known, e1) = allowed (is_left_out cs) _ _ _ e in
    elim (choose (is_quote cs) _ _ _ e1) [
      | inl h ↦
          let (q, at, more) = bind_ok (quoted l cs) _ x h.1 in
          omega (arith, quoted_within l cs q at, colon_within l q.0 q.1 x more)
      | inr h ↦
          let (plain, e2) = allowed (not (starts_plain cs)) _ _ _ h.1 in
          let (other, e3) = allowed (bytes_eq (plain_front true cs) merge && begins 58 (plain_rest true cs)) _ _ _ e2 in
          omega (arith, colon_within l (plain_front true cs) (plain_rest true cs) x e3, plain_within true cs)
    ]

pub fresh_key_within : (seen : List (List ℕ)) (l : Line) (cs : List ℕ) (x : List ℕ × List ℕ) → fresh_key seen l cs ≡ Ok x → length x.1 < length cs
unfolding fresh_key
fresh_key_within seen l cs x e =
    let (k, at, e1) = bind_ok (flow_key l cs) _ x e in
    let (fresh, e2) = allowed (is_seen k.0 seen) _ _ _ e1 in
    omega (arith, flow_key_within l cs k at, ap (λ (y : List ℕ × List ℕ). length y.1) (ok_same k x e2))

then_within : (t cs k rest : List ℕ) → colon_then t cs ≡ keyed k rest → length rest < length cs
then_within t [] k rest e = cc
then_within t (c ∷ cs) k rest e =
    elim (choose (c == 58 && _) _ _ _ e) [
      | inl h ↦ let same : cs ≡ rest = cc in omega (arith, ap length same)
      | inr h ↦ cc
    ]

pub key_within : (l : Line) (cs k rest : List ℕ) → key_at l cs ≡ keyed k rest → length rest < length cs
unfolding key_at
key_within l cs k rest e =
    elim (choose (is_left_out cs) _ _ _ e) [
      | inl h ↦ cc
      | inr h ↦ elim (choose (is_quote cs) _ _ _ h.1) [
        | inl q ↦ by (quoted l cs) (quoted_within l cs) q.1
        | inr q ↦ elim (choose (starts_plain cs && begins 58 (plain_rest false cs)) _ _ _ q.1) [
          | inl p ↦ elim (choose (bytes_eq (plain_front false cs) merge) _ _ _ p.1) [
            | inl m ↦ cc
            | inr m ↦ omega (arith, then_within (plain_front false cs) (plain_rest false cs) k rest m.1, plain_within false cs)
          ]
          | inr p ↦ cc
        ]
      ]
    ]
  where
    by : (r : Front (List ℕ)) → ((x : List ℕ × List ℕ) → r ≡ Ok x → length x.1 < length cs) → quoted_key r ≡ keyed k rest → length rest < length cs
    by (Ok x) within e = omega (arith, within x refl, then_within x.0 (skip_blanks x.1) k rest e, skip_within x.1)
    by (Err s) within e = cc

-- ---- behind an element of a flow collection

pub after_within : (l : Line) (close : ℕ) (rest more : List ℕ) → after_element l close rest ≡ Ok more → length more ≤ length rest
unfolding after_element
after_within l close rest more e =
    elim (choose (begins 44 (skip_blanks rest)) _ _ _ e) [
      | inl h ↦ omega (arith, ap length (ok_same (drop 1 (skip_blanks rest)) more h.1), tail_within (skip_blanks rest), skip_within rest)
      | inr h ↦ elim (choose (begins close (skip_blanks rest)) _ _ _ h.1) [
        | inl g ↦ omega (arith, ap length (ok_same (skip_blanks rest) more g.1), skip_within rest)
        | inr g ↦ elim (choose (ends_line rest) _ _ _ g.1) [ inl k ↦ cc | inr k ↦ cc ]
      ]
    ]
