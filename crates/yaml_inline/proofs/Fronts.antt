-- Loops over the characters of a line, a turn at a time.
use Rattle.std.proofs.Common.{◌≡◌, ℕ, suc, ◌+◌, ◌<◌, ◌≤◌, Bool, true, false, cond, ◌&&◌, ◌||◌, ◌==◌, List, [], ◌∷◌, ◌++◌, length, get_or, take, drop, refl, sym, ap, ◌∙◌, arith}
use Rattle.std.proofs.lemmas.List.{drop_more, at_drop_all}
use Rattle.std.proofs.Math.Seq.{take-suc}
use Rattle.yaml_inline.specs.File.{is_blank, is_empty, begins, blank_or_end}
use Rattle.yaml_inline.specs.Line.{is_flow, stops, plain_len, trimmed}

plain_len-cons : (in_flow : Bool) (x : ℕ) (xs : List ℕ) → stops in_flow (x ∷ xs) ≡ false → plain_len in_flow (x ∷ xs) ≡ suc (plain_len in_flow xs)
unfolding plain_len
plain_len-cons in_flow x xs e = rw e refl

-- where the scalar goes on, it is one longer than from the next character on
pub plain_len_more : (in_flow : Bool) (xs : List ℕ) (i : ℕ) → i < length xs → stops in_flow (drop i xs) ≡ false → plain_len in_flow (drop i xs) ≡ suc (plain_len in_flow (drop (i + 1) xs))
plain_len_more in_flow xs i h e =
    let d = drop_more xs i 0 h in
    ap (plain_len in_flow) d ∙ plain_len-cons in_flow _ _ (sym (ap (stops in_flow) d) ∙ e)

pass : (a b d x y : Bool) → ((a || b) || d) ≡ false → (((a && x) || (b && y)) || d) ≡ false
pass true b d x y e = cc
pass false true d x y e = cc
pass false false d x y e = e

-- the same where no scalar may end at the character
pub plain_len_pass : (in_flow : Bool) (xs : List ℕ) (i c : ℕ) → i < length xs → c ≡ get_or xs i c → ((c == 58 || is_blank c) || (in_flow && is_flow c)) ≡ false
    → plain_len in_flow (drop i xs) ≡ suc (plain_len in_flow (drop (i + 1) xs))
plain_len_pass in_flow xs i c h c_is e =
    let d : drop i xs ≡ c ∷ drop (i + 1) xs = drop_more xs i c h ∙ ap (λ (x : ℕ). x ∷ drop (i + 1) xs) (sym c_is) in
    let more = drop (i + 1) xs in
    ap (plain_len in_flow) d ∙ plain_len-cons in_flow c more (pass (c == 58) (is_blank c) (in_flow && is_flow c) (blank_or_end more) (begins 35 more) e)

pub plain_len_stop : (in_flow : Bool) (xs : List ℕ) → stops in_flow xs ≡ true → plain_len in_flow xs ≡ 0
unfolding plain_len
plain_len_stop in_flow [] e = refl
plain_len_stop in_flow (x ∷ xs) e = rw e refl

-- a blank at the end is dropped, and another character keeps all before it
pub trimmed_blank : (xs : List ℕ) (c : ℕ) → is_blank c ≡ true → trimmed (xs ++ c ∷ []) ≡ trimmed xs
unfolding trimmed
trimmed_blank [] c e = rw e refl
trimmed_blank (x ∷ xs) c e = rw (trimmed_blank xs c e) refl

is_empty-push : (xs : List ℕ) (c : ℕ) → is_empty (xs ++ c ∷ []) ≡ false
is_empty-push [] c = refl
is_empty-push (x ∷ xs) c = refl

kept : (b : Bool) (x : ℕ) (xs : List ℕ) → is_empty xs ≡ false → cond (b && is_empty xs) [] (x ∷ xs) ≡ x ∷ xs
kept true x xs e = rw e refl
kept false x xs e = refl

pub trimmed_solid : (xs : List ℕ) (c : ℕ) → is_blank c ≡ false → trimmed (xs ++ c ∷ []) ≡ xs ++ c ∷ []
unfolding trimmed
trimmed_solid [] c e = rw e refl
trimmed_solid (x ∷ xs) c e = rw (trimmed_solid xs c e) (kept (is_blank x) x (xs ++ c ∷ []) (is_empty-push xs c))

-- the loop that drops blanks from the end
pub trimmed_turn : (xs : List ℕ) (n i : ℕ) (all : List ℕ) → n ≡ i + 1 → n ≤ length xs → is_blank (get_or xs i 0) ≡ true → trimmed (take n xs) ≡ trimmed all → trimmed (take i xs) ≡ trimmed all
trimmed_turn xs n i all n_is within blank e =
    let t = take-suc xs i 0 (omega arith) in
    let m : n ≡ suc i = omega arith in
    sym (trimmed_blank (take i xs) (get_or xs i 0) blank) ∙ (ap trimmed (sym t) ∙ (ap (λ (k : ℕ). trimmed (take k xs)) (sym m) ∙ e))

pub trimmed_end : (xs : List ℕ) (n i c : ℕ) (all : List ℕ) → n ≡ i + 1 → n ≤ length xs → c ≡ get_or xs i c → is_blank c ≡ false → trimmed (take n xs) ≡ trimmed all → take n xs ≡ trimmed all
trimmed_end xs n i c all n_is within c_is solid e =
    let t = take-suc xs i c (omega arith) in
    let m : n ≡ suc i = omega arith in
    let s : take n xs ≡ take i xs ++ (c ∷ []) = ap (λ (k : ℕ). take k xs) m ∙ (t ∙ ap (λ (x : ℕ). take i xs ++ (x ∷ [])) (sym c_is)) in
    s ∙ (sym (trimmed_solid (take i xs) c solid) ∙ (ap trimmed (sym s) ∙ e))

pub trimmed_none : (xs : List ℕ) (n : ℕ) (all : List ℕ) → n ≡ 0 → trimmed (take n xs) ≡ trimmed all → take n xs ≡ trimmed all
unfolding trimmed
trimmed_none xs n all e h =
    let none : take n xs ≡ [] = ap (λ (k : ℕ). take k xs) e in
    none ∙ (sym (ap trimmed none) ∙ h)

pub plain_len_end : (in_flow : Bool) (xs : List ℕ) (i : ℕ) → length xs ≤ i → plain_len in_flow (drop i xs) ≡ 0
unfolding plain_len
plain_len_end in_flow xs i h = at_drop_all (plain_len in_flow) xs i h
