-- The loops over quotes, a turn at a time.
use Rattle.std.proofs.Common.{◌≡◌, ℕ, zero, suc, ◌+◌, ◌<◌, ◌≤◌, true, false, not, cond, ◌==◌, List, [], ◌∷◌, ◌++◌, length, get_or, drop, Some, None, refl, sym, ap, ◌∙◌, arith, append_assoc, append-nil}
use Rattle.std.proofs.lemmas.List.{drop_more, at_drop_all, drop-drop}
use Rattle.yaml_inline.specs.File.{begins}
use Rattle.yaml_inline.specs.Scalar.{Quoted, closed, open_ended, bad_escape, behind, passed, single, double, escape}

-- what is read behind n characters that give this text
abbrev pub moved : List ℕ → ℕ → Quoted → Quoted
moved out n (closed t rest) = closed (out ++ t) rest
moved out n open_ended = open_ended
moved out n (bad_escape k) = bad_escape (n + k)

moved_nothing : (q : Quoted) → moved [] 0 q ≡ q
moved_nothing (closed t rest) = refl
moved_nothing open_ended = refl
moved_nothing (bad_escape k) = ap bad_escape (omega arith)

moved-behind : (out : List ℕ) (n c : ℕ) (q : Quoted) → moved out n (behind c q) ≡ moved (out ++ c ∷ []) (n + 1) q
moved-behind out n c (closed t rest) = ap (λ (xs : List ℕ). closed xs rest) (sym (append_assoc out (c ∷ []) t))
moved-behind out n c open_ended = refl
moved-behind out n c (bad_escape k) = ap bad_escape (omega arith)

pub moved_start : (q : Quoted) → moved [] 0 q ≡ q
moved_start q = moved_nothing q

drop_at : (xs : List ℕ) (i c : ℕ) → i < length xs → c ≡ get_or xs i c → drop i xs ≡ c ∷ drop (i + 1) xs
drop_at xs i c h c_is = drop_more xs i c h ∙ ap (λ (x : ℕ). x ∷ drop (i + 1) xs) (sym c_is)

-- ---- single quotes

-- no escape is bad in single quotes
abbrev IsSure : Quoted → Type 0
IsSure (closed t rest) = Unit {0}
IsSure open_ended = Unit {0}
IsSure (bad_escape k) = ⊥

behind_sure : (c : ℕ) (q : Quoted) → IsSure q → IsSure (behind c q)
behind_sure c (closed t rest) h = tt
behind_sure c open_ended h = tt
behind_sure c (bad_escape k) h = h

moved-two : (out : List ℕ) (i : ℕ) (q : Quoted) → IsSure q → moved out i (behind 39 q) ≡ moved (out ++ 39 ∷ []) (i + 2) q
moved-two out i (closed t rest) h = ap (λ (xs : List ℕ). closed xs rest) (sym (append_assoc out (39 ∷ []) t))
moved-two out i open_ended h = refl
moved-two out i (bad_escape k) h = absurd h

single-sure : (cs : List ℕ) → IsSure (single cs)
unfolding single
single-sure [] = tt
single-sure (c ∷ []) = elim (c == 39) as (λ b. IsSure (cond b (closed [] []) open_ended)) [ true ↦ tt | false ↦ tt ]
single-sure (c ∷ d ∷ ds) =
    elim (c == 39) as (λ b. IsSure (cond (not b) (behind c (single (d ∷ ds))) (cond (d == 39) (behind 39 (single ds)) (closed [] (d ∷ ds))))) [
      | true ↦ elim (d == 39) as (λ b. IsSure (cond b (behind 39 (single ds)) (closed [] (d ∷ ds)))) [ true ↦ behind_sure 39 (single ds) (single-sure ds) | false ↦ tt ]
      | false ↦ behind_sure c (single (d ∷ ds)) (single-sure (d ∷ ds))
    ]

single-letter : (c : ℕ) (cs : List ℕ) → (c == 39) ≡ false → single (c ∷ cs) ≡ behind c (single cs)
unfolding single
single-letter c [] e = rw e refl
single-letter c (d ∷ ds) e = rw e refl

single-two : (cs : List ℕ) → begins 39 cs ≡ true → single (39 ∷ cs) ≡ behind 39 (single (drop 1 cs))
unfolding single
single-two [] e = cc
single-two (d ∷ ds) e = rw e refl

single-close : (cs : List ℕ) → begins 39 cs ≡ false → single (39 ∷ cs) ≡ closed [] cs
unfolding single
single-close [] e = refl
single-close (d ∷ ds) e = rw e refl

pub single_open : (out xs : List ℕ) (n i : ℕ) → length xs ≤ i → moved out n (single (drop i xs)) ≡ open_ended
unfolding single
single_open out xs n i h = at_drop_all (λ (ys : List ℕ). moved out n (single ys)) xs i h

pub single_letter : (out xs : List ℕ) (i c : ℕ) → i < length xs → c ≡ get_or xs i c → (c == 39) ≡ false
    → moved out i (single (drop i xs)) ≡ moved (out ++ c ∷ []) (i + 1) (single (drop (i + 1) xs))
single_letter out xs i c h c_is e =
    ap (λ (ys : List ℕ). moved out i (single ys)) (drop_at xs i c h c_is)
    ∙ (ap (moved out i) (single-letter c _ e) ∙ moved-behind out i c _)

pub single_two : (out xs : List ℕ) (i c : ℕ) → i < length xs → c ≡ get_or xs i c → c ≡ 39 → begins 39 (drop (i + 1) xs) ≡ true
    → moved out i (single (drop i xs)) ≡ moved (out ++ c ∷ []) (i + 2) (single (drop (i + 2) xs))
single_two out xs i c h c_is quote e =
    let d : drop i xs ≡ 39 ∷ drop (i + 1) xs = drop_at xs i c h c_is ∙ ap (λ (x : ℕ). x ∷ drop (i + 1) xs) quote in
    ap (λ (ys : List ℕ). moved out i (single ys)) d
    ∙ (ap (moved out i) (single-two _ e)
    ∙ (moved-two out i (single (drop 1 (drop (i + 1) xs))) (single-sure (drop 1 (drop (i + 1) xs)))
    ∙ (ap (λ (x : ℕ). moved (out ++ x ∷ []) (i + 2) (single (drop 1 (drop (i + 1) xs)))) (sym quote)
    ∙ ap (λ (ys : List ℕ). moved (out ++ c ∷ []) (i + 2) (single ys)) (drop-drop 1 (i + 1) xs ∙ ap (λ (n : ℕ). drop n xs) (omega arith)))))

pub single_close : (out xs : List ℕ) (i c : ℕ) → i < length xs → c ≡ get_or xs i c → c ≡ 39 → begins 39 (drop (i + 1) xs) ≡ false
    → moved out i (single (drop i xs)) ≡ closed out (drop (i + 1) xs)
single_close out xs i c h c_is quote e =
    let d : drop i xs ≡ 39 ∷ drop (i + 1) xs = drop_at xs i c h c_is ∙ ap (λ (x : ℕ). x ∷ drop (i + 1) xs) quote in
    ap (λ (ys : List ℕ). moved out i (single ys)) d ∙ (ap (moved out i) (single-close _ e) ∙ ap (λ (ys : List ℕ). closed ys (drop (i + 1) xs)) (append-nil out))

-- ---- double quotes

-- a text from behind an escape's continuation characters on
abbrev skipped : ℕ → Quoted → Quoted
skipped n (closed t rest) = closed t rest
skipped n open_ended = open_ended
skipped n (bad_escape k) = bad_escape (n + k)

skipped-suc : (n : ℕ) (q : Quoted) → passed (skipped n q) ≡ skipped (suc n) q
skipped-suc n (closed t rest) = refl
skipped-suc n open_ended = refl
skipped-suc n (bad_escape k) = ap bad_escape (omega arith)

skipped-zero : (q : Quoted) → skipped 0 q ≡ q
skipped-zero (closed t rest) = refl
skipped-zero open_ended = refl
skipped-zero (bad_escape k) = ap bad_escape (omega arith)

double-skip : (n : ℕ) (cs : List ℕ) → n ≤ length cs → double n cs ≡ skipped n (double 0 (drop n cs))
unfolding double
double-skip zero cs h = sym (skipped-zero (double 0 cs))
double-skip (suc n) [] h = absurd (omega arith)
double-skip (suc n) (c ∷ cs) h = ap passed (double-skip n cs (omega arith)) ∙ skipped-suc n _

moved-skipped : (out : List ℕ) (i n c : ℕ) (q : Quoted) → moved out i (behind c (skipped n q)) ≡ moved (out ++ c ∷ []) (i + 1 + n) q
moved-skipped out i n c (closed t rest) = ap (λ (xs : List ℕ). closed xs rest) (sym (append_assoc out (c ∷ []) t))
moved-skipped out i n c open_ended = refl
moved-skipped out i n c (bad_escape k) = ap bad_escape (omega arith)

double-letter : (c : ℕ) (cs : List ℕ) → (c == 34) ≡ false → (c == 92) ≡ false → double 0 (c ∷ cs) ≡ behind c (double 0 cs)
unfolding double
double-letter c cs e f = rw (e, f) refl

double-escape : (cs : List ℕ) (v k : ℕ) → escape cs ≡ Some (v, k) → double 0 (92 ∷ cs) ≡ behind v (double k cs)
unfolding double
double-escape cs v k e = rw e refl

double-bad : (cs : List ℕ) → escape cs ≡ None → double 0 (92 ∷ cs) ≡ bad_escape 0
unfolding double
double-bad cs e = rw e refl

double-close : (cs : List ℕ) → double 0 (34 ∷ cs) ≡ closed [] cs
unfolding double
double-close cs = refl

pub double_open : (out xs : List ℕ) (n i : ℕ) → length xs ≤ i → moved out n (double 0 (drop i xs)) ≡ open_ended
unfolding double
double_open out xs n i h = at_drop_all (λ (ys : List ℕ). moved out n (double 0 ys)) xs i h

pub double_letter : (out xs : List ℕ) (i c : ℕ) → i < length xs → c ≡ get_or xs i c → (c == 34) ≡ false → (c == 92) ≡ false
    → moved out i (double 0 (drop i xs)) ≡ moved (out ++ c ∷ []) (i + 1) (double 0 (drop (i + 1) xs))
double_letter out xs i c h c_is e f =
    ap (λ (ys : List ℕ). moved out i (double 0 ys)) (drop_at xs i c h c_is)
    ∙ (ap (moved out i) (double-letter c _ e f) ∙ moved-behind out i c _)

pub double_close : (out xs : List ℕ) (i c : ℕ) → i < length xs → c ≡ get_or xs i c → c ≡ 34
    → moved out i (double 0 (drop i xs)) ≡ closed out (drop (i + 1) xs)
double_close out xs i c h c_is quote =
    let d : drop i xs ≡ 34 ∷ drop (i + 1) xs = drop_at xs i c h c_is ∙ ap (λ (x : ℕ). x ∷ drop (i + 1) xs) quote in
    ap (λ (ys : List ℕ). moved out i (double 0 ys)) d ∙ (ap (moved out i) (double-close _) ∙ ap (λ (ys : List ℕ). closed ys (drop (i + 1) xs)) (append-nil out))

pub double_bad : (out xs : List ℕ) (i c : ℕ) → i < length xs → c ≡ get_or xs i c → c ≡ 92 → escape (drop (i + 1) xs) ≡ None
    → moved out i (double 0 (drop i xs)) ≡ bad_escape i
double_bad out xs i c h c_is slash e =
    let d : drop i xs ≡ 92 ∷ drop (i + 1) xs = drop_at xs i c h c_is ∙ ap (λ (x : ℕ). x ∷ drop (i + 1) xs) slash in
    ap (λ (ys : List ℕ). moved out i (double 0 ys)) d ∙ (ap (moved out i) (double-bad _ e) ∙ ap bad_escape (omega arith))

pub double_escape : (out xs : List ℕ) (i c v k : ℕ) → i < length xs → c ≡ get_or xs i c → c ≡ 92 → escape (drop (i + 1) xs) ≡ Some (v, k) → k ≤ length (drop (i + 1) xs)
    → moved out i (double 0 (drop i xs)) ≡ moved (out ++ v ∷ []) (i + (1 + k)) (double 0 (drop (i + (1 + k)) xs))
double_escape out xs i c v k h c_is slash e within =
    let d : drop i xs ≡ 92 ∷ drop (i + 1) xs = drop_at xs i c h c_is ∙ ap (λ (x : ℕ). x ∷ drop (i + 1) xs) slash in
    ap (λ (ys : List ℕ). moved out i (double 0 ys)) d
    ∙ (ap (moved out i) (double-escape _ v k e ∙ ap (behind v) (double-skip k _ within))
    ∙ (moved-skipped out i k v _
    ∙ (ap (λ (ys : List ℕ). moved (out ++ v ∷ []) (i + 1 + k) (double 0 ys)) (drop-drop k (i + 1) xs)
    ∙ ap (λ (n : ℕ). moved (out ++ v ∷ []) n (double 0 (drop n xs))) (omega arith))))

pub begins_within : (c : ℕ) (xs : List ℕ) (i : ℕ) → begins c (drop i xs) ≡ true → i < length xs
begins_within c [] zero e = cc
begins_within c [] (suc i) e = cc
begins_within c (x ∷ xs) zero e = omega arith
begins_within c (x ∷ xs) (suc i) e = omega (arith, begins_within c xs i e)
