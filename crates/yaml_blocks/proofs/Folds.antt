-- Loops over the lines of a block scalar, a turn at a time.
use Rattle.std.proofs.Common.{◌≡◌, ℕ, zero, suc, ◌+◌, ◌-◌, ◌<◌, ◌≤◌, Bool, true, false, cond, ◌&&◌, ◌||◌, ◌==◌, nat_lt, List, [], ◌∷◌, ◌++◌, length, get_or, take, drop, refl, sym, ap, ◌∙◌, arith, append_assoc, append-nil}
use Rattle.std.specs.Prelude.{map as list_map}
use Rattle.std.specs.Borrow.{Bor}
use Rattle.std.proofs.Math.Seq.{take-suc}
use Rattle.std.proofs.lemmas.List.{drop_more, at_drop_all, length-take-le}
use Rattle.std.proofs.lemmas.Bool.Decides.{nat_tests}
use Rattle.yaml_inline.specs.File.{is_blank, is_empty}
use Rattle.yaml_inline.specs.Scalar.{drop_empty, literal, joint, begins_blank, fold_from, folded, Chomping, chomped, block_text}
use Rattle.yaml_blocks.specs.Chompings.{texts_view, add_text, kept_text}

pub map_push : {A B : Type 0} (f : A → B) (xs : List A) (x : A) → list_map f (xs ++ x ∷ []) ≡ list_map f xs ++ f x ∷ []
map_push f [] x = refl
map_push {B = B} f (y ∷ ys) x = ap (λ (zs : List B). f y ∷ zs) (map_push f ys x)

drop_empty-push : (ts : List (List ℕ)) → drop_empty (ts ++ [] ∷ []) ≡ drop_empty ts
drop_empty-push [] = refl
drop_empty-push (t ∷ ts) = rw (drop_empty-push ts) refl

texts_push : (xs : List (Bor (List ℕ))) (i : ℕ) (d : Bor (List ℕ)) → i < length xs → texts_view (take (i + 1) xs) ≡ texts_view (take i xs) ++ (get_or xs i d).now ∷ []
texts_push xs i d h =
    let more : i + 1 ≡ suc i = omega arith in
    ap (λ (k : ℕ). texts_view (take k xs)) more ∙ (ap texts_view (take-suc xs i d h) ∙ map_push (λ t. t.now) (take i xs) (get_or xs i d))

empty_is : (t : List ℕ) → (length t == 0) ≡ true → t ≡ []
empty_is [] e = refl
empty_is (c ∷ cs) e = absurd (grind (arith, nat_tests))

-- the loop that drops empty lines from the end
pub kept_turn : (xs : List (Bor (List ℕ))) (n i : ℕ) (d : Bor (List ℕ)) (all : List (List ℕ)) → n ≡ i + 1 → n ≤ length xs → (length (get_or xs i d).now == 0) ≡ true
    → drop_empty (texts_view (take n xs)) ≡ all → drop_empty (texts_view (take i xs)) ≡ all
kept_turn xs n i d all n_is within none e =
    let p = texts_push xs i d (omega arith) in
    sym (drop_empty-push (texts_view (take i xs)))
    ∙ (ap (λ (t : List ℕ). drop_empty (texts_view (take i xs) ++ t ∷ [])) (sym (empty_is (get_or xs i d).now none))
    ∙ (sym (ap drop_empty p) ∙ (ap (λ (k : ℕ). drop_empty (texts_view (take k xs))) (sym n_is) ∙ e)))

solid_is : (t : List ℕ) → (length t == 0) ≡ false → is_empty t ≡ false
solid_is [] e = cc
solid_is (c ∷ cs) e = refl

drop_empty-solid : (ts : List (List ℕ)) (t : List ℕ) → is_empty t ≡ false → drop_empty (ts ++ t ∷ []) ≡ ts ++ t ∷ []
drop_empty-solid [] t e = rw e refl
drop_empty-solid (u ∷ []) t e = rw e (kept (is_empty u) u t) where
  kept : (b : Bool) (u t : List ℕ) → cond (b && false) [] (u ∷ t ∷ []) ≡ u ∷ t ∷ []
  kept true u t = refl
  kept false u t = refl
drop_empty-solid (u ∷ v ∷ vs) t e = rw (drop_empty-solid (v ∷ vs) t e) (kept (is_empty u)) where
  kept : (b : Bool) → cond (b && false) [] (u ∷ v ∷ (vs ++ t ∷ [])) ≡ u ∷ v ∷ (vs ++ t ∷ [])
  kept true = refl
  kept false = refl

pub kept_end : (xs : List (Bor (List ℕ))) (n i : ℕ) (d : Bor (List ℕ)) (all : List (List ℕ)) → n ≡ i + 1 → n ≤ length xs → (length (get_or xs i d).now == 0) ≡ false
    → drop_empty (texts_view (take n xs)) ≡ all → texts_view (take n xs) ≡ all
kept_end xs n i d all n_is within solid e =
    let p = ap (λ (k : ℕ). texts_view (take k xs)) n_is ∙ texts_push xs i d (omega arith) in
    p ∙ (sym (drop_empty-solid (texts_view (take i xs)) (get_or xs i d).now (solid_is _ solid)) ∙ (sym (ap drop_empty p) ∙ e))

pub kept_none : (xs : List (Bor (List ℕ))) (n : ℕ) (all : List (List ℕ)) → n ≡ 0 → drop_empty (texts_view (take n xs)) ≡ all → texts_view (take n xs) ≡ all
kept_none xs n all n_is e =
    let none : texts_view (take n xs) ≡ [] = ap (λ (k : ℕ). texts_view (take k xs)) n_is in
    none ∙ (sym (ap drop_empty none) ∙ e)

literal-push : (t u : List ℕ) (us : List (List ℕ)) → literal ((u ∷ us) ++ t ∷ []) ≡ (literal (u ∷ us) ++ 10 ∷ []) ++ t
literal-push t u [] = sym (append_assoc u (10 ∷ []) t)
literal-push t u (v ∷ vs) =
    ap (λ (xs : List ℕ). u ++ (10 ∷ xs)) (literal-push t v vs)
    ∙ (sym (append_assoc u ((10 ∷ literal (v ∷ vs)) ++ 10 ∷ []) t)
    ∙ ap (λ (xs : List ℕ). xs ++ t) (sym (append_assoc u (10 ∷ literal (v ∷ vs)) (10 ∷ []))))

some_texts : (ts : List (List ℕ)) (t : List ℕ) → 0 < length ts → literal (ts ++ t ∷ []) ≡ (literal ts ++ 10 ∷ []) ++ t
some_texts [] t h = absurd (omega arith)
some_texts (u ∷ us) t h = literal-push t u us

length_texts : (xs : List (Bor (List ℕ))) (i : ℕ) → 0 < i → i < length xs → 0 < length (texts_view (take i xs))
length_texts [] i some h = absurd (omega arith)
length_texts (x ∷ xs) zero some h = absurd (omega arith)
length_texts (x ∷ xs) (suc i) some h = omega arith

pub literal_step : (xs : List (Bor (List ℕ))) (i : ℕ) (d : Bor (List ℕ)) (content : List ℕ) → i < length xs → content ≡ literal (texts_view (take i xs))
    → add_text (i == 0) content (get_or xs i d).now ≡ literal (texts_view (take (i + 1) xs))
literal_step xs zero d content h e =
    let t = (get_or xs 0 d).now in
    ap (λ (c : List ℕ). c ++ t) e ∙ sym (ap literal (texts_push xs 0 d h))
literal_step xs (suc i) d content h e =
    let t = (get_or xs (suc i) d).now in
    let later : (suc i == 0) ≡ false = grind (arith, nat_tests) in
    rw later
    (ap (λ (c : List ℕ). (c ++ 10 ∷ []) ++ t) e
    ∙ sym (ap literal (texts_push xs (suc i) d h) ∙ some_texts (texts_view (take (suc i) xs)) t (length_texts xs (suc i) (omega arith) h)))

-- ---- folding

drop_text : (xs : List (Bor (List ℕ))) (i : ℕ) (d : Bor (List ℕ)) → i < length xs → texts_view (drop i xs) ≡ (get_or xs i d).now ∷ texts_view (drop (i + 1) xs)
drop_text xs i d h = ap texts_view (drop_more xs i d h)

pub folds_empty : (before : Bool) (n : ℕ) (content text : List ℕ) (rest : List (List ℕ)) → (length text == 0) ≡ true
    → content ++ fold_from before (n + 1) rest ≡ content ++ fold_from before n (text ∷ rest)
folds_empty before n content [] rest e = let more : n + 1 ≡ suc n = omega arith in ap (λ (k : ℕ). content ++ fold_from before k rest) more
folds_empty before n content (c ∷ cs) rest e = absurd (grind (arith, nat_tests))

pub folds_text : (before : Bool) (n : ℕ) (content text joined : List ℕ) (rest : List (List ℕ)) → (length text == 0) ≡ false → joined ≡ content ++ joint (before || begins_blank text) n
    → (joined ++ text) ++ fold_from (begins_blank text) 0 rest ≡ content ++ fold_from before n (text ∷ rest)
folds_text before n content [] joined rest e is = cc
folds_text before n content (c ∷ cs) joined rest e is =
    append_assoc joined (c ∷ cs) (fold_from (is_blank c) 0 rest)
    ∙ (ap (λ (xs : List ℕ). xs ++ ((c ∷ cs) ++ fold_from (is_blank c) 0 rest)) is
    ∙ append_assoc content (joint (before || is_blank c) n) ((c ∷ cs) ++ fold_from (is_blank c) 0 rest))

pub folds_end : (before : Bool) (n : ℕ) (content : List ℕ) (xs : List (Bor (List ℕ))) (i : ℕ) → length xs ≤ i → content ++ fold_from before n (texts_view (drop i xs)) ≡ content
folds_end before n content xs i h = at_drop_all (λ (ys : List (Bor (List ℕ))). content ++ fold_from before n (texts_view ys)) xs i h ∙ append-nil content

pub folds_turn : (before : Bool) (n : ℕ) (content all : List ℕ) (xs : List (Bor (List ℕ))) (i : ℕ) (d : Bor (List ℕ)) (now_before : Bool) (m : ℕ) (grown : List ℕ) → i < length xs
    → ((rest : List (List ℕ)) → grown ++ fold_from now_before m rest ≡ content ++ fold_from before n ((get_or xs i d).now ∷ rest))
    → content ++ fold_from before n (texts_view (drop i xs)) ≡ all → grown ++ fold_from now_before m (texts_view (drop (i + 1) xs)) ≡ all
folds_turn before n content all xs i d now_before m grown h turn e =
    turn (texts_view (drop (i + 1) xs)) ∙ (sym (ap (λ (ts : List (List ℕ)). content ++ fold_from before n ts) (drop_text xs i d h)) ∙ e)

pub lead_turn : (content all : List ℕ) (xs : List (Bor (List ℕ))) (i : ℕ) (d : Bor (List ℕ)) → i < length xs → (length (get_or xs i d).now == 0) ≡ true
    → content ++ folded (texts_view (drop i xs)) ≡ all → (content ++ 10 ∷ []) ++ folded (texts_view (drop (i + 1) xs)) ≡ all
lead_turn content all xs i d h none e =
    append_assoc content (10 ∷ []) (folded (texts_view (drop (i + 1) xs)))
    ∙ (sym (ap (λ (ts : List (List ℕ)). content ++ folded ts) (drop_text xs i d h ∙ ap (λ (t : List ℕ). t ∷ texts_view (drop (i + 1) xs)) (empty_is _ none))) ∙ e)

folded_text : (t : List ℕ) (ts : List (List ℕ)) → (length t == 0) ≡ false → folded (t ∷ ts) ≡ t ++ fold_from (begins_blank t) 0 ts
folded_text [] ts e = cc
folded_text (c ∷ cs) ts e = refl

pub lead_end : (content all : List ℕ) (xs : List (Bor (List ℕ))) (i : ℕ) (d : Bor (List ℕ)) → i < length xs → (length (get_or xs i d).now == 0) ≡ false
    → content ++ folded (texts_view (drop i xs)) ≡ all → (content ++ (get_or xs i d).now) ++ fold_from (begins_blank (get_or xs i d).now) 0 (texts_view (drop (i + 1) xs)) ≡ all
lead_end content all xs i d h some e =
    let t = (get_or xs i d).now in
    append_assoc content t (fold_from (begins_blank t) 0 (texts_view (drop (i + 1) xs)))
    ∙ (sym (ap (λ (ts : List (List ℕ)). content ++ folded ts) (drop_text xs i d h) ∙ ap (λ (ys : List ℕ). content ++ ys) (folded_text t (texts_view (drop (i + 1) xs)) some)) ∙ e)

pub lead_none : (content all : List ℕ) (xs : List (Bor (List ℕ))) (i : ℕ) → length xs ≤ i → content ++ folded (texts_view (drop i xs)) ≡ all → content ≡ all
lead_none content all xs i h e = sym (at_drop_all (λ (ys : List (Bor (List ℕ))). content ++ folded (texts_view ys)) xs i h ∙ append-nil content) ∙ e

length_view : (xs : List (Bor (List ℕ))) → length (texts_view xs) ≡ length xs
length_view [] = refl
length_view (x ∷ xs) = ap suc (length_view xs)

-- the text of a block scalar, by how many of its lines are kept
pub block_text_by : (is_folded : Bool) (e : Chomping) (xs : List (Bor (List ℕ))) (n : ℕ) → texts_view (take n xs) ≡ drop_empty (texts_view xs) → n ≤ length xs
    → kept_text is_folded (texts_view (take n xs)) ++ chomped e (nat_lt 0 n) (length xs - n) ≡ block_text is_folded e (texts_view xs)
unfolding block_text
block_text_by is_folded e xs n kept within =
    let len : n ≡ length (drop_empty (texts_view xs)) = sym (sym (ap length kept) ∙ (length_view (take n xs) ∙ length-take-le n xs within)) in
    ap (λ (ts : List (List ℕ)). kept_text is_folded ts ++ chomped e (nat_lt 0 n) (length xs - n)) kept
    ∙ (ap (λ (k : ℕ). kept_text is_folded (drop_empty (texts_view xs)) ++ chomped e (nat_lt 0 k) (length xs - k)) len
    ∙ ap (λ (k : ℕ). kept_text is_folded (drop_empty (texts_view xs)) ++ chomped e (nat_lt 0 (length (drop_empty (texts_view xs)))) (k - length (drop_empty (texts_view xs)))) (sym (length_view xs)))
