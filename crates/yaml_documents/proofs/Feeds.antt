-- A text is divided at its first line feed.
use Rattle.std.proofs.Common.{◌≡◌, ℕ, zero, suc, ◌+◌, ◌-◌, ◌<◌, ◌≤◌, Bool, true, false, not, cond, ◌&&◌, ◌||◌, ◌==◌, List, [], ◌∷◌, ◌++◌, length, get_or, take, drop, refl, sym, ap, ◌∙◌, arith}
use Rattle.std.specs.List.{list_any, prefix_len}
use Rattle.std.proofs.lemmas.Bool.{eqb-true}
use Rattle.std.proofs.lemmas.List.{at_drop_all, drop-drop, length-drop}
use Rattle.std.proofs.lemmas.List.Sums.{prefix_len_stops}
use Rattle.std.proofs.Math.Seq.{split_at}
use Rattle.yaml_inline.specs.File.{is_empty, begins, put_first, line_texts}
use Rattle.yaml_documents.specs.Ends.{without_return}
use Rattle.yaml_documents.proofs.Prefixes.{first_passes, front_passes, was_false, was_true}

abbrev no_feed : ℕ → Bool
no_feed c = not (c == 10)

-- ---- blocks without a line feed

abbrev has_feed : List ℕ → Bool
has_feed cs = list_any (λ c. c == 10) cs

feedless_front : (n : ℕ) (cs : List ℕ) → n ≤ length cs → has_feed (take n cs) ≡ false → prefix_len no_feed cs ≡ n + prefix_len no_feed (drop n cs)
feedless_front zero cs h e = omega arith
feedless_front (suc n) [] h e = absurd (omega arith)
feedless_front (suc n) (c ∷ cs) h e = by (c == 10) (feedless_front n cs (omega arith)) e
  where
    by : (b : Bool) → (has_feed (take n cs) ≡ false → prefix_len no_feed cs ≡ n + prefix_len no_feed (drop n cs)) → (b || has_feed (take n cs)) ≡ false
        → cond (not b) (1 + prefix_len no_feed cs) 0 ≡ suc n + prefix_len no_feed (drop n cs)
    by true more e = cc
    by false more e = omega (arith, more e)

pub block_fits : (text rest : List ℕ) (n : ℕ) → rest ≡ drop n text → 8 ≤ length text - n → 8 ≤ length rest
block_fits text rest n rest_is h = omega (arith, h, ap length rest_is, length-drop n text)

-- one more block
pub block_more : (text rest block : List ℕ) (n : ℕ) → rest ≡ drop n text → block ≡ take 8 rest → 8 ≤ length text - n → list_any (λ c. c == 10) block ≡ false
    → prefix_len (λ c. not (c == 10)) text ≡ n + prefix_len (λ c. not (c == 10)) (drop n text)
    → prefix_len (λ c. not (c == 10)) text ≡ n + 8 + prefix_len (λ c. not (c == 10)) (drop (n + 8) text)
block_more text rest block n rest_is block_is h e so_far =
    let left : 8 ≤ length (drop n text) = omega (arith, length-drop n text) in
    let none : has_feed (take 8 (drop n text)) ≡ false = ap (λ (cs : List ℕ). has_feed (take 8 cs)) (sym rest_is) ∙ (ap has_feed (sym block_is) ∙ e) in
    let front : prefix_len no_feed (drop n text) ≡ 8 + prefix_len no_feed (drop (n + 8) text) =
    feedless_front 8 (drop n text) left none ∙ ap (λ (cs : List ℕ). 8 + prefix_len no_feed cs) (drop-drop 8 n text) in
    omega (arith, so_far, front)

-- what stands behind the blocks is added
pub behind_blocks : (text rest : List ℕ) (n m : ℕ) → rest ≡ drop n text → m ≡ prefix_len (λ c. not (c == 10)) rest
    → prefix_len (λ c. not (c == 10)) text ≡ n + prefix_len (λ c. not (c == 10)) (drop n text) → n + m ≡ prefix_len (λ c. not (c == 10)) text
behind_blocks text rest n m rest_is m_is blocks =
    let same : m ≡ prefix_len no_feed (drop n text) = m_is ∙ ap (prefix_len no_feed) rest_is in
    omega (arith, same, blocks)

-- ---- the end of a line

is_empty-push : (xs : List ℕ) (c : ℕ) → is_empty (xs ++ c ∷ []) ≡ false
is_empty-push [] c = refl
is_empty-push (x ∷ xs) c = refl

kept : (b : Bool) (x : ℕ) (ys zs : List ℕ) → is_empty ys ≡ false → cond (b && is_empty ys) [] (x ∷ zs) ≡ x ∷ zs
kept true x ys zs e = rw e refl
kept false x ys zs e = refl

return_dropped_from : (xs : List ℕ) (c : ℕ) → (c == 13) ≡ true → without_return (xs ++ c ∷ []) ≡ xs
return_dropped_from [] c e = rw e refl
return_dropped_from (x ∷ xs) c e =
    kept (x == 13) x (xs ++ c ∷ []) (without_return (xs ++ c ∷ [])) (is_empty-push xs c) ∙ ap (λ ys. x ∷ ys) (return_dropped_from xs c e)

other_kept_in : (xs : List ℕ) (c : ℕ) → (c == 13) ≡ false → without_return (xs ++ c ∷ []) ≡ xs ++ c ∷ []
other_kept_in [] c e = rw e refl
other_kept_in (x ∷ xs) c e =
    kept (x == 13) x (xs ++ c ∷ []) (without_return (xs ++ c ∷ [])) (is_empty-push xs c) ∙ ap (λ ys. x ∷ ys) (other_kept_in xs c e)

pub return_dropped : (line xs : List ℕ) (c : ℕ) → line ≡ xs ++ c ∷ [] → c ≡ 13 → xs ≡ without_return line
return_dropped line xs c is e = sym (ap without_return is ∙ return_dropped_from xs c (ap (λ (n : ℕ). n == 13) e))

pub other_kept : (line xs : List ℕ) (c : ℕ) → line ≡ xs ++ c ∷ [] → (c == 13) ≡ false → line ≡ without_return line
other_kept line xs c is e = is ∙ sym (ap without_return is ∙ other_kept_in xs c e)

-- ---- the first line

-- no line ends in a text without a line feed
no_feed_first : (x : ℕ) (xs : List ℕ) → prefix_len no_feed (x ∷ xs) ≡ length (x ∷ xs) → (x == 10) ≡ false
no_feed_first x xs e = was_false (x == 10) (first_passes no_feed x xs e).0

no_feed_behind : (x : ℕ) (xs : List ℕ) → prefix_len no_feed (x ∷ xs) ≡ length (x ∷ xs) → prefix_len no_feed xs ≡ length xs
no_feed_behind x xs e = (first_passes no_feed x xs e).1

skipped : (b : Bool) (xs ys : List (List ℕ)) → cond (b && false) xs ys ≡ ys
skipped true xs ys = refl
skipped false xs ys = refl

line_step : (x : ℕ) (xs : List ℕ) → (x == 10) ≡ false → begins 10 xs ≡ false → line_texts (x ∷ xs) ≡ put_first x (line_texts xs)
unfolding line_texts
line_step x xs e b = rw (e, b) (skipped (x == 13) _ _)

last_line_of : (x : ℕ) (xs : List ℕ) → prefix_len no_feed (x ∷ xs) ≡ length (x ∷ xs) → line_texts (x ∷ xs) ≡ (x ∷ xs) ∷ []
unfolding line_texts
last_line_of x [] e = line_step x [] (no_feed_first x [] e) refl
last_line_of x (y ∷ ys) e =
    let more = no_feed_behind x (y ∷ ys) e in
    line_step x (y ∷ ys) (no_feed_first x (y ∷ ys) e) (no_feed_first y ys more) ∙ ap (put_first x) (last_line_of y ys more)

returned : (b : Bool) (x : ℕ) (xs : List ℕ) (ls : List (List ℕ)) → cond (b && true) ([] ∷ ls) (put_first x ([] ∷ ls)) ≡ cond (b && true) [] (x ∷ []) ∷ ls
returned true x xs ls = refl
returned false x xs ls = refl

divided : (front rest : List ℕ) → prefix_len no_feed front ≡ length front → line_texts (front ++ 10 ∷ rest) ≡ without_return front ∷ line_texts rest
unfolding line_texts
divided [] rest e = refl
divided (x ∷ []) rest e = rw (no_feed_first x [] e) (returned (x == 13) x [] (line_texts rest))
divided (x ∷ y ∷ ys) rest e =
    let more = no_feed_behind x (y ∷ ys) e in
    line_step x (y ∷ ys ++ 10 ∷ rest) (no_feed_first x (y ∷ ys) e) (no_feed_first y ys more) ∙ (ap (put_first x) (divided (y ∷ ys) rest more)
    ∙ ap (λ ls. ls ∷ line_texts rest) (sym (kept (x == 13) x (y ∷ ys) (without_return (y ∷ ys)) refl)))

-- the last line, which no line feed ends
pub last_line : (text rest : List ℕ) (n : ℕ) → n ≡ prefix_len (λ c. not (c == 10)) text → n ≡ length text → 0 < length text → rest ≡ drop n text
    → line_texts text ≡ text ∷ line_texts rest
unfolding line_texts
last_line [] rest n n_is all some rest_is = absurd (omega arith)
last_line (x ∷ xs) rest n n_is all some rest_is =
    let over : line_texts (drop n (x ∷ xs)) ≡ [] = at_drop_all line_texts (x ∷ xs) n (omega arith) in
    last_line_of x xs (sym n_is ∙ all) ∙ ap (λ ls. (x ∷ xs) ∷ ls) (sym (ap line_texts rest_is ∙ over))

-- the first line, which a line feed ends
pub first_line : (text : List ℕ) (n : ℕ) → n ≡ prefix_len (λ c. not (c == 10)) text → n < length text → line_texts text ≡ without_return (take n text) ∷ line_texts (drop (n + 1) text)
first_line text n n_is h =
    let e : prefix_len no_feed text ≡ n = sym n_is in
    let stop : no_feed (get_or text n 0) ≡ false = ap (λ (k : ℕ). no_feed (get_or text k 0)) n_is ∙ prefix_len_stops no_feed text 0 (omega arith) in
    let c_is : get_or text n 0 ≡ 10 = eqb-true _ 10 (was_true _ stop) in
    let passes : prefix_len no_feed (take n text) ≡ length (take n text) =
    ap (λ (k : ℕ). prefix_len no_feed (take k text)) n_is ∙ (front_passes no_feed text 0 ∙ ap (λ (k : ℕ). length (take k text)) e) in
    let more : suc n ≡ n + 1 = omega arith in
    let cut : text ≡ take n text ++ 10 ∷ drop (n + 1) text =
    split_at text n 0 h ∙ (ap (λ (c : ℕ). take n text ++ c ∷ drop (suc n) text) c_is ∙ ap (λ (k : ℕ). take n text ++ 10 ∷ drop k text) more) in
    ap line_texts cut ∙ divided (take n text) (drop (n + 1) text) passes
