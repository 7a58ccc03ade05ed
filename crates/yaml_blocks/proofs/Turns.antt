-- Loops over the lines of a block, a turn at a time.
use Rattle.std.proofs.Common.{◌≡◌, ℕ, zero, suc, ◌+◌, ◌<◌, ◌≤◌, Bool, true, false, List, [], ◌∷◌, ◌++◌, length, get_or, drop, Ok, Err, refl, sym, ap, ◌∙◌, arith, append_assoc, append-nil}
use Rattle.std.proofs.lemmas.List.{drop_more, at_drop_all}
use Rattle.yaml_inline.specs.declared.line.Line as code
use Rattle.yaml_inline.specs.File.{Line, is_empty, skip_blanks, carries_nothing, ends_line}
use Rattle.yaml_inline.specs.Line.{Stop, syntax, Read, ◌>>=◌, is_comment, unexpected, plain_front, plain_rest}
use Rattle.yaml_inline.specs.View.{line_view}
use Rattle.yaml_inline.specs.Scalar.{feeds, plain_joint}
use Rattle.yaml_blocks.specs.Blocks.{nothing_in, empty_line, comment_line, text_line, last_line, continuation, more_plain, plain_text}
use Rattle.yaml_blocks.specs.Continuations.{behind_text}
use Rattle.yaml_blocks.specs.Views.{lines_view}

pub drop_at : (xs : List code.Line) (i : ℕ) (x : code.Line) → i < length xs → x ≡ get_or xs i x → drop i xs ≡ x ∷ drop (i + 1) xs
drop_at xs i x h x_is = drop_more xs i x h ∙ ap (λ (y : code.Line). y ∷ drop (i + 1) xs) (sym x_is)

pub nothing_comment : (xs : List code.Line) (i : ℕ) (x : code.Line) → i < length xs → x ≡ get_or xs i x → is_comment (line_view x) ≡ true
    → nothing_in (lines_view (drop i xs)) ≡ nothing_in (lines_view (drop (i + 1) xs))
unfolding nothing_in
nothing_comment xs i x h x_is comment = ap (λ (ys : List code.Line). nothing_in (lines_view ys)) (drop_at xs i x h x_is) ∙ rw comment refl

pub nothing_unexpected : (xs : List code.Line) (i : ℕ) (x : code.Line) → i < length xs → x ≡ get_or xs i x → is_comment (line_view x) ≡ false
    → nothing_in (lines_view (drop i xs)) ≡ Err (unexpected (line_view x))
unfolding nothing_in
nothing_unexpected xs i x h x_is comment = ap (λ (ys : List code.Line). nothing_in (lines_view ys)) (drop_at xs i x h x_is) ∙ rw comment refl

-- a line that carries something stands there
pub nothing_not : (xs : List code.Line) (i : ℕ) (x : code.Line) → i < length xs → x ≡ get_or xs i x → is_comment (line_view x) ≡ false
    → nothing_in (lines_view (drop i xs)) ≡ Ok tt → ⊥
nothing_not xs i x h x_is comment e = let stop = nothing_unexpected xs i x h x_is comment in cc

pub nothing_end : (xs : List code.Line) (i : ℕ) → length xs ≤ i → nothing_in (lines_view (drop i xs)) ≡ Ok tt
unfolding nothing_in
nothing_end xs i h = at_drop_all (λ (ys : List code.Line). nothing_in (lines_view ys)) xs i h

pub feeds_more : (n : ℕ) → feeds n ++ 10 ∷ [] ≡ feeds (n + 1)
feeds_more zero = refl
feeds_more (suc n) = let more : suc (n + 1) ≡ suc n + 1 = omega arith in ap (λ (xs : List ℕ). 10 ∷ xs) (feeds_more n) ∙ ap feeds more

-- ---- plain scalars

step_at : (m n i : ℕ) (t : List ℕ) (xs : List code.Line) (x : code.Line) → i < length xs → x ≡ get_or xs i x
    → behind_text t (more_plain m n (lines_view (drop i xs))) ≡ behind_text t (more_plain m n (lines_view (x ∷ drop (i + 1) xs)))
step_at m n i t xs x h x_is = ap (λ (ys : List code.Line). behind_text t (more_plain m n (lines_view ys))) (drop_at xs i x h x_is)

pub plain_stop : (m n i : ℕ) (t : List ℕ) (xs : List code.Line) (x : code.Line) (s : Stop) → i < length xs → x ≡ get_or xs i x → continuation m (line_view x) ≡ Err s
    → behind_text t (more_plain m n (lines_view (drop i xs))) ≡ Err s
unfolding more_plain
plain_stop m n i t xs x s h x_is e = step_at m n i t xs x h x_is ∙ rw e refl

pub plain_empty : (m n i : ℕ) (t : List ℕ) (xs : List code.Line) (x : code.Line) → i < length xs → x ≡ get_or xs i x → continuation m (line_view x) ≡ Ok empty_line
    → behind_text t (more_plain m n (lines_view (drop i xs))) ≡ behind_text t (more_plain m (n + 1) (lines_view (drop (i + 1) xs)))
unfolding more_plain
plain_empty m n i t xs x h x_is e =
    let more : suc n ≡ n + 1 = omega arith in
    step_at m n i t xs x h x_is ∙ rw e (ap (λ (k : ℕ). behind_text t (more_plain m k (lines_view (drop (i + 1) xs)))) more)

pub plain_more : (m n i : ℕ) (t u : List ℕ) (xs : List code.Line) (x : code.Line) → i < length xs → x ≡ get_or xs i x → continuation m (line_view x) ≡ Ok (text_line u)
    → behind_text t (more_plain m n (lines_view (drop i xs))) ≡ behind_text (t ++ (plain_joint n ++ u)) (more_plain m 0 (lines_view (drop (i + 1) xs)))
unfolding more_plain
plain_more m n i t u xs x h x_is e = step_at m n i t xs x h x_is ∙ rw e (by (more_plain m 0 (lines_view (drop (i + 1) xs)))) where
  by : (r : Read (List ℕ)) → behind_text t (r >>= (λ more. Ok (plain_joint n ++ u ++ more))) ≡ behind_text (t ++ (plain_joint n ++ u)) r
  by (Ok more) = ap (λ (ys : List ℕ). Ok ys) (sym (append_assoc t (plain_joint n ++ u) more))
  by (Err s) = refl

pub comment_ok : (m n i : ℕ) (t : List ℕ) (xs : List code.Line) (x : code.Line) (v : Unit {0}) → i < length xs → x ≡ get_or xs i x → continuation m (line_view x) ≡ Ok comment_line
    → nothing_in (lines_view (drop (i + 1) xs)) ≡ Ok v → behind_text t (more_plain m n (lines_view (drop i xs))) ≡ Ok t
unfolding more_plain
comment_ok m n i t xs x v h x_is e ended = step_at m n i t xs x h x_is ∙ rw (e, ended) (ap (λ (ys : List ℕ). Ok ys) (append-nil t))

pub comment_err : (m n i : ℕ) (t : List ℕ) (xs : List code.Line) (x : code.Line) (s : Stop) → i < length xs → x ≡ get_or xs i x → continuation m (line_view x) ≡ Ok comment_line
    → nothing_in (lines_view (drop (i + 1) xs)) ≡ Err s → behind_text t (more_plain m n (lines_view (drop i xs))) ≡ Err s
unfolding more_plain
comment_err m n i t xs x s h x_is e ended = step_at m n i t xs x h x_is ∙ rw (e, ended) refl

pub last_ok : (m n i : ℕ) (t u : List ℕ) (xs : List code.Line) (x : code.Line) (v : Unit {0}) → i < length xs → x ≡ get_or xs i x → continuation m (line_view x) ≡ Ok (last_line u)
    → nothing_in (lines_view (drop (i + 1) xs)) ≡ Ok v → behind_text t (more_plain m n (lines_view (drop i xs))) ≡ Ok (t ++ (plain_joint n ++ u))
unfolding more_plain
last_ok m n i t u xs x v h x_is e ended = step_at m n i t xs x h x_is ∙ rw (e, ended) refl

pub last_err : (m n i : ℕ) (t u : List ℕ) (xs : List code.Line) (x : code.Line) (s : Stop) → i < length xs → x ≡ get_or xs i x → continuation m (line_view x) ≡ Ok (last_line u)
    → nothing_in (lines_view (drop (i + 1) xs)) ≡ Err s → behind_text t (more_plain m n (lines_view (drop i xs))) ≡ Err s
unfolding more_plain
last_err m n i t u xs x s h x_is e ended = step_at m n i t xs x h x_is ∙ rw (e, ended) refl

pub plain_end : (m n i : ℕ) (t : List ℕ) (xs : List code.Line) → length xs ≤ i → behind_text t (more_plain m n (lines_view (drop i xs))) ≡ Ok t
unfolding more_plain
plain_end m n i t xs h =
    at_drop_all (λ (ys : List code.Line). behind_text t (more_plain m n (lines_view ys))) xs i h ∙ ap (λ (ys : List ℕ). Ok ys) (append-nil t)

pub text_goes_on : (m : ℕ) (l : Line) (cs t : List ℕ) (ls : List Line) → is_empty (plain_rest false cs) ≡ true → t ≡ plain_front false cs → plain_text m l cs ls ≡ behind_text t (more_plain m 0 ls)
unfolding plain_text
text_goes_on m l cs t ls e t_is = rw (e, t_is) refl

ends_empty : (cs : List ℕ) → is_empty cs ≡ true → ends_line cs ≡ true
unfolding ends_line carries_nothing skip_blanks
ends_empty [] e = refl
ends_empty (c ∷ cs) e = cc

pub text_unended : (m : ℕ) (l : Line) (cs : List ℕ) (ls : List Line) → ends_line (plain_rest false cs) ≡ false → plain_text m l cs ls ≡ Err (syntax l)
unfolding plain_text
text_unended m l cs ls open_end = by (is_empty (plain_rest false cs)) refl where
  by : (b : Bool) → is_empty (plain_rest false cs) ≡ b → plain_text m l cs ls ≡ Err (syntax l)
  by true over = let ends = ends_empty (plain_rest false cs) over in cc
  by false over = rw (over, open_end) refl

pub text_stops : (m : ℕ) (l : Line) (cs : List ℕ) (ls : List Line) (s : Stop) → is_empty (plain_rest false cs) ≡ false → ends_line (plain_rest false cs) ≡ true → nothing_in ls ≡ Err s → plain_text m l cs ls ≡ Err s
unfolding plain_text
text_stops m l cs ls s e ends stop = rw (e, ends, stop) refl
