-- A plain scalar behind which nothing stands.
use Rattle.std.proofs.Common.{◌≡◌, ℕ, suc, Bool, true, false, List, [], ◌∷◌, Ok, refl, sym, ap, ◌∙◌, append-nil}
use Rattle.yaml_inline.specs.File.{Line, is_empty, ends_line}
use Rattle.yaml_inline.specs.Line.{is_comment, is_empty_line, plain_front, plain_rest}
use Rattle.yaml_blocks.specs.Blocks.{nothing_in, empty_line, comment_line, continuation, more_plain, plain_text}

first_comment : (l : Line) (ls : List Line) (u : Unit {0}) → nothing_in (l ∷ ls) ≡ Ok u → is_comment l ≡ true
unfolding nothing_in
first_comment l ls u e = by (is_comment l) refl where
  by : (b : Bool) → is_comment l ≡ b → is_comment l ≡ true
  by true h = h
  by false h = let stop = rw h at e in cc

comments_skipped : (l : Line) (ls : List Line) → is_comment l ≡ true → nothing_in (l ∷ ls) ≡ nothing_in ls
unfolding nothing_in
comments_skipped l ls h = rw h refl

continuation_empty : (m : ℕ) (l : Line) → is_empty_line l ≡ true → continuation m l ≡ Ok empty_line
unfolding continuation
continuation_empty m l e = rw e refl

continuation_comment : (m : ℕ) (l : Line) → is_empty_line l ≡ false → is_comment l ≡ true → continuation m l ≡ Ok comment_line
unfolding continuation
continuation_comment m l e h = rw (e, h) refl

-- lines that carry nothing add nothing
comments_add_nothing : (m n : ℕ) (ls : List Line) (u : Unit {0}) → nothing_in ls ≡ Ok u → more_plain m n ls ≡ Ok []
unfolding more_plain
comments_add_nothing m n [] u e = refl
comments_add_nothing m n (l ∷ ls) u e =
    let comment = first_comment l ls u e in
    let others = sym (comments_skipped l ls comment) ∙ e in
    by (is_empty_line l) refl comment others (comments_add_nothing m (suc n) ls u others) where
      by : (b : Bool) → is_empty_line l ≡ b → is_comment l ≡ true → nothing_in ls ≡ Ok u → more_plain m (suc n) ls ≡ Ok [] → more_plain m n (l ∷ ls) ≡ Ok []
      by true empty comment others more = rw (continuation_empty m l empty) more
      by false empty comment others more = rw (continuation_comment m l empty comment, others) refl

pub whole_text : (m : ℕ) (l : Line) (cs : List ℕ) (ls : List Line) (u : Unit {0}) → ends_line (plain_rest false cs) ≡ true → nothing_in ls ≡ Ok u → plain_text m l cs ls ≡ Ok (plain_front false cs)
unfolding plain_text
whole_text m l cs ls u ends e = by (is_empty (plain_rest false cs)) refl where
  by : (b : Bool) → is_empty (plain_rest false cs) ≡ b → plain_text m l cs ls ≡ Ok (plain_front false cs)
  by true over = rw (over, comments_add_nothing m 0 ls u e) (ap (λ (ts : List ℕ). Ok ts) (append-nil (plain_front false cs)))
  by false over = rw (over, ends, e) refl
