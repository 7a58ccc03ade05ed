-- The lines at the front of a document, by tests that they pass.
use Rattle.std.proofs.Common.{◌≡◌, ℕ, suc, ◌+◌, ◌<◌, ◌≤◌, Bool, true, false, cond, inl, inr, List, [], ◌∷◌, ◌++◌, length, refl, ap, arith}
use Rattle.std.specs.List.{prefix_len, list_all}
use Rattle.std.proofs.lemmas.Bool.{and_parts, cases_Bool}
use Rattle.yaml_inline.specs.declared.line.Line as code
use Rattle.yaml_inline.specs.File.{Line, carries_nothing}
use Rattle.yaml_inline.specs.Line.{is_comment}
use Rattle.yaml_inline.specs.View.{line_view}
use Rattle.yaml_blocks.specs.Blocks.{skip_comments}
use Rattle.yaml_blocks.specs.Documents.{has_content}
use Rattle.yaml_blocks.specs.Views.{lines_view}

-- a count over the code's lines
pub prefix_view : (p : Line → Bool) (xs : List code.Line) → prefix_len (λ l. p (line_view l)) xs ≡ prefix_len p (lines_view xs)
prefix_view p [] = refl
prefix_view p (x ∷ xs) = ap (λ (n : ℕ). cond (p (line_view x)) (1 + n) 0) (prefix_view p xs)

pub all_before : (p : Line → Bool) (a b : List Line) → list_all p (a ++ b) ≡ true → list_all p a ≡ true
all_before p [] b e = refl
all_before p (l ∷ ls) b e = let h = and_parts (p l) (list_all p (ls ++ b)) e in rw h.0 (all_before p ls b h.1)

pub all_behind : (p : Line → Bool) (a b : List Line) → list_all p (a ++ b) ≡ true → list_all p b ≡ true
all_behind p [] b e = e
all_behind p (l ∷ ls) b e = all_behind p ls b (and_parts (p l) (list_all p (ls ++ b)) e).1

-- no more lines than pass
pub all_counted : (p : Line → Bool) (a b : List Line) → length a ≤ prefix_len p (a ++ b) → list_all p a ≡ true
all_counted p [] b h = refl
all_counted p (l ∷ ls) b h =
    elim (cases_Bool (p l)) [
      | inl is ↦ let g : suc (length ls) ≤ 1 + prefix_len p (ls ++ b) = rw is at h in rw is (all_counted p ls b (omega arith))
      | inr is ↦ let g : suc (length ls) ≤ 0 = rw is at h in absurd (omega arith)
    ]

-- more lines than pass
pub not_all : (p : Line → Bool) (a b : List Line) → prefix_len p (a ++ b) < length a → list_all p a ≡ false
not_all p [] b h = absurd (omega arith)
not_all p (l ∷ ls) b h =
    elim (cases_Bool (p l)) [
      | inl is ↦ let g : 1 + prefix_len p (ls ++ b) < suc (length ls) = rw is at h in rw is (not_all p ls b (omega arith))
      | inr is ↦ rw is refl
    ]

-- ---- content

pub comments_all : (ls : List Line) → list_all is_comment ls ≡ true → has_content ls ≡ false
unfolding is_comment
comments_all [] e = refl
comments_all (l ∷ ls) e = let h = and_parts (carries_nothing l.text) (list_all is_comment ls) e in rw h.0 (comments_all ls h.1)

pub comments_not_all : (ls : List Line) → list_all is_comment ls ≡ false → has_content ls ≡ true
unfolding is_comment
comments_not_all [] e = cc
comments_not_all (l ∷ ls) e =
    elim (cases_Bool (carries_nothing l.text)) [
      | inl is ↦ rw is (comments_not_all ls (rw is at e))
      | inr is ↦ rw is refl
    ]

pub content_ends : (ls : List Line) → has_content ls ≡ true → prefix_len is_comment ls < length ls
unfolding is_comment
content_ends [] e = cc
content_ends (l ∷ ls) e =
    elim (cases_Bool (carries_nothing l.text)) [
      | inl is ↦ let h : prefix_len is_comment ls < length ls = content_ends ls (rw is at e) in rw is (omega arith)
      | inr is ↦ rw is (omega arith)
    ]

-- lines without content are passed over
pub skip_all : (ls : List Line) → has_content ls ≡ false → skip_comments ls ≡ []
unfolding is_comment
skip_all [] e = refl
skip_all (l ∷ ls) e =
    elim (cases_Bool (carries_nothing l.text)) [
      | inl is ↦ rw is (skip_all ls (rw is at e))
      | inr is ↦ let g : true ≡ false = rw is at e in cc
    ]

pub content_begins : (ls : List Line) → has_content ls ≡ true → (first : Line) × (more : List Line) × (skip_comments ls ≡ first ∷ more)
unfolding is_comment
content_begins [] e = cc
content_begins (l ∷ ls) e =
    elim (cases_Bool (carries_nothing l.text)) [
      | inl is ↦ let (first, more, begins) = content_begins ls (rw is at e) in (first, more, rw is begins)
      | inr is ↦ (l, ls, rw is refl)
    ]
