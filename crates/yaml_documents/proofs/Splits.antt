-- The code's lines, where they are parted at one of them.
use Rattle.std.proofs.Common.{◌≡◌, ℕ, suc, ◌+◌, ◌-◌, ◌<◌, ◌≤◌, List, [], ◌∷◌, ◌++◌, length, get_or, take, drop, Option, Some, None, option_map, IfSome, ap, subst, add-one, arith}
use Rattle.yaml_inline.specs.declared.line.Line as code
use Rattle.yaml_inline.specs.File.{Line}
use Rattle.yaml_inline.specs.Line.{Stop}
use Rattle.yaml_inline.specs.View.{line_view}
use Rattle.yaml_blocks.specs.Views.{lines_view}
use Rattle.yaml_documents.specs.Rows.{AreNumbered, AreInARow}
use Rattle.yaml_documents.specs.Given.{number_of, HasNumber}

pub record Split (xs : List code.Line) (front : List Line) (line : Line) (more : List Line) : Type 0 where
  pub within : length front < length xs
  pub here : (d : code.Line) → line_view (get_or xs (length front) d) ≡ line
  pub behind : lines_view (drop (length front + 1) xs) ≡ more
  pub through : lines_view (take (length front + 1) xs) ≡ front ++ line ∷ []

pub split : (xs : List code.Line) (front : List Line) (line : Line) (more : List Line) → lines_view xs ≡ front ++ line ∷ more → Split xs front line more
split [] [] line more e = cc
split [] (f ∷ fs) line more e = cc
split (x ∷ xs) [] line more e = record { within = omega arith; here = λ d. cc; behind = cc; through = ap (λ (l : Line). l ∷ []) cc }
split (x ∷ xs) (f ∷ fs) line more e =
    let same : line_view x ≡ f = cc in
    let others : lines_view xs ≡ fs ++ line ∷ more = cc in
    let s = split xs fs line more others in
    let inside : length fs < length xs = s.within in
    record {
      within = omega arith;
      here = s.here;
      behind = rw add-one (rw add-one at s.behind);
      through = rw add-one (rw same (ap (λ (ls : List Line). f ∷ ls) (rw add-one at s.through)));
    }

-- ---- numbers

numbered_at : (n : ℕ) (front : List Line) (line : Line) (more : List Line) → AreNumbered n (front ++ line ∷ more) → line.number ≡ n + length front
numbered_at n [] line more h = let e : line.number ≡ n = h.0 in omega arith
numbered_at n (f ∷ fs) line more h = let e : line.number ≡ suc n + length fs = numbered_at (suc n) fs line more h.1 in omega arith

-- A line's number is that of the first line and the count of the lines before it.
pub number_at : (xs : List code.Line) (d : code.Line) (front : List Line) (line : Line) (more : List Line) → AreInARow (lines_view xs) → lines_view xs ≡ front ++ line ∷ more
    → line.number ≡ (get_or xs 0 d).number + length front
number_at [] d [] line more rows e = cc
number_at [] d (f ∷ fs) line more rows e = cc
number_at (x ∷ xs) d [] line more rows e = let same : line_view x ≡ line = cc in let number : x.number ≡ line.number = ap (λ (l : Line). l.number) same in omega arith
number_at (x ∷ xs) d (f ∷ fs) line more rows e =
    let others : lines_view xs ≡ fs ++ line ∷ more = cc in
    let behind : line.number ≡ suc x.number + length fs = numbered_at (suc x.number) fs line more (subst (AreNumbered (suc x.number)) others rows) in
    omega arith

pub record IsAt (xs : List code.Line) (d : code.Line) (n : ℕ) : Type 0 where
  pub first : (get_or xs 0 d).number ≤ n
  pub within : n - (get_or xs 0 d).number < length xs

pub is_at : (xs : List code.Line) (d : code.Line) (n : ℕ) → AreInARow (lines_view xs) → HasNumber (lines_view xs) n → IsAt xs d n
is_at xs d n rows h =
    let number : h.line.number ≡ (get_or xs 0 d).number + length h.front = number_at xs d h.front h.line h.more rows h.lines in
    let same : h.line.number ≡ n = h.number in
    let inside : length h.front < length xs = (split xs h.front h.line h.more h.lines).within in
    record { first = omega arith; within = omega arith }

pub there_is : (o : Option Stop) (ls : List Line) (n : ℕ) → IfSome o (λ s. HasNumber ls (number_of s)) → Some n ≡ option_map number_of o → HasNumber ls n
there_is None ls n h e = cc
there_is (Some s) ls n h e = let same : number_of s ≡ n = cc in subst (HasNumber ls) same h
