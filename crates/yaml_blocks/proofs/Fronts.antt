-- Loops that count lines at the front, a turn at a time.
use Rattle.std.proofs.Common.{◌≡◌, ℕ, suc, ◌+◌, ◌<◌, ◌≤◌, ◌==◌, nat_lt, Bool, true, false, List, [], ◌∷◌, ◌++◌, length, get_or, take, drop, refl, sym, ap, ◌∙◌, arith, append_assoc, append-nil}
use Rattle.std.specs.Prelude.{map as list_map}
use Rattle.std.proofs.Math.Seq.{take-suc}
use Rattle.std.proofs.lemmas.List.{at_drop_all, drop-drop, length-drop}
use Rattle.std.proofs.lemmas.Bool.Decides.{nat_tests}
use Rattle.yaml_inline.specs.declared.line.Line as code
use Rattle.yaml_inline.specs.File.{Line}
use Rattle.yaml_inline.specs.View.{line_view}
use Rattle.yaml_inline.specs.Line.{indent, is_empty_line}
use Rattle.yaml_blocks.specs.Blocks.{front_while, rest_while, first_indent, is_content, content, lines_at, scalar_lines}
use Rattle.yaml_blocks.specs.Contents.{none_of_line, ScalarLines}
use Rattle.yaml_blocks.specs.Views.{lines_view}
use Rattle.yaml_blocks.proofs.Turns.{drop_at}
use Rattle.yaml_blocks.proofs.Folds.{map_push}

-- the first lines pass the test, and what is left decides
pub record CountsFront (p : Line → Bool) (xs : List code.Line) (i : ℕ) : Type 0 where
  pub front : front_while p (lines_view xs) ≡ lines_view (take i xs) ++ front_while p (lines_view (drop i xs))
  pub rest : rest_while p (lines_view xs) ≡ rest_while p (lines_view (drop i xs))

pub front_more : (p : Line → Bool) (xs : List code.Line) (i : ℕ) (x : code.Line) → i < length xs → x ≡ get_or xs i x → p (line_view x) ≡ true → CountsFront p xs i → CountsFront p xs (i + 1)
front_more p xs i x h x_is e far =
    let d = ap lines_view (drop_at xs i x h x_is) in
    let more : i + 1 ≡ suc i = omega arith in
    let t : lines_view (take (i + 1) xs) ≡ lines_view (take i xs) ++ line_view x ∷ [] =
    ap (λ (k : ℕ). lines_view (take k xs)) more ∙ (ap lines_view (take-suc xs i x h ∙ ap (λ (y : code.Line). take i xs ++ (y ∷ [])) (sym x_is)) ∙ map_push line_view (take i xs) x) in
    let step : front_while p (line_view x ∷ lines_view (drop (i + 1) xs)) ≡ line_view x ∷ front_while p (lines_view (drop (i + 1) xs)) = rw e refl in
    let others : rest_while p (line_view x ∷ lines_view (drop (i + 1) xs)) ≡ rest_while p (lines_view (drop (i + 1) xs)) = rw e refl in
    record {
      front =
          far.front
          ∙ (ap (λ (ys : List Line). lines_view (take i xs) ++ front_while p ys) d
          ∙ (ap (λ (ys : List Line). lines_view (take i xs) ++ ys) step
          ∙ (sym (append_assoc (lines_view (take i xs)) (line_view x ∷ []) (front_while p (lines_view (drop (i + 1) xs))))
          ∙ ap (λ (ys : List Line). ys ++ front_while p (lines_view (drop (i + 1) xs))) (sym t))));
      rest = far.rest ∙ (ap (rest_while p) d ∙ others);
    }

pub front_stop : (p : Line → Bool) (xs : List code.Line) (i : ℕ) (x : code.Line) → i < length xs → x ≡ get_or xs i x → p (line_view x) ≡ false → CountsFront p xs i
    → (lines_view (take i xs) ≡ front_while p (lines_view xs)) × (lines_view (drop i xs) ≡ rest_while p (lines_view xs))
front_stop p xs i x h x_is e far =
    let d = ap lines_view (drop_at xs i x h x_is) in
    let none : front_while p (line_view x ∷ lines_view (drop (i + 1) xs)) ≡ [] = rw e refl in
    let all : rest_while p (line_view x ∷ lines_view (drop (i + 1) xs)) ≡ line_view x ∷ lines_view (drop (i + 1) xs) = rw e refl in (
      sym (far.front ∙ (ap (λ (ys : List Line). lines_view (take i xs) ++ ys) (ap (front_while p) d ∙ none) ∙ append-nil _)),
      sym (far.rest ∙ (ap (rest_while p) d ∙ (all ∙ sym d))),
    )

pub front_end : (p : Line → Bool) (xs : List code.Line) (i : ℕ) → length xs ≤ i → CountsFront p xs i
    → (lines_view (take i xs) ≡ front_while p (lines_view xs)) × (lines_view (drop i xs) ≡ rest_while p (lines_view xs))
front_end p xs i h far =
    let none = at_drop_all (λ (ys : List code.Line). front_while p (lines_view ys)) xs i h in (
      sym (far.front ∙ (ap (λ (ys : List Line). lines_view (take i xs) ++ ys) none ∙ append-nil _)),
      at_drop_all lines_view xs i h ∙ sym (far.rest ∙ at_drop_all (λ (ys : List code.Line). rest_while p (lines_view ys)) xs i h),
    )

-- ---- texts

pub texts_turn : (f : Line → List ℕ) (old now grown : List (List ℕ)) (xs : List code.Line) (i : ℕ) (x : code.Line) → i < length xs → x ≡ get_or xs i x
    → now ≡ old ++ list_map f (lines_view (take i xs)) → grown ≡ now ++ f (line_view x) ∷ [] → grown ≡ old ++ list_map f (lines_view (take (i + 1) xs))
texts_turn f old now grown xs i x h x_is e g =
    let more : i + 1 ≡ suc i = omega arith in
    let t : lines_view (take (i + 1) xs) ≡ lines_view (take i xs) ++ line_view x ∷ [] =
    ap (λ (k : ℕ). lines_view (take k xs)) more ∙ (ap lines_view (take-suc xs i x h ∙ ap (λ (y : code.Line). take i xs ++ (y ∷ [])) (sym x_is)) ∙ map_push line_view (take i xs) x) in
    g
    ∙ (ap (λ (ts : List (List ℕ)). ts ++ f (line_view x) ∷ []) e
    ∙ (append_assoc old (list_map f (lines_view (take i xs))) (f (line_view x) ∷ [])
    ∙ ap (λ (ts : List (List ℕ)). old ++ ts) (sym (ap (list_map f) t ∙ map_push f (lines_view (take i xs)) (line_view x)))))

-- ---- a block scalar's lines

pub scalar_none : (m : ℕ) (xs : List code.Line) (n : ℕ) (texts : List (List ℕ)) → lines_view (take n xs) ≡ front_while is_empty_line (lines_view xs) → lines_view (drop n xs) ≡ rest_while is_empty_line (lines_view xs) → n ≤ length xs
    → texts ≡ list_map none_of_line (lines_view (take n xs)) → lines_view (drop n xs) ≡ [] → ScalarLines m xs texts n
unfolding scalar_lines
scalar_none m xs n texts front rest within e none =
    let over : rest_while is_empty_line (lines_view xs) ≡ [] = sym rest ∙ none in
    record { texts_are = rw over (e ∙ ap (list_map none_of_line) front); behind = rw over none; within = within }

lines_less : (m : ℕ) (front : List Line) (x : Line) (rest : List Line) → nat_lt (indent x) m ≡ true → lines_at m (first_indent (x ∷ rest)) front (x ∷ rest) ≡ (list_map none_of_line front, x ∷ rest)
lines_less m front x rest e = rw e refl

lines_some : (m : ℕ) (front : List Line) (x : Line) (rest : List Line) → nat_lt (indent x) m ≡ false
    → lines_at m (first_indent (x ∷ rest)) front (x ∷ rest)
    ≡ (list_map none_of_line front ++ list_map (content (indent x)) (front_while (is_content (indent x)) (x ∷ rest)), rest_while (is_content (indent x)) (x ∷ rest))
lines_some m front x rest e = rw e refl

scalar_eq : (m : ℕ) (all front rest : List Line) (x : Line) (more : List Line) → front ≡ front_while is_empty_line all → rest ≡ rest_while is_empty_line all → rest ≡ x ∷ more
    → scalar_lines m all ≡ lines_at m (first_indent (x ∷ more)) front (x ∷ more)
unfolding scalar_lines
scalar_eq m all front rest x more front_is rest_is shape =
    ap (λ (r : List Line). lines_at m (first_indent r) (front_while is_empty_line all) r) (sym rest_is ∙ shape)
    ∙ ap (λ (f : List Line). lines_at m (first_indent (x ∷ more)) f (x ∷ more)) (sym front_is)

pub view_empty : (ys : List code.Line) → (length ys == 0) ≡ true → lines_view ys ≡ []
view_empty [] e = refl
view_empty (y ∷ ys) e = absurd (grind (arith, nat_tests))

pub view_first : (ys : List code.Line) (x : code.Line) → (length ys == 0) ≡ false → x ≡ get_or ys 0 x → lines_view ys ≡ line_view x ∷ lines_view (drop 1 ys)
view_first [] x e x_is = cc
view_first (y ∷ ys) x e x_is = ap (λ (z : code.Line). line_view z ∷ lines_view ys) (sym x_is)

pub scalar_less : (m : ℕ) (xs : List code.Line) (n : ℕ) (texts : List (List ℕ)) (x : code.Line) (more : List Line)
    → lines_view (take n xs) ≡ front_while is_empty_line (lines_view xs) → lines_view (drop n xs) ≡ rest_while is_empty_line (lines_view xs) → n ≤ length xs
    → texts ≡ list_map none_of_line (lines_view (take n xs)) → lines_view (drop n xs) ≡ line_view x ∷ more → nat_lt (indent (line_view x)) m ≡ true → ScalarLines m xs texts n
scalar_less m xs n texts x more front rest within e shape less =
    let whole = scalar_eq m (lines_view xs) (lines_view (take n xs)) (lines_view (drop n xs)) (line_view x) more front rest shape ∙ lines_less m (lines_view (take n xs)) (line_view x) more less in
    record {
      texts_are = e ∙ sym (ap (λ (p : List (List ℕ) × List Line). p.0) whole);
      behind = shape ∙ sym (ap (λ (p : List (List ℕ) × List Line). p.1) whole);
      within = within;
    }

pub scalar_some : (m : ℕ) (xs ys : List code.Line) (n k inner : ℕ) (first texts : List (List ℕ)) (x : code.Line) (more : List Line)
    → lines_view (take n xs) ≡ front_while is_empty_line (lines_view xs) → lines_view (drop n xs) ≡ rest_while is_empty_line (lines_view xs) → n ≤ length xs
    → first ≡ list_map none_of_line (lines_view (take n xs)) → ys ≡ drop n xs → lines_view (drop n xs) ≡ line_view x ∷ more → inner ≡ indent (line_view x) → nat_lt (indent (line_view x)) m ≡ false
    → lines_view (take k ys) ≡ front_while (is_content inner) (lines_view ys) → lines_view (drop k ys) ≡ rest_while (is_content inner) (lines_view ys) → k ≤ length ys
    → texts ≡ first ++ list_map (content inner) (lines_view (take k ys)) → ScalarLines m xs texts (n + k)
scalar_some m xs ys n k inner first texts x more front rest within e ys_is shape inner_is less front2 rest2 within2 e2 =
    let i = indent (line_view x) in
    let whole = scalar_eq m (lines_view xs) (lines_view (take n xs)) (lines_view (drop n xs)) (line_view x) more front rest shape ∙ lines_some m (lines_view (take n xs)) (line_view x) more less in
    let view : lines_view ys ≡ line_view x ∷ more = ap lines_view ys_is ∙ shape in
    let inside : lines_view (take k ys) ≡ front_while (is_content i) (line_view x ∷ more) = front2 ∙ (ap (λ (j : ℕ). front_while (is_content j) (lines_view ys)) inner_is ∙ ap (front_while (is_content i)) view) in
    let outside : lines_view (drop k ys) ≡ rest_while (is_content i) (line_view x ∷ more) = rest2 ∙ (ap (λ (j : ℕ). rest_while (is_content j) (lines_view ys)) inner_is ∙ ap (rest_while (is_content i)) view) in
    record {
      texts_are =
          e2
          ∙ (ap (λ (ts : List (List ℕ)). ts ++ list_map (content inner) (lines_view (take k ys))) e
          ∙ (ap (λ (j : ℕ). list_map none_of_line (lines_view (take n xs)) ++ list_map (content j) (lines_view (take k ys))) inner_is
          ∙ (ap (λ (ls : List Line). list_map none_of_line (lines_view (take n xs)) ++ list_map (content i) ls) inside
          ∙ sym (ap (λ (p : List (List ℕ) × List Line). p.0) whole))));
      behind =
          ap lines_view (sym (drop-drop k n xs) ∙ ap (drop k) (sym ys_is)) ∙ (outside ∙ sym (ap (λ (p : List (List ℕ) × List Line). p.1) whole));
      within = omega (arith, ap length ys_is, length-drop n xs);
    }
