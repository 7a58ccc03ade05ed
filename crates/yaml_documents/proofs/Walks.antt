-- Walks over lines and openings, a turn at a time.
use Rattle.std.proofs.Common.{◌≡◌, ℕ, ◌+◌, ◌<◌, ◌≤◌, Bool, true, false, ◌&&◌, ◌==◌, List, ◌∷◌, length, get_or, drop, refl, sym, ap, ◌∙◌}
use Rattle.std.specs.List.{list_any, list_all}
use Rattle.std.proofs.lemmas.List.{drop_more, at_drop_all}
use Rattle.yaml_tree.specs.View.{place_view}
use Rattle.yaml_inline.specs.declared.line.Line as code
use Rattle.yaml_inline.specs.declared.halt.Opening.{Opening}
use Rattle.yaml_inline.specs.File.{Line}
use Rattle.yaml_inline.specs.View.{line_view, openings_view}
use Rattle.yaml_blocks.specs.Documents.{is_regular, closes_later, is_before_forbidden, syntax_code, first_open}
use Rattle.yaml_blocks.specs.Views.{lines_view}

drop_at : {X : Type 0} (xs : List X) (i : ℕ) (x : X) → i < length xs → x ≡ get_or xs i x → drop i xs ≡ x ∷ drop (i + 1) xs
drop_at xs i x h x_is = drop_more xs i x h ∙ ap (λ y. y ∷ drop (i + 1) xs) (sym x_is)

abbrev regular_from : List code.Line → Bool
regular_from ls = list_all is_regular (lines_view ls)

pub regular_more : (xs : List code.Line) (i : ℕ) (x : code.Line) → i < length xs → x ≡ get_or xs i x → is_regular (line_view x) ≡ true
    → list_all is_regular (lines_view (drop i xs)) ≡ list_all is_regular (lines_view (drop (i + 1) xs))
regular_more xs i x h x_is e = ap regular_from (drop_at xs i x h x_is) ∙ ap (λ (b : Bool). b && regular_from (drop (i + 1) xs)) e

pub regular_here : (xs : List code.Line) (i : ℕ) (x : code.Line) → i < length xs → x ≡ get_or xs i x → is_regular (line_view x) ≡ false
    → list_all is_regular (lines_view (drop i xs)) ≡ false
regular_here xs i x h x_is e = ap regular_from (drop_at xs i x h x_is) ∙ ap (λ (b : Bool). b && regular_from (drop (i + 1) xs)) e

pub regular_end : (xs : List code.Line) (i : ℕ) → length xs ≤ i → list_all is_regular (lines_view (drop i xs)) ≡ true
regular_end xs i h = at_drop_all regular_from xs i h

abbrev has : ℕ → List ℕ → Bool
has c text = list_any (λ d. d == c) text

abbrev closes_from : ℕ → List code.Line → Bool
closes_from c ls = closes_later c (lines_view ls)

pub closes_more : (c : ℕ) (xs : List code.Line) (i : ℕ) (x : code.Line) → i < length xs → x ≡ get_or xs i x → list_any (λ d. d == c) x.text.now ≡ false
    → closes_later c (lines_view (drop i xs)) ≡ closes_later c (lines_view (drop (i + 1) xs))
closes_more c xs i x h x_is e = ap (closes_from c) (drop_at xs i x h x_is) ∙ rw e refl

pub closes_here : (c : ℕ) (xs : List code.Line) (i : ℕ) (x : code.Line) → i < length xs → x ≡ get_or xs i x → list_any (λ d. d == c) x.text.now ≡ true
    → closes_later c (lines_view (drop i xs)) ≡ true
closes_here c xs i x h x_is e = ap (closes_from c) (drop_at xs i x h x_is) ∙ rw e refl

pub closes_end : (c : ℕ) (xs : List code.Line) (i : ℕ) → length xs ≤ i → closes_later c (lines_view (drop i xs)) ≡ false
closes_end c xs i h = at_drop_all (closes_from c) xs i h

pub open_more : (l : Line) (later : List Line) (xs : List Opening) (i : ℕ) (x : Opening) → i < length xs → x ≡ get_or xs i x
    → is_before_forbidden l (place_view x.place) && closes_later x.closing later ≡ false
    → first_open l (openings_view (drop i xs)) later ≡ first_open l (openings_view (drop (i + 1) xs)) later
open_more l later xs i x h x_is e = ap (λ (ys : List Opening). first_open l (openings_view ys) later) (drop_at xs i x h x_is) ∙ rw e refl

pub open_here : (l : Line) (later : List Line) (xs : List Opening) (i : ℕ) (x : Opening) → i < length xs → x ≡ get_or xs i x
    → is_before_forbidden l (place_view x.place) ≡ true → closes_later x.closing later ≡ true
    → first_open l (openings_view (drop i xs)) later ≡ (3, place_view x.place)
open_here l later xs i x h x_is e f = ap (λ (ys : List Opening). first_open l (openings_view ys) later) (drop_at xs i x h x_is) ∙ rw (e, f) refl

pub open_end : (l : Line) (later : List Line) (xs : List Opening) (i : ℕ) → length xs ≤ i → first_open l (openings_view (drop i xs)) later ≡ syntax_code l
open_end l later xs i h = at_drop_all (λ (ys : List Opening). first_open l (openings_view ys) later) xs i h
