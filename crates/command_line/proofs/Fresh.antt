-- Options that have no row yet.
use Rattle.std.proofs.Common.{◌≡◌, Bool, true, false, not, ◌&&◌, ◌||◌, List, [], ◌∷◌, ◌++◌, Some, None, cond, refl, subst}
use Rattle.std.specs.Str.{bytes_eq}
use Rattle.std.proofs.lemmas.Slice.Eq.{bytes_eq-Decides}
use Rattle.clap.specs.Walk.{Row, at_row, used, has_row, more_values}
use Rattle.clap.specs.declared.parser.matches.ValueSource.TheVariants.{CommandLine}
use Rattle.clap.specs.declared.builder.value_parser.Reading.TheVariants.{AsWritten}
use Rattle.command_line.specs.Given.{Word, is_among, less}
use Rattle.command_line.proofs.Shapes.{file_id, option_rule, file_rule}

pub or_left : (a b : Bool) → (a || b) ≡ false → a ≡ false
or_left true b e = cc
or_left false b e = refl

pub or_right : (a b : Bool) → (a || b) ≡ false → b ≡ false
or_right true b e = cc
or_right false b e = e

pub or_both : (a b : Bool) → a ≡ false → b ≡ false → (a || b) ≡ false
or_both a b e f = rw (e, f) refl

pub and_left : (a b : Bool) → (a && b) ≡ true → a ≡ true
and_left true b e = refl
and_left false b e = cc

pub and_right : (a b : Bool) → (a && b) ≡ true → b ≡ true
and_right true b e = e
and_right false b e = cc

none_in_both : (y : Word) (xs ys : List Row) → has_row y xs ≡ false → has_row y ys ≡ false → has_row y (xs ++ ys) ≡ false
none_in_both y [] ys e f = f
none_in_both y (x ∷ xs) ys e f = or_both _ _ (or_left _ _ e) (none_in_both y xs ys (or_right _ _ e) f)

none_at : (y x : Word) (change : Row → List Row) (missing rows : List Row) → ((r : Row) → bytes_eq r.id y ≡ false → has_row y (change r) ≡ false)
    → has_row y missing ≡ false → has_row y rows ≡ false → has_row y (at_row x change missing rows) ≡ false
none_at y x change missing [] changed none e = none
none_at y x change missing (r ∷ rs) changed none e = by (bytes_eq r.id x) (none_at y x change missing rs changed none (or_right (bytes_eq r.id y) (has_row y rs) e)) where
  by : (b : Bool) → has_row y (at_row x change missing rs) ≡ false → has_row y (cond b (change r ++ rs) (r ∷ at_row x change missing rs)) ≡ false
  by true below = none_in_both y (change r) rs (changed r (or_left _ _ e)) (or_right _ _ e)
  by false below = or_both _ _ (or_left (bytes_eq r.id y) (has_row y rs) e) below

abbrev pub new_row : Word → Word → Row
new_row x v = record { id = x; values = v ∷ []; count = None; source = Some CommandLine; reading = AsWritten }

pub no_row_option : (y x v : Word) (q : Bool) (rows : List Row) → bytes_eq x y ≡ false → has_row y rows ≡ false → has_row y (used (option_rule x q) (v ∷ []) rows) ≡ false
no_row_option y x v q rows other e =
    none_at y x (more_values CommandLine (v ∷ [])) (new_row x v ∷ []) (at_row x (λ r. []) [] rows) (λ r h. or_both _ _ h refl) (or_both _ _ other refl) (none_at y x (λ r. []) [] rows (λ r h. refl) refl e)

pub no_row_file : (y w : Word) (rows : List Row) → bytes_eq file_id y ≡ false → has_row y rows ≡ false → has_row y (used file_rule (w ∷ []) rows) ≡ false
no_row_file y w rows other e = none_at y file_id (more_values CommandLine (w ∷ [])) (new_row file_id w ∷ []) rows (λ r h. or_both _ _ h refl) (or_both _ _ other refl) e

-- what may still be given behind x
pub still_among : (x y : Word) (options : List Word) → is_among y (less x options) ≡ true → (is_among y options ≡ true) × (bytes_eq x y ≡ false)
still_among x y [] e = cc
still_among x y (z ∷ zs) e = by (still_among x y zs) (bytes_eq x z) refl (bytes_eq z y) refl e where
  by : (is_among y (less x zs) ≡ true → (is_among y zs ≡ true) × (bytes_eq x y ≡ false))
      → (b : Bool) → bytes_eq x z ≡ b → (c : Bool) → bytes_eq z y ≡ c → is_among y (cond (not b) (z ∷ less x zs) (less x zs)) ≡ true
      → ((bytes_eq z y || is_among y zs) ≡ true) × (bytes_eq x y ≡ false)
  by below true is true eq e = (rw eq refl, (below e).1)
  by below true is false eq e = (rw eq (below e).0, (below e).1)
  by below false is true eq e = (rw eq refl, subst (λ (u : Word). bytes_eq x u ≡ false) ((bytes_eq-Decides z y).0 eq) is)
  by below false is false eq e = let h : is_among y (less x zs) ≡ true = rw eq at e in (rw eq (below h).0, (below h).1)
