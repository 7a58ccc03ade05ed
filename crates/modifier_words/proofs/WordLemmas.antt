-- Where a word is found, it's at the first of the rows that are left; where it isn't, the others tell.
use Rattle.std.proofs.Common.{ℕ, zero, suc, ◌+◌, ◌≡◌, ◌<◌, true, false, List, [], ◌∷◌, length, drop, slice_index_or, sym, refl, arith, Some}
use Rattle.std.proofs.lemmas.Bool.{and_parts}
use Rattle.std.specs.Borrow.{Bor}
use Rattle.std.specs.Str.{bytes_eq}
use Rattle.sig_base.specs.Texts.{is_ascii}
use Rattle.modifier_words.specs.Words.{modifier_in, rows_of, are_ascii}
use Rattle.modifier_words.specs.declared.modifier.Modifier.{Modifier}

abbrev Row : Type 0
Row = Bor (List ℕ) × Modifier

pub found_there : (rows : List Row) (i : ℕ) (d : Row) (word : List ℕ) → i < length rows → are_ascii (drop i rows) ≡ true
    → (is_ascii (slice_index_or rows i d).0.now ≡ true → true ≡ bytes_eq word (slice_index_or rows i d).0.now)
    → Some (slice_index_or rows i d).1 ≡ modifier_in (rows_of (drop i rows)) word
found_there [] i d word within ascii same = absurd (omega (arith, within))
found_there (row ∷ rows) zero d word within ascii same =
    let named : true ≡ bytes_eq word row.0.now = same (and_parts (is_ascii row.0.now) (are_ascii rows) ascii).0 in
    rw (sym named) refl
found_there (row ∷ rows) (suc i) d word within ascii same = found_there rows i d word (omega (arith, within)) ascii same

-- the rows from this one on tell as those from the one before, and are ASCII
pub record TellAs (rows : List Row) (i j : ℕ) (word : List ℕ) : Type 0 where
  pub same : modifier_in (rows_of (drop j rows)) word ≡ modifier_in (rows_of (drop i rows)) word
  pub ascii : are_ascii (drop j rows) ≡ true

pub found_later : (rows : List Row) (i j : ℕ) (d : Row) (word : List ℕ) → j ≡ i + 1 → i < length rows → are_ascii (drop i rows) ≡ true
    → (is_ascii (slice_index_or rows i d).0.now ≡ true → false ≡ bytes_eq word (slice_index_or rows i d).0.now)
    → TellAs rows i j word
found_later [] i j d word next within ascii other = absurd (omega (arith, within))
found_later (row ∷ rows) i zero d word next within ascii other = absurd (omega (arith, next))
found_later (row ∷ rows) zero (suc j) d word next within ascii other =
    let both = and_parts (is_ascii row.0.now) (are_ascii rows) ascii in
    let named : false ≡ bytes_eq word row.0.now = other both.0 in
    let none : j ≡ 0 = omega (arith, next) in
    record { same = rw (none, sym named) refl; ascii = rw none both.1 }
found_later (row ∷ rows) (suc i) (suc j) d word next within ascii other =
    let more : TellAs rows i j word = found_later rows i j d word (omega (arith, next)) (omega (arith, within)) ascii other in
    record { same = more.same; ascii = more.ascii }
