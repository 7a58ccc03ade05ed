-- What the rows of items hold.
use Rattle.std.proofs.Common.{◌≡◌, ◌∙◌, Bool, true, false, ◌&&◌, List, [], ◌∷◌, ◌++◌, map, Option, Some, None, cond, refl, sym, ap, subst}
use Rattle.std.specs.Prelude.{find, option_map, unwrap_or}
use Rattle.std.specs.List.{list_all}
use Rattle.std.specs.Str.{bytes_eq}
use Rattle.std.proofs.lemmas.Slice.Eq.{bytes_eq-Decides}
use Rattle.std.proofs.lemmas.List.{append_assoc, append-nil}
use Rattle.clap.specs.Facts.{explicit_source}
use Rattle.clap.specs.Walk.{Rule, Row, at_row, has_row, more_values, without, stronger}
use Rattle.clap.specs.Takes.{is_given}
use Rattle.clap.specs.declared.parser.matches.ValueSource.{ValueSource}
use Rattle.clap.specs.declared.parser.matches.ValueSource.TheVariants.{CommandLine, DefaultValue}
use Rattle.command_line.specs.Given.{Word, Item, named, file, less, Reads, nothing, apart, together, placed, ended, value_of, names_of}
use Rattle.command_line.proofs.Shapes.{file_id, IsOption, Serves, rows_from, row_step}
use Rattle.command_line.proofs.Fresh.{or_left, or_right, and_left, and_right, new_row}
use Rattle.command_line.proofs.Walks.{AreFresh, fresh_less, fresh_file, serves_less}

abbrev pub look : Word → List Row → Option Row
look y rows = find (λ r. bytes_eq r.id y) rows

-- a new option's row comes at the end
removed_none : (x : Word) (rows : List Row) → has_row x rows ≡ false → without x rows ≡ rows
removed_none x [] e = refl
removed_none x (r ∷ rs) e = rw (or_left (bytes_eq r.id x) (has_row x rs) e) (ap (λ (l : List Row). r ∷ l) (removed_none x rs (or_right (bytes_eq r.id x) _ e)))

added_last : (x v : Word) (rows : List Row) → has_row x rows ≡ false → at_row x (more_values CommandLine (v ∷ [])) (new_row x v ∷ []) rows ≡ rows ++ new_row x v ∷ []
added_last x v [] e = refl
added_last x v (r ∷ rs) e = rw (or_left (bytes_eq r.id x) (has_row x rs) e) (ap (λ (l : List Row). r ∷ l) (added_last x v rs (or_right (bytes_eq r.id x) _ e)))

pub named_last : (x v : Word) (rows : List Row) → has_row x rows ≡ false → row_step rows (named x v) ≡ rows ++ new_row x v ∷ []
named_last x v rows e = ap (at_row x (more_values CommandLine (v ∷ [])) (new_row x v ∷ [])) (removed_none x rows e) ∙ added_last x v rows e

abbrev pub first_row : Option Row → Option Row → Option Row
first_row (Some r) other = Some r
first_row None other = other

look_both : (y : Word) (xs ys : List Row) → look y (xs ++ ys) ≡ first_row (look y xs) (look y ys)
look_both y [] ys = refl
look_both y (x ∷ xs) ys = by (bytes_eq x.id y) (look_both y xs ys) where
  by : (b : Bool) → look y (xs ++ ys) ≡ first_row (look y xs) (look y ys) → cond b (Some x) (look y (xs ++ ys)) ≡ first_row (cond b (Some x) (look y xs)) (look y ys)
  by true e = refl
  by false e = e

no_look : (y : Word) (rows : List Row) → has_row y rows ≡ false → look y rows ≡ None
no_look y [] e = refl
no_look y (r ∷ rs) e = rw (or_left (bytes_eq r.id y) (has_row y rs) e) (no_look y rs (or_right (bytes_eq r.id y) _ e))

first_none : (o : Option Row) → first_row o None ≡ o
first_none None = refl
first_none (Some r) = refl

-- an option's row is there, and every other row stays
look_named : (x v : Word) (rows : List Row) → bytes_eq x x ≡ true → has_row x rows ≡ false → look x (row_step rows (named x v)) ≡ Some (new_row x v)
look_named x v rows same fresh = ap (look x) (named_last x v rows fresh) ∙ (look_both x rows (new_row x v ∷ []) ∙ rw (no_look x rows fresh, same) refl)

look_other : (x v y : Word) (rows : List Row) → bytes_eq x y ≡ false → has_row x rows ≡ false → look y (row_step rows (named x v)) ≡ look y rows
look_other x v y rows other fresh = ap (look y) (named_last x v rows fresh) ∙ (look_both y rows (new_row x v ∷ []) ∙ rw other (first_none (look y rows)))

look_file_other : (w y : Word) (rows : List Row) → bytes_eq file_id y ≡ false → look y (row_step rows (file w)) ≡ look y rows
look_file_other w y [] other = rw other refl
look_file_other w y (r ∷ rs) other = by (bytes_eq r.id file_id) refl (look_file_other w y rs other) where
  by : (b : Bool) → bytes_eq r.id file_id ≡ b → look y (row_step rs (file w)) ≡ look y rs
      → look y (cond b (more_values CommandLine (w ∷ []) r ++ rs) (r ∷ row_step rs (file w))) ≡ cond (bytes_eq r.id y) (Some r) (look y rs)
  by true e below =
      let not_y : bytes_eq r.id y ≡ false = subst (λ (u : Word). bytes_eq u y ≡ false) (sym ((bytes_eq-Decides r.id file_id).0 e)) other in
      rw not_y refl
  by false e below = ap (λ (o : Option Row). cond (bytes_eq r.id y) (Some r) o) below

-- the values that names have so far
abbrev pub names_in : List Row → List Word
names_in rows = unwrap_or (option_map (λ r. r.values) (look file_id rows)) []

names_file : (w : Word) (rows : List Row) → names_in (row_step rows (file w)) ≡ names_in rows ++ w ∷ []
names_file w [] = refl
names_file w (r ∷ rs) = by (bytes_eq r.id file_id) refl (names_file w rs) where
  by : (b : Bool) → bytes_eq r.id file_id ≡ b → names_in (row_step rs (file w)) ≡ names_in rs ++ w ∷ []
      → names_in (cond b (more_values CommandLine (w ∷ []) r ++ rs) (r ∷ row_step rs (file w))) ≡ names_in (r ∷ rs) ++ w ∷ []
  by true e below = rw e refl
  by false e below = rw e below

abbrev pub given_row : Word → List Item → Option Row
given_row y items = option_map (new_row y) (value_of y items)

-- the row of an option behind items
abbrev pub IsLooked : Word → List Row → List Item → Type 0
IsLooked y rows items = look y (rows_from rows items) ≡ first_row (look y rows) (given_row y items)

looked_files : (y : Word) (words : List Word) (rows : List Row) → bytes_eq file_id y ≡ false → IsLooked y rows (map file words)
looked_files y [] rows other = sym (first_none (look y rows))
looked_files y (w ∷ ws) rows other = looked_files y ws (row_step rows (file w)) other ∙ ap (λ (o : Option Row). first_row o (given_row y (map file ws))) (look_file_other w y rows other)

-- one option more
looked_named : (rules : List Rule) (x v y : Word) (rows : List Row) (items : List Item) → IsOption rules x → has_row x rows ≡ false
    → IsLooked y (row_step rows (named x v)) items → IsLooked y rows (named x v ∷ items)
looked_named rules x v y rows items o fresh below = by (bytes_eq x y) refl where
  by : (b : Bool) → bytes_eq x y ≡ b → look y (rows_from (row_step rows (named x v)) items) ≡ first_row (look y rows) (option_map (new_row y) (cond (bytes_eq x y) (Some v) (value_of y items)))
  by true e =
      let is : x ≡ y = (bytes_eq-Decides x y).0 e in
      let here : look y (row_step rows (named x v)) ≡ Some (new_row y v) = subst (λ (u : Word). look u (row_step rows (named x v)) ≡ Some (new_row u v)) is (look_named x v rows o.name.same fresh) in
      let gone : look y rows ≡ None = no_look y rows (subst (λ (u : Word). has_row u rows ≡ false) is fresh) in
      below ∙ (ap (λ (p : Option Row). first_row p (given_row y items)) here ∙ rw (e, gone) refl)
  by false e = rw e (below ∙ ap (λ (p : Option Row). first_row p (given_row y items)) (look_other x v y rows e fresh))

pub looked : (rules : List Rule) (still : List Word) (takes : Bool) (words : List Word) (items : List Item) → Reads still takes words items → Serves rules still takes
    → (rows : List Row) → AreFresh still rows → (y : Word) → bytes_eq file_id y ≡ false → IsLooked y rows items
looked rules still takes words items nothing serves rows fresh y other = sym (first_none (look y rows))
looked rules still takes words items (apart {words = rest} {items = more} x v among value reads) serves rows fresh y other =
    looked_named rules x v y rows more (serves.option x among) (fresh x among)
    (looked rules (less x still) takes rest more reads (serves_less rules x still takes serves) (row_step rows (named x v)) (fresh_less x v still rows fresh) y other)
looked rules still takes words items (together {words = rest} {items = more} x v among value reads) serves rows fresh y other =
    looked_named rules x v y rows more (serves.option x among) (fresh x among)
    (looked rules (less x still) takes rest more reads (serves_less rules x still takes serves) (row_step rows (named x v)) (fresh_less x v still rows fresh) y other)
looked rules still takes words items (placed {words = rest} {items = more} w takes_files value reads) serves rows fresh y other =
    looked rules still takes rest more reads serves (row_step rows (file w)) (fresh_file rules takes w still rows serves fresh) y other
    ∙ ap (λ (o : Option Row). first_row o (given_row y more)) (look_file_other w y rows other)
looked rules still takes words items (ended rest all) serves rows fresh y other = looked_files y rest rows other

-- the names behind items
abbrev pub AreNames : List Row → List Item → Type 0
AreNames rows items = names_in (rows_from rows items) ≡ names_in rows ++ names_of items

one_name : (w : Word) (rows : List Row) (items : List Item) → AreNames (row_step rows (file w)) items → AreNames rows (file w ∷ items)
one_name w rows items below = below ∙ (ap (λ (l : List Word). l ++ names_of items) (names_file w rows) ∙ append_assoc (names_in rows) (w ∷ []) (names_of items))

names_files : (words : List Word) (rows : List Row) → AreNames rows (map file words)
names_files [] rows = sym (append-nil (names_in rows))
names_files (w ∷ ws) rows = one_name w rows (map file ws) (names_files ws (row_step rows (file w)))

names_named : (rules : List Rule) (x v : Word) (rows : List Row) (items : List Item) → IsOption rules x → has_row x rows ≡ false
    → AreNames (row_step rows (named x v)) items → AreNames rows (named x v ∷ items)
names_named rules x v rows items o fresh below =
    below ∙ ap (λ (p : Option Row). unwrap_or (option_map (λ r. r.values) p) [] ++ names_of items) (look_other x v file_id rows o.name.other_way fresh)

pub names_are : (rules : List Rule) (still : List Word) (takes : Bool) (words : List Word) (items : List Item) → Reads still takes words items → Serves rules still takes
    → (rows : List Row) → AreFresh still rows → AreNames rows items
names_are rules still takes words items nothing serves rows fresh = sym (append-nil (names_in rows))
names_are rules still takes words items (apart {words = rest} {items = more} x v among value reads) serves rows fresh =
    names_named rules x v rows more (serves.option x among) (fresh x among)
    (names_are rules (less x still) takes rest more reads (serves_less rules x still takes serves) (row_step rows (named x v)) (fresh_less x v still rows fresh))
names_are rules still takes words items (together {words = rest} {items = more} x v among value reads) serves rows fresh =
    names_named rules x v rows more (serves.option x among) (fresh x among)
    (names_are rules (less x still) takes rest more reads (serves_less rules x still takes serves) (row_step rows (named x v)) (fresh_less x v still rows fresh))
names_are rules still takes words items (placed {words = rest} {items = more} w takes_files value reads) serves rows fresh =
    one_name w rows more (names_are rules still takes rest more reads serves (row_step rows (file w)) (fresh_file rules takes w still rows serves fresh))
names_are rules still takes words items (ended rest all) serves rows fresh = names_files rest rows

-- every row comes from the words
abbrev pub is_explicit : Row → Bool
is_explicit r = explicit_source r.source

stronger_explicit : (s : Option ValueSource) → explicit_source (Some (stronger s CommandLine)) ≡ true
stronger_explicit None = refl
stronger_explicit (Some CommandLine) = refl
stronger_explicit (Some DefaultValue) = refl

all_in_both : (xs ys : List Row) → list_all is_explicit xs ≡ true → list_all is_explicit ys ≡ true → list_all is_explicit (xs ++ ys) ≡ true
all_in_both [] ys e f = f
all_in_both (x ∷ xs) ys e f = rw (and_left (is_explicit x) _ e) (all_in_both xs ys (and_right (is_explicit x) _ e) f)

explicit_at : (x : Word) (change : Row → List Row) (missing rows : List Row) → ((r : Row) → list_all is_explicit (change r) ≡ true)
    → list_all is_explicit missing ≡ true → list_all is_explicit rows ≡ true → list_all is_explicit (at_row x change missing rows) ≡ true
explicit_at x change missing [] changed none e = none
explicit_at x change missing (r ∷ rs) changed none e = by (bytes_eq r.id x) (explicit_at x change missing rs changed none (and_right (is_explicit r) _ e)) where
  by : (b : Bool) → list_all is_explicit (at_row x change missing rs) ≡ true → list_all is_explicit (cond b (change r ++ rs) (r ∷ at_row x change missing rs)) ≡ true
  by true below = all_in_both (change r) rs (changed r) (and_right (is_explicit r) _ e)
  by false below = rw (and_left (is_explicit r) _ e) below

and_true : (b : Bool) → b ≡ true → (b && true) ≡ true
and_true b e = rw e refl

explicit_step : (rows : List Row) (i : Item) → list_all is_explicit rows ≡ true → list_all is_explicit (row_step rows i) ≡ true
explicit_step rows (named x v) e = explicit_at x (more_values CommandLine (v ∷ [])) (new_row x v ∷ []) (without x rows) (λ r. and_true _ (stronger_explicit r.source)) refl
    (explicit_at x (λ r. []) [] rows (λ r. refl) refl e)
explicit_step rows (file w) e = explicit_at file_id (more_values CommandLine (w ∷ [])) (new_row file_id w ∷ []) rows (λ r. and_true _ (stronger_explicit r.source)) refl e

pub explicit_all : (items : List Item) (rows : List Row) → list_all is_explicit rows ≡ true → list_all is_explicit (rows_from rows items) ≡ true
explicit_all [] rows e = e
explicit_all (i ∷ is) rows e = explicit_all is (row_step rows i) (explicit_step rows i e)

-- what is looked up is given
pub given_where_looked : (x : Word) (rows : List Row) (r : Row) → list_all is_explicit rows ≡ true → look x rows ≡ Some r → is_given x rows ≡ true
given_where_looked x [] r e is = cc
given_where_looked x (y ∷ ys) r e is = by (bytes_eq y.id x) refl (given_where_looked x ys r (and_right (is_explicit y) _ e)) where
  by : (b : Bool) → bytes_eq y.id x ≡ b → (look x ys ≡ Some r → is_given x ys ≡ true) → is_given x (y ∷ ys) ≡ true
  by true same below = rw same (and_left (is_explicit y) _ e)
  by false same below = let h : look x ys ≡ Some r = rw same at is in rw same (below h)
