-- What clap's command of a row serves alone; and words that give items are clean.
use Rattle.std.proofs.Common.{◌≡◌, ◌∙◌, ◌==◌, Bool, true, false, not, ◌&&◌, List, [], ◌∷◌, ◌++◌, map, Option, Some, None, Result, Ok, Err, refl, sym, ap, subst}
use Rattle.std.specs.Prelude.{IfOk, unwrap_or, option_map}
use Rattle.std.specs.List.{list_all, list_any, after_first}
use Rattle.std.specs.Str.{bytes_eq}
use Rattle.clap.specs.Lexer.{name_and_value}
use Rattle.clap.proofs.CutLemmas.{Lacks, list_any-Lacks, list_any-at, after_first-at}
use Rattle.clap.specs.Walk.{Rule, arg_by_index, arg_by_long}
use Rattle.clap.specs.Kinds.{Kinds, FailsBy}
use Rattle.clap.specs.declared.error.Error.{Error}
use Rattle.clap.specs.Simple.{App, HasMatchesOf, built, is_simple}
use Rattle.clap.specs.Faults.{fault_of, is_simple_and_free}
use Rattle.clap.specs.Matches.{found_of, matched_of, raw_values}
use Rattle.clap.specs.declared.parser.matches.ArgMatches.{ArgMatches}
use Rattle.command_line.specs.declared.command_name.Count.{Count}
use Rattle.command_line.specs.declared.command_name.Count.TheVariants.{NoName, OneName, SomeNames}
use Rattle.command_line.specs.declared.command_name.CommandName.{CommandName}
use Rattle.command_line.specs.Given.{Word, Item, dashed, joined, is_among, is_value, is_nonempty, less, Reads, nothing, apart, together, placed, ended}
use Rattle.command_line.specs.Table.{Row, row_of, takes_names, are_enough, IsGiven}
use Rattle.command_line.specs.Matched.{IsRead}
use Rattle.command_line.specs.Apps.{app_with, file_id}
use Rattle.command_line.specs.Matched.{HasItems}
use Rattle.command_line.specs.Clean.{behind_dashes, is_clean_option, is_option_or_value, is_last_dashes, clean_by, clean_from, are_clean}
use Rattle.command_line.proofs.Shapes.{shape_with, option_rule, IsOption, Serves}
use Rattle.command_line.proofs.Fresh.{or_left, or_right, and_left, and_right}
use Rattle.command_line.proofs.Walks.{serves_less}
use Rattle.command_line.proofs.Backward.{Only}
use Rattle.command_line.proofs.Apps.{IsServed, rules_of_row, file_rules}
use Rattle.command_line.proofs.Served.{served, has_items_of}
use Rattle.command_line.proofs.Taken.{read_where_no_fault}

long_none : (q : Bool) (xs : List Word) (rest : List Rule) (x : Word) → is_among x xs ≡ false → arg_by_long rest x ≡ None → arg_by_long (map (λ y. option_rule y q) xs ++ rest) x ≡ None
long_none q [] rest x e none = none
long_none q (y ∷ ys) rest x e none = rw (or_left (bytes_eq y x) _ e) (long_none q ys rest x (or_right (bytes_eq y x) _ e) none)

among_both : (x : Word) (xs ys : List Word) → is_among x (xs ++ ys) ≡ false → (is_among x xs ≡ false) × (is_among x ys ≡ false)
among_both x [] ys e = (refl, e)
among_both x (z ∷ zs) ys e =
    let p = among_both x zs ys (or_right (bytes_eq z x) _ e) in
    (rw (or_left (bytes_eq z x) _ e) p.0, p.1)

file_long : (c : Count) (x : Word) → arg_by_long (file_rules c) x ≡ None
file_long NoName x = refl
file_long OneName x = refl
file_long SomeNames x = refl

index_none : (q : Bool) (xs : List Word) (rest : List Rule) → arg_by_index rest 1 ≡ None → arg_by_index (map (λ y. option_rule y q) xs ++ rest) 1 ≡ None
index_none q [] rest e = e
index_none q (y ∷ ys) rest e = index_none q ys rest e

file_index : (c : Count) → takes_names c ≡ false → arg_by_index (file_rules c) 1 ≡ None
file_index NoName e = refl
file_index OneName e = cc
file_index SomeNames e = cc

pub only_of : (row : Row) → IsServed row → Only (rules_of_row row) (row.required ++ row.optional) (takes_names row.files)
only_of row s = record {
  serves = s.serves;
  unknown = λ x e. let p = among_both x row.required row.optional e in
      long_none true row.required _ x p.0 (long_none false row.optional (file_rules row.files) x p.1 (file_long row.files x));
  no_files = λ e. index_none true row.required _ (index_none false row.optional (file_rules row.files) (file_index row.files e));
}

-- ---- words that give items are clean

value_first : (v : Word) (ws : List Word) → is_value v ≡ true → are_clean ws ≡ true → are_clean (v ∷ ws) ≡ true
value_first [] ws e clean = cc
value_first (c ∷ cs) ws e clean = by (c == 45) refl e where
  by : (b : Bool) → (c == 45) ≡ b → not b ≡ true → are_clean ((c ∷ cs) ∷ ws) ≡ true
  by true is e = cc
  by false is e = rw is (rw is clean)

lacks_end : (x : Word) → (v : Option Word) → name_and_value x ≡ (x, v) → v ≡ None → list_any (λ y. y == 61) x ≡ false
lacks_end x v e none = by (list_any (λ y. y == 61) x) refl where
  by : (b : Bool) → list_any (λ y. y == 61) x ≡ b → list_any (λ y. y == 61) x ≡ false
  by true is =
      let second : (name_and_value x).1 ≡ None = ap (λ (p : Word × Option Word). p.1) e ∙ none in
      let bad = rw is at second in cc
  by false is = is

some_pair : (p q : Word × Option Word) → Some p ≡ Some q → p ≡ q
some_pair p q e = ap (λ (o : Option (Word × Option Word)). unwrap_or o p) e

option_first : (rules : List Rule) (x : Word) (ws : List Word) → IsOption rules x → are_clean ws ≡ true → are_clean (dashed x ∷ ws) ≡ true
option_first rules [] ws o clean = let bad : true ≡ false = o.name.no_end in cc
option_first rules (c ∷ cs) ws o clean =
    let e : name_and_value (c ∷ cs) ≡ (c ∷ cs, None) = some_pair _ _ o.name.alone in
    let none = lacks_end (c ∷ cs) None e refl in
    rw none clean

clean_cut : (t v : Word) → (name_and_value t).1 ≡ Some v → is_value v ≡ true → is_clean_option t ≡ true
clean_cut t v e value = by (list_any (λ y. y == 61) t) refl where
  by : (b : Bool) → list_any (λ y. y == 61) t ≡ b → is_clean_option t ≡ true
  by true is =
      let same : Some (after_first (λ y. y == 61) t) ≡ Some v = rw is at e in
      let here : after_first (λ y. y == 61) t ≡ v = ap (λ (o : Option Word). unwrap_or o v) same in
      rw is (subst (λ (u : Word). is_value u ≡ true) (sym here) value)
  by false is = rw is refl

joined_first : (rules : List Rule) (x v : Word) (ws : List Word) → IsOption rules x → is_value v ≡ true → are_clean ws ≡ true → are_clean (joined x v ∷ ws) ≡ true
joined_first rules [] v ws o value clean = let bad : true ≡ false = o.name.no_end in cc
joined_first rules (c ∷ cs) v ws o value clean =
    let e : name_and_value (c ∷ (cs ++ 61 ∷ v)) ≡ (c ∷ cs, Some v) = some_pair _ _ (o.name.both v) in
    rw (clean_cut (c ∷ (cs ++ 61 ∷ v)) v (ap (λ (p : Word × Option Word). p.1) e) value) clean

ended_clean : (takes : Bool) (ws : List Word) → list_all (λ w. takes && is_nonempty w) ws ≡ true → list_all is_nonempty ws ≡ true
ended_clean takes [] e = refl
ended_clean takes (w ∷ ws) e = rw (and_right takes _ (and_left (takes && is_nonempty w) _ e)) (ended_clean takes ws (and_right (takes && is_nonempty w) _ e))

pub clean_where_read : (rules : List Rule) (still : List Word) (takes : Bool) (words : List Word) (items : List Item) → Reads still takes words items → Serves rules still takes → are_clean words ≡ true
clean_where_read rules still takes words items nothing s = refl
clean_where_read rules still takes words items (apart {words = rest} {items = more} x v among value reads) s =
    option_first rules x (v ∷ rest) (s.option x among) (value_first v rest value (clean_where_read rules (less x still) takes rest more reads (serves_less rules x still takes s)))
clean_where_read rules still takes words items (together {words = rest} {items = more} x v among value reads) s =
    joined_first rules x v rest (s.option x among) value (clean_where_read rules (less x still) takes rest more reads (serves_less rules x still takes s))
clean_where_read rules still takes words items (placed {words = rest} {items = more} w takes_files value reads) s =
    value_first w rest value (clean_where_read rules still takes rest more reads s)
clean_where_read rules still takes words items (ended rest all) s = ended_clean takes rest all

pub unclean_untaken : (w : CommandName) (words : List Word) (items : List Item) → IsGiven (row_of w) words items → are_clean words ≡ true
unclean_untaken w words items given = clean_where_read (rules_of_row (row_of w)) _ _ words items given.reads (served w).serves

-- ---- for the code

ok_no_fault : {T : Type 0} (k : Kinds) (r : Result T Error) → FailsBy k r → IfOk r (λ t. k ≡ [])
ok_no_fault k (Ok t) e = e
ok_no_fault k (Err x) e = tt

free_app : (w : CommandName) (a : App) → a ≡ app_with (row_of w) → is_simple_and_free a ≡ true
free_app w a is = ap is_simple_and_free is ∙ by (app_with (row_of w)) (served w).simple (served w).built_is where
  by : (b : App) → is_simple b ≡ true → built b ≡ record { top = shape_with (row_of w).name (rules_of_row (row_of w)); subs = [] } → is_simple_and_free b ≡ true
  by b simple build = rw (simple, build, (served w).free) refl

pub read_back : (w : CommandName) (a : App) (words : List Word) (r : Result ArgMatches Error) → a ≡ app_with (row_of w) → (is_simple_and_free a ≡ true → FailsBy (fault_of a words) r) → IfOk r (HasMatchesOf a words)
    → IfOk r (λ m. are_clean words ≡ true → (items : List Item) × IsRead (row_of w) words items × HasItems m items)
read_back w a words r is fails matches = both r (ok_no_fault (fault_of a words) r (fails (free_app w a is))) matches where
  both : (r : Result ArgMatches Error) → IfOk r (λ m. fault_of a words ≡ []) → IfOk r (HasMatchesOf a words)
      → IfOk r (λ m. are_clean words ≡ true → (items : List Item) × IsRead (row_of w) words items × HasItems m items)
  both (Err x) none has = tt
  both (Ok m) none has = λ clean.
      let found = read_where_no_fault (row_of w) words (served w) (only_of (row_of w) (served w)) clean (sym (ap (λ (b : App). fault_of b words) is) ∙ none) in
      (found.0, found.1, has_items_of w a words found.0 m is found.1.reads has)

pub unclean_none : (w : CommandName) (words : List Word) (b : Bool) → b ≡ false → b ≡ are_clean words → (items : List Item) → IsGiven (row_of w) words items → ⊥
unclean_none w words b e is items given = let clean : b ≡ true = is ∙ unclean_untaken w words items given in cc

-- the names that the matches have
abbrev pub names_found : ArgMatches → List Word
names_found m = unwrap_or (option_map raw_values (matched_of (found_of m) file_id)) []

pub enough_none : (w : CommandName) (words : List Word) (m : ArgMatches) → ((items : List Item) → IsGiven (row_of w) words items → HasItems m items)
    → are_enough (row_of w).files (names_found m) ≡ false → (items : List Item) → IsGiven (row_of w) words items → ⊥
enough_none w words m has e items given =
    let same : are_enough (row_of w).files (names_found m) ≡ true = rw (has items given).names given.enough in
    cc

pub enough_some : (w : CommandName) (words : List Word) (m : ArgMatches) → are_clean words ≡ true
    → (are_clean words ≡ true → (items : List Item) × IsRead (row_of w) words items × HasItems m items)
    → are_enough (row_of w).files (names_found m) ≡ true → (items : List Item) × IsGiven (row_of w) words items × HasItems m items
enough_some w words m clean back e =
    let r = back clean in
    (r.0, record { reads = r.1.reads; required = r.1.required; enough = rw (← r.2.names) e }, r.2)

clean_ended : (ws : List Word) → clean_from true ws ≡ list_all is_nonempty ws
clean_ended [] = refl
clean_ended (w ∷ ws) = rw (clean_ended ws) refl

-- word by word
pub clean_same : (ws : List Word) → clean_from false ws ≡ are_clean ws
clean_same [] = refl
clean_same (w ∷ ws) = by (behind_dashes w) (clean_same ws) where
  by : (o : Option Word) → clean_from false ws ≡ are_clean ws → (is_option_or_value w o && clean_from (is_last_dashes o) ws) ≡ clean_by w o ws (are_clean ws)
  by None below = rw below refl
  by (Some []) below = clean_ended ws
  by (Some (c ∷ cs)) below = rw below refl

pub clean_lacks : (t : Word) → Lacks 61 t → true ≡ is_clean_option t
clean_lacks t h = rw (list_any-Lacks 61 t h) refl

pub clean_at : (t x v : Word) (b : Bool) → b ≡ is_value v → t ≡ x ++ 61 ∷ v → Lacks 61 x → b ≡ is_clean_option t
clean_at t x v b e is h = e ∙ subst (λ (u : Word). is_value v ≡ is_clean_option u) (sym is) (rw (list_any-at 61 x v) (rw (after_first-at 61 x v h) refl))
