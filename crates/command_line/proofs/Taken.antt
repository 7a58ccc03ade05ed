-- Words that a row of the table takes are words that its clap command takes, and the rows are the items'.
use Rattle.std.proofs.Common.{◌≡◌, ◌∙◌, Bool, true, false, not, ◌&&◌, ◌||◌, List, [], ◌∷◌, ◌++◌, map, Option, Some, None, cond, refl, sym, ap, subst, is_some}
use Rattle.std.specs.Prelude.{option_map, unwrap_or, fold}
use Rattle.std.specs.List.{list_any, list_all, AllByRecursion}
use Rattle.std.specs.Str.{bytes_eq}
use Rattle.clap.specs.Walk.{Rule, idle, nothing_held, has_row, with_default, finished, walk, settled}
use Rattle.clap.specs.Walk.{Row as Found}
use Rattle.clap.specs.Takes.{built_takes, is_given, level_passes, takes}
use Rattle.clap.specs.Simple.{App, argument_words, built, is_simple, matches_of}
use Rattle.clap.proofs.TakesLemmas.{leaf_takes}
use Rattle.clap.proofs.FaultLemmas.{leaf_fault}
use Rattle.std.specs.Option.{option_map_or}
use Rattle.clap.specs.Facts.{explicit_source}
use Rattle.clap.specs.Kinds.{Kinds, check_kinds, or_else}
use Rattle.clap.specs.Faults.{built_fault, check_fault, default_fault, defaults_fault, fault_of, level_fault, settle_fault, walk_fault}
use Rattle.command_line.specs.Clean.{are_clean}
use Rattle.command_line.proofs.Back.{none_both}
use Rattle.command_line.proofs.Backward.{Only, back}
use Rattle.command_line.specs.Given.{Word, Item, Reads, value_of, names_of}
use Rattle.command_line.specs.declared.command_name.Count.{Count}
use Rattle.command_line.specs.declared.command_name.Count.TheVariants.{NoName, OneName, SomeNames}
use Rattle.command_line.specs.Table.{Row, takes_names, are_enough, IsGiven}
use Rattle.command_line.specs.Matched.{IsRead}
use Rattle.command_line.specs.Apps.{app_with}
use Rattle.command_line.proofs.Shapes.{file_id, option_rule, shape_with, rows_from, at, is_idle}
use Rattle.command_line.proofs.Turns.{Goes}
use Rattle.command_line.proofs.Walks.{goes}
use Rattle.command_line.proofs.Fresh.{and_left, and_right, or_left, or_right, or_both, new_row}
use Rattle.command_line.proofs.Found.{look, names_in, looked, names_are, explicit_all, given_where_looked, is_explicit}
use Rattle.command_line.proofs.Apps.{rules_of_row, file_rules, IsServed}

no_defaults : (rules : List Rule) (rows : List Found) → AllByRecursion (λ a. a.defaults ≡ []) rules → fold with_default rows rules ≡ rows
no_defaults [] rows all = refl
no_defaults (a ∷ rest) rows all = ap (λ (r : List Found). fold with_default r rest) here ∙ no_defaults rest rows all.1
  where
    by : (b : Bool) → cond b rows rows ≡ rows
    by true = refl
    by false = refl

    here : with_default rows a ≡ rows
    here = rw all.0 (by (has_row a.id rows))

-- what is required is given
abbrev Asked : List Found → Rule → Bool
Asked rows a = not a.required || is_given a.id rows

asked_both : (rows : List Found) (xs ys : List Rule) → list_all (Asked rows) xs ≡ true → list_all (Asked rows) ys ≡ true → list_all (Asked rows) (xs ++ ys) ≡ true
asked_both rows [] ys e f = f
asked_both rows (x ∷ xs) ys e f = rw (and_left (Asked rows x) _ e) (asked_both rows xs ys (and_right (Asked rows x) _ e) f)

some_row : (x : Word) (o : Option Word) → is_some o ≡ true → (r : Found) × (option_map (new_row x) o ≡ Some r)
some_row x None e = cc
some_row x (Some v) e = (new_row x v, refl)

asked_required : (rows : List Found) (items : List Item) (xs : List Word) → AllByRecursion (λ x. bytes_eq file_id x ≡ false) xs
    → ((x : Word) → bytes_eq file_id x ≡ false → look x rows ≡ option_map (new_row x) (value_of x items))
    → list_all is_explicit rows ≡ true → list_all (λ x. is_some (value_of x items)) xs ≡ true → list_all (Asked rows) (map (λ x. option_rule x true) xs) ≡ true
asked_required rows items [] known looks explicit e = refl
asked_required rows items (x ∷ xs) known looks explicit e =
    let r = some_row x (value_of x items) (and_left (is_some (value_of x items)) _ e) in
    rw (given_where_looked x rows r.0 explicit (looks x known.0 ∙ r.1)) (asked_required rows items xs known.1 looks explicit (and_right (is_some (value_of x items)) _ e))

asked_optional : (rows : List Found) (xs : List Word) → list_all (Asked rows) (map (λ x. option_rule x false) xs) ≡ true
asked_optional rows [] = refl
asked_optional rows (x ∷ xs) = asked_optional rows xs

name_row : (o : Option Found) (w : Word) (ws : List Word) → unwrap_or (option_map (λ r. r.values) o) [] ≡ w ∷ ws → (r : Found) × (o ≡ Some r)
name_row None w ws e = cc
name_row (Some r) w ws e = (r, refl)

name_given : (rows : List Found) (names : List Word) → list_all is_explicit rows ≡ true → names_in rows ≡ names → (names ≡ [] → ⊥) → is_given file_id rows ≡ true
name_given rows [] explicit e some = absurd (some refl)
name_given rows (w ∷ ws) explicit e some = let r = name_row (look file_id rows) w ws e in given_where_looked file_id rows r.0 explicit r.1

some_name : (c : Count) (names : List Word) → takes_names c ≡ true → are_enough c names ≡ true → names ≡ [] → ⊥
some_name NoName names t e is = cc
some_name OneName [] t e is = cc
some_name OneName (w ∷ ws) t e is = cc
some_name SomeNames [] t e is = cc
some_name SomeNames (w ∷ ws) t e is = cc

asked_files : (rows : List Found) (c : Count) (names : List Word) → list_all is_explicit rows ≡ true → names_in rows ≡ names → are_enough c names ≡ true → list_all (Asked rows) (file_rules c) ≡ true
asked_files rows NoName names explicit e enough = refl
asked_files rows OneName names explicit e enough = rw (name_given rows names explicit e (some_name OneName names refl enough)) refl
asked_files rows SomeNames names explicit e enough = rw (name_given rows names explicit e (some_name SomeNames names refl enough)) refl

takes_as : (a b : App) (words : List Word) → is_simple a ≡ true → built a ≡ b → a.top.no_binary_name ≡ true → built_takes b nothing_held words ≡ true → takes a words ≡ true
takes_as a b words simple is no_name e =
    let same : argument_words a words ≡ words = rw no_name refl in
    rw simple (subst (λ (ws : List Word). built_takes (built a) nothing_held ws ≡ true) (sym same) (subst (λ (c : App). built_takes c nothing_held words ≡ true) (sym is) e))

matches_as : (a b : App) (words : List Word) → built a ≡ b → a.top.no_binary_name ≡ true
    → matches_of a words ≡ finished b.top.rules (walk b.top.rules (map (λ s. (s.name, s.aliases)) b.subs) nothing_held words).held
matches_as a b words is no_name =
    let same : argument_words a words ≡ words = rw no_name refl in
    let F : App → List Word → List Found = λ c ws. finished c.top.rules (walk c.top.rules (map (λ s. (s.name, s.aliases)) c.subs) nothing_held ws).held in
    ap (F (built a)) same ∙ ap (λ (c : App). F c words) is

level_from : (a b c d e : Bool) → a ≡ true → b ≡ true → c ≡ true → d ≡ true → e ≡ true → (a && (b && (c && (d && e)))) ≡ true
level_from a b c d e p q r s t = rw (p, q, r, s, t) refl

-- what clap's matches are at words that give items
pub record IsReadBy (row : Row) (words : List Word) (items : List Item) : Type 0 where
  pub goes : Goes row.name (rules_of_row row) (at nothing_held idle false) words (rows_from [] items)
  pub done : finished (rules_of_row row) (walk (rules_of_row row) [] nothing_held words).held ≡ rows_from [] items
  pub looks : (x : Word) → bytes_eq file_id x ≡ false → look x (rows_from [] items) ≡ option_map (new_row x) (value_of x items)
  pub names_from : names_in (rows_from [] items) ≡ names_of items
  pub matches : matches_of (app_with row) words ≡ rows_from [] items
  pub values : (x : Word) → bytes_eq file_id x ≡ false → look x (matches_of (app_with row) words) ≡ option_map (new_row x) (value_of x items)
  pub names : names_in (matches_of (app_with row) words) ≡ names_of items

pub read_by_clap : (row : Row) (words : List Word) (items : List Item) → IsServed row → Reads (row.required ++ row.optional) (takes_names row.files) words items → IsReadBy row words items
read_by_clap row words items served reads =
    let rules = rules_of_row row in
    let walk_goes = goes row.name rules (row.required ++ row.optional) (takes_names row.files) words items reads served.serves nothing_held idle [] is_idle
    (record { rows_are = refl; settles = refl; clear = refl }) (λ y e. refl) in
    let rows = rows_from [] items in
    let done : finished rules (walk rules [] nothing_held words).held ≡ rows = no_defaults rules _ served.defaults ∙ walk_goes.rows_are in
    let looks : (x : Word) → bytes_eq file_id x ≡ false → look x rows ≡ option_map (new_row x) (value_of x items) =
    λ x other. looked rules (row.required ++ row.optional) (takes_names row.files) words items reads served.serves [] (λ y e. refl) x other in
    let names : names_in rows ≡ names_of items = names_are rules (row.required ++ row.optional) (takes_names row.files) words items reads served.serves [] (λ y e. refl) in
    let matches : matches_of (app_with row) words ≡ rows = matches_as (app_with row) _ words served.built_is served.no_name ∙ done in
    record {
      goes = walk_goes;
      done = done;
      looks = looks;
      names_from = names;
      matches = matches;
      values = λ x other. ap (look x) matches ∙ looks x other;
      names = ap names_in matches ∙ names;
    }

pub taken_by_clap : (row : Row) (words : List Word) (items : List Item) → IsServed row → IsGiven row words items → takes (app_with row) words ≡ true
taken_by_clap row words items served given =
    let rules = rules_of_row row in
    let by = read_by_clap row words items served given.reads in
    let rows = rows_from [] items in
    let end = (walk rules [] nothing_held words).held in
    let explicit = explicit_all items [] refl in
    let asked : list_all (Asked rows) rules ≡ true =
    asked_both rows (map (λ x. option_rule x true) row.required) _ (asked_required rows items row.required served.known by.looks explicit given.required)
    (asked_both rows (map (λ x. option_rule x false) row.optional) (file_rules row.files) (asked_optional rows row.optional) (asked_files rows row.files (names_of items) explicit by.names_from given.enough)) in
    let asked_end : list_all (Asked (finished rules end)) rules ≡ true = subst (λ (r : List Found). list_all (Asked r) rules ≡ true) (sym by.done) asked in
    let level : level_passes (shape_with row.name rules) [] nothing_held words false ≡ true =
    level_from _ _ _ _ _ by.goes.passes by.goes.settles served.pass served.free asked_end in
    takes_as (app_with row) _ words served.simple served.built_is served.no_name
    (leaf_takes (record { top = shape_with row.name rules; subs = [] }) nothing_held words refl level)

-- and back: what is clean and has no fault is read
faults_as : (a b : App) (words : List Word) → built a ≡ b → a.top.no_binary_name ≡ true → fault_of a words ≡ built_fault b nothing_held words
faults_as a b words is no_name =
    let same : argument_words a words ≡ words = rw no_name refl in
    ap (built_fault (built a) nothing_held) same ∙ ap (λ (c : App). built_fault c nothing_held words) is

-- what is asked for and given has a value
given_value : (x : Word) (rows : List Found) (o : Option Word) → look x rows ≡ option_map (new_row x) o → is_given x rows ≡ true → is_some o ≡ true
given_value x rows (Some v) e given = refl
given_value x rows None e given =
    let none : is_given x rows ≡ false = ap (λ (p : Option Found). option_map_or (λ r. explicit_source r.source) p false) e in
    cc

abbrev wants : List Found → Rule → Bool
wants rows a = a.required && not (is_given a.id rows)

not_not : (b : Bool) → not b ≡ false → b ≡ true
not_not true e = refl
not_not false e = cc

required_given : (rows : List Found) (items : List Item) (xs : List Word) (rest : List Rule) → AllByRecursion (λ x. bytes_eq file_id x ≡ false) xs
    → ((x : Word) → bytes_eq file_id x ≡ false → look x rows ≡ option_map (new_row x) (value_of x items))
    → list_any (wants rows) (map (λ x. option_rule x true) xs ++ rest) ≡ false → list_all (λ x. is_some (value_of x items)) xs ≡ true
required_given rows items [] rest known looks e = refl
required_given rows items (x ∷ xs) rest known looks e =
    rw (given_value x rows (value_of x items) (looks x known.0) (not_not _ (or_left (not (is_given x rows)) _ e)))
    (required_given rows items xs rest known.1 looks (or_right (not (is_given x rows)) _ e))

no_check : (b : Bool) → check_kinds false false b ≡ [] → b ≡ false
no_check true e = cc
no_check false e = refl

pub read_where_no_fault : (row : Row) (words : List Word) → IsServed row → Only (rules_of_row row) (row.required ++ row.optional) (takes_names row.files) → are_clean words ≡ true
    → fault_of (app_with row) words ≡ [] → (items : List Item) × IsRead row words items
read_where_no_fault row words served only clean none =
    let rules = rules_of_row row in
    let s = shape_with row.name rules in
    let level : level_fault s [] nothing_held words false [] ≡ [] =
    sym (leaf_fault (record { top = s; subs = [] }) nothing_held words refl) ∙ (sym (faults_as (app_with row) _ words served.built_is served.no_name) ∙ none) in
    let end = (walk rules [] nothing_held words).held in
    let p = none_both (walk_fault s [] (at nothing_held idle false) words) (or_else [] (or_else (settle_fault rules false end) (or_else (defaults_fault (settled rules end).rows rules) (check_fault s (finished rules end) false)))) level in
    let q = none_both (settle_fault rules false end) (or_else (defaults_fault (settled rules end).rows rules) (check_fault s (finished rules end) false)) p.1 in
    let c = none_both (defaults_fault (settled rules end).rows rules) (check_fault s (finished rules end) false) q.1 in
    let found = back row.name rules (row.required ++ row.optional) (takes_names row.files) only words clean (row.required ++ row.optional) nothing_held idle [] is_idle refl (λ y among e. among)
    (record { none = p.0; last = q.0 }) in
    let by = read_by_clap row words found.0 served found.1 in
    let asked : list_any (wants (finished rules end)) rules ≡ false = no_check _ c.1 in (
      found.0,
      record {
        reads = found.1;
        required = required_given (rows_from [] found.0) found.0 row.required _ served.known by.looks (subst (λ (r : List Found). list_any (wants r) rules ≡ false) by.done asked);
      },
    )

-- where no row has a default, defaults have no fault
defaults_clear : (rules : List Rule) (rows : List Found) → AllByRecursion (λ a. a.defaults ≡ []) rules → defaults_fault rows rules ≡ []
unfolding defaults_fault
defaults_clear [] rows all = refl
defaults_clear (a ∷ rest) rows all = rw here (defaults_clear rest (with_default rows a) all.1)
  where
    by : (b : Bool) (k : Kinds) → cond (b || true) [] k ≡ []
    by true k = refl
    by false k = refl

    here : default_fault rows a ≡ []
    here = rw all.0 (by (has_row a.id rows) _)

none_wanted : (rows : List Found) (rules : List Rule) → list_all (Asked rows) rules ≡ true → list_any (wants rows) rules ≡ false
none_wanted rows [] e = refl
none_wanted rows (a ∷ rest) e = or_both (wants rows a) _ (by a.required (is_given a.id rows) (and_left (Asked rows a) _ e)) (none_wanted rows rest (and_right (Asked rows a) _ e)) where
  by : (b c : Bool) → (not b || c) ≡ true → (b && not c) ≡ false
  by true true e = refl
  by true false e = cc
  by false c e = refl

four_clear : (a b c d : Kinds) → a ≡ [] → b ≡ [] → c ≡ [] → d ≡ [] → or_else a (or_else [] (or_else b (or_else c d))) ≡ []
four_clear a b c d p q r s = rw (p, q, r, s) refl

pub no_fault_where_given : (row : Row) (words : List Word) (items : List Item) → IsServed row → IsGiven row words items → fault_of (app_with row) words ≡ []
no_fault_where_given row words items served given =
    let rules = rules_of_row row in
    let s = shape_with row.name rules in
    let by = read_by_clap row words items served given.reads in
    let rows = rows_from [] items in
    let end = (walk rules [] nothing_held words).held in
    let explicit = explicit_all items [] refl in
    let asked : list_all (Asked rows) rules ≡ true =
    asked_both rows (map (λ x. option_rule x true) row.required) _ (asked_required rows items row.required served.known by.looks explicit given.required)
    (asked_both rows (map (λ x. option_rule x false) row.optional) (file_rules row.files) (asked_optional rows row.optional) (asked_files rows row.files (names_of items) explicit by.names_from given.enough)) in
    let wanted : list_any (wants (finished rules end)) rules ≡ false = subst (λ (r : List Found). list_any (wants r) rules ≡ false) (sym by.done) (none_wanted rows rules asked) in
    let check : check_fault s (finished rules end) false ≡ [] = ap (check_kinds false false) wanted in
    faults_as (app_with row) _ words served.built_is served.no_name ∙ (leaf_fault (record { top = s; subs = [] }) nothing_held words refl
    ∙ four_clear (walk_fault s [] (at nothing_held idle false) words) (settle_fault rules false end) (defaults_fault (settled rules end).rows rules) (check_fault s (finished rules end) false)
    by.goes.no_fault by.goes.clear (defaults_clear rules _ served.defaults) check)
