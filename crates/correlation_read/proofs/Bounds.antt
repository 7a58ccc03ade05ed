-- A correlation that is bound has rules and fields that are there.
use Rattle.std.proofs.Common.{ℕ, ◌≡◌, ◌<◌, ◌≤◌, Bool, true, false, not, ◌&&◌, ◌||◌, List, [], ◌∷◌, length, map, refl, sym, ap, ◌∙◌, subst, arith}
use Rattle.std.specs.Prelude.{Option, Some, None, option_map, find, unwrap_or}
use Rattle.std.specs.List.{AllZip, list_any, list_all}
use Rattle.std.specs.Str.{bytes_eq}
use Rattle.std.proofs.lemmas.Bool.{and_parts}
use Rattle.std.proofs.lemmas.List.{length-map}
use Rattle.std.proofs.lemmas.Slice.Eq.{bytes_eq-Decides}
use Rattle.sig_base.specs.Judged.{must}
use Rattle.sig_base.proofs.Checks.{first_holds, must_holds}
use Rattle.event_schema.specs.Lists.{EachOf}
use Rattle.event_schema.specs.Rows.{field_number}
use Rattle.event_schema.specs.declared.schema.Field.{Field}
use Rattle.schema_index.specs.Numbers.{number_of}
use Rattle.correlation_windows.specs.declared.bound.Bound.{Bound}
use Rattle.correlation_read.specs.declared.correlation.Alias.{Alias}
use Rattle.correlation_read.specs.declared.correlation.AliasField.{AliasField}
use Rattle.correlation_read.specs.Correlations.{PlainCorrelation, IsSpan}
use Rattle.correlation_read.specs.Binding.{Names, is_meant, is_field, is_among, names_of, is_rule, fits, is_bindable, is_known, is_counted, groups_refusal, given_field, alias_field, is_named, stands_for, group_field, group_of, groups_of, IsNumbered, IsBound, IsBelowIfAny, IsWithin}
use Rattle.correlation_read.proofs.Entered.{any_viewed}
use Rattle.correlation_read.proofs.Positions.{some_in, below, found_none, found_passes, found_all, any_found, each_behind}

-- ---- fields

field_below : (fields : List Field) (name : List ℕ) → is_field fields name ≡ true → number_of fields name < length fields
field_below fields name h =
    let found = some_in (field_number fields name) h in
    let less : found.0 < length fields = below (λ (f : Field). bytes_eq f.name name) fields found.0 found.1 in
    subst (λ (o : Option ℕ). unwrap_or o (length fields) < length fields) (sym found.1) less

or_second : (a b : Bool) → (a || b) ≡ true → a ≡ false → b ≡ true
or_second true b h e = absurd cc
or_second false b h e = h

not_first : (a b : Bool) → (not a || b) ≡ true → a ≡ true → b ≡ true
not_first true b h e = h
not_first false b h e = absurd cc

same_text : (text : List ℕ) → bytes_eq text text ≡ true
same_text text = (bytes_eq-Decides text text).1 refl

-- what an alias that fits gives for one of the rules
abbrev Gives : List Field → List (List ℕ) → List ℕ → Type 0
Gives fields rules rule = (a : Alias) → fits fields rules a ≡ true → list_any (is_rule rule) a.fields ≡ true

given_below : (fields : List Field) (rules : List (List ℕ)) (rule : List ℕ) (a : Alias) → Gives fields rules rule → fits fields rules a ≡ true
    → number_of fields (alias_field rule a) < length fields
given_below fields rules rule a gives h =
    let entry = any_found (is_rule rule) a.fields (gives a h) in
    let all = and_parts (list_all (λ (r : List ℕ). list_any (is_rule r) a.fields) rules) (list_all (λ (f : AliasField). is_field fields f.field) a.fields) h in
    let there : is_field fields entry.0.field ≡ true = found_all (is_rule rule) (λ (f : AliasField). is_field fields f.field) a.fields entry.0 entry.1 all.1 in
    subst (λ (o : Option AliasField). number_of fields (given_field a.name o) < length fields) (sym entry.1) (field_below fields entry.0.field there)

module _ (fields : List Field) (rules group_by : List (List ℕ)) (aliases : List Alias) (bindable : list_all (is_bindable fields rules group_by) aliases ≡ true) where
  name_below : (rule name : List ℕ) → Gives fields rules rule → is_known fields (names_of aliases) name ≡ true → is_among group_by name ≡ true
      → number_of fields (group_field aliases rule name) < length fields
  name_below rule name gives known among = by (find (is_named name) aliases) refl where
    by : (o : Option Alias) → find (is_named name) aliases ≡ o → number_of fields (stands_for rule name (find (is_named name) aliases)) < length fields
    by None e =
        let none : is_among (names_of aliases) name ≡ false =
        any_viewed (λ (a : Alias). a.name) (λ (other : List ℕ). bytes_eq other name) aliases ∙ found_none (is_named name) aliases e in
        subst (λ (o : Option Alias). number_of fields (stands_for rule name o) < length fields) (sym e)
        (field_below fields name (or_second (is_among (names_of aliases) name) (is_field fields name) known none))
    by (Some a) e =
        let named : a.name ≡ name = (bytes_eq-Decides a.name name).0 (found_passes (is_named name) aliases a e) in
        let one : is_bindable fields rules group_by a ≡ true = found_all (is_named name) (is_bindable fields rules group_by) aliases a e bindable in
        let fit : fits fields rules a ≡ true = not_first (is_among group_by a.name) (fits fields rules a) one (ap (is_among group_by) named ∙ among) in
        subst (λ (o : Option Alias). number_of fields (stands_for rule name o) < length fields) (sym e) (given_below fields rules rule a gives fit)

  row_below : (rule : List ℕ) → Gives fields rules rule → (names : List (List ℕ)) → list_all (is_known fields (names_of aliases)) names ≡ true
      → EachOf (λ name. is_among group_by name ≡ true) names → EachOf (λ number. number < length fields) (group_of fields aliases names rule)
  row_below rule gives [] known among = tt
  row_below rule gives (name ∷ names) known among =
      let p = and_parts (is_known fields (names_of aliases) name) (list_all (is_known fields (names_of aliases)) names) known in
      (name_below rule name gives p.0 among.0, row_below rule gives names p.1 among.1)

  rows_below : list_all (is_known fields (names_of aliases)) group_by ≡ true → EachOf (λ name. is_among group_by name ≡ true) group_by
      → (left : List (List ℕ)) → EachOf (Gives fields rules) left → EachOf (EachOf (λ number. number < length fields)) (map (group_of fields aliases group_by) left)
  rows_below known among [] gives = tt
  rows_below known among (rule ∷ left) gives = (row_below rule gives.0 group_by known among, rows_below known among left gives.1)

-- each of the rules is given
each_gives : (fields : List Field) (rules left : List (List ℕ)) → ((a : Alias) → fits fields rules a ≡ true → list_all (λ (r : List ℕ). list_any (is_rule r) a.fields) left ≡ true)
    → EachOf (Gives fields rules) left
each_gives fields rules [] all = tt
each_gives fields rules (rule ∷ left) all = (
  λ a h. (and_parts (list_any (is_rule rule) a.fields) (list_all (λ (r : List ℕ). list_any (is_rule r) a.fields) left) (all a h)).0,
  each_gives fields rules left (λ a h. (and_parts (list_any (is_rule rule) a.fields) (list_all (λ (r : List ℕ). list_any (is_rule r) a.fields) left) (all a h)).1),
)

counted_below : (fields : List Field) (counted : Option (List ℕ)) → is_counted fields counted ≡ true → IsBelowIfAny (length fields) (option_map (number_of fields) counted)
counted_below fields None h = tt
counted_below fields (Some name) h = field_below fields name h

-- ---- rules

rules_below : (names : List Names) (texts : List (List ℕ)) (numbers : List ℕ) → AllZip (IsNumbered names) texts numbers → EachOf (λ number. number < length names) numbers
rules_below names [] [] all = tt
rules_below names [] (n ∷ numbers) all = absurd all
rules_below names (text ∷ texts) [] all = absurd all
rules_below names (text ∷ texts) (n ∷ numbers) all = (below (is_meant text) names n all.0, rules_below names texts numbers all.1)

as_many : (names : List Names) (texts : List (List ℕ)) (numbers : List ℕ) → AllZip (IsNumbered names) texts numbers → length texts ≡ length numbers
as_many names [] [] all = refl
as_many names [] (n ∷ numbers) all = absurd all
as_many names (text ∷ texts) [] all = absurd all
as_many names (text ∷ texts) (n ∷ numbers) all = let rest = as_many names texts numbers all.1 in omega (arith, rest)

-- rules and fields are there where no group is refused
pub all_there : (names : List Names) (fields : List Field) (c : PlainCorrelation) (b : Bound) → groups_refusal fields c ≡ None
    → AllZip (IsNumbered names) c.rules b.rules → b.groups ≡ groups_of fields c → b.counted ≡ option_map (number_of fields) c.counted → IsWithin (length names) (length fields) b
all_there names fields c b none numbered grouped counted =
    let bindable_line = must 143 c.place (list_all (is_bindable fields c.rules c.group_by) c.aliases) in
    let known_line = must 144 c.place (list_all (is_known fields (names_of c.aliases)) c.group_by && is_counted fields c.counted) in
    let both = first_holds bindable_line (known_line ∷ []) none in
    let bindable : list_all (is_bindable fields c.rules c.group_by) c.aliases ≡ true =
    must_holds 143 c.place (list_all (is_bindable fields c.rules c.group_by) c.aliases) both.0 in
    let known = and_parts (list_all (is_known fields (names_of c.aliases)) c.group_by) (is_counted fields c.counted)
    (must_holds 144 c.place (list_all (is_known fields (names_of c.aliases)) c.group_by && is_counted fields c.counted) (first_holds known_line [] both.1).0) in
    let gives = each_gives fields c.rules c.rules
    (λ a h. (and_parts (list_all (λ (r : List ℕ). list_any (is_rule r) a.fields) c.rules) (list_all (λ (f : AliasField). is_field fields f.field) a.fields) h).0) in
    record {
      rules_there = rules_below names c.rules b.rules numbered;
      fields_there =
          subst (λ (gs : List (List ℕ)). EachOf (EachOf (λ number. number < length fields)) gs) (sym grouped)
          (rows_below fields c.rules c.group_by c.aliases bindable known.0 (each_behind (λ (x : List ℕ) (y : List ℕ). bytes_eq y x) same_text c.group_by [] c.group_by refl) c.rules gives);
      counted_there = subst (λ (o : Option ℕ). IsBelowIfAny (length fields) o) (sym counted) (counted_below fields c.counted known.1);
      each = ap length grouped ∙ (length-map c.rules (group_of fields c.aliases c.group_by) ∙ as_many names c.rules b.rules numbered);
    }

-- the same of what a function binds with texts and fields of its own
pub all_within : (names : List Names) (count : ℕ) (fields of_schema : List Field) (c : PlainCorrelation) (texts : List (List ℕ)) (b : Bound)
    → length names ≡ count → fields ≡ of_schema → texts ≡ c.rules → groups_refusal fields c ≡ None → AllZip (IsNumbered names) texts b.rules
    → b.groups ≡ groups_of fields c → b.counted ≡ option_map (number_of fields) c.counted → IsWithin count (length of_schema) b
all_within names count fields of_schema c texts b long same named none numbered grouped counted =
    subst (λ (n : ℕ). IsWithin n (length of_schema) b) long (subst (λ (fs : List Field). IsWithin (length names) (length fs) b) same
    (all_there names fields c b none (subst (λ (ts : List (List ℕ)). AllZip (IsNumbered names) ts b.rules) named numbered) grouped counted))

-- ---- limits

-- what is bound has as many rules as the correlation, and its timespan
pub few : (names : List Names) (fields : List Field) (c : PlainCorrelation) (b : Bound) → length c.rules ≤ 64 → IsSpan c.span → IsBound names fields c b
    → (length b.rules ≤ 64) × IsSpan b.span
few names fields c b most span bound =
    let many = as_many names c.rules b.rules bound.rules in
    (omega (arith, most, many), subst IsSpan (sym bound.span) span)
