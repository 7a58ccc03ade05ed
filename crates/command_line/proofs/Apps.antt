-- The clap command of a row of the table.
use Rattle.std.proofs.Common.{◌≡◌, Bool, true, false, List, [], ◌∷◌, ◌++◌, map, refl, subst}
use Rattle.std.specs.List.{list_all, AllByRecursion}
use Rattle.std.specs.Str.{bytes_eq}
use Rattle.std.proofs.lemmas.Slice.Eq.{bytes_eq-Decides}
use Rattle.clap.specs.Walk.{Rule}
use Rattle.clap.specs.Takes.{default_passes}
use Rattle.clap.specs.Simple.{built, is_simple}
use Rattle.command_line.specs.Given.{Word, is_among}
use Rattle.command_line.specs.declared.command_name.Count.{Count}
use Rattle.command_line.specs.declared.command_name.Count.TheVariants.{NoName}
use Rattle.command_line.specs.Table.{Row, takes_names, backend, schema, pipeline, seed, events, check, convert, run, query, correlate, generate}
use Rattle.command_line.proofs.Shapes.{file_id, option_rule, file_rule, shape_with, IsName, IsOption, HasFiles, Serves}
use Rattle.command_line.specs.Apps.{app_with}

-- as the code adds them
abbrev pub file_rules : Count → List Rule
file_rules NoName = []
file_rules _ = file_rule ∷ []

abbrev pub rules_of_row : Row → List Rule
rules_of_row row = map (λ x. option_rule x true) row.required ++ (map (λ x. option_rule x false) row.optional ++ file_rules row.files)

-- what computes at each row
pub record IsServed (row : Row) : Type 0 where
  pub simple : is_simple (app_with row) ≡ true
  pub built_is : built (app_with row) ≡ record { top = shape_with row.name (rules_of_row row); subs = [] }
  pub no_name : (app_with row).top.no_binary_name ≡ true
  pub serves : Serves (rules_of_row row) (row.required ++ row.optional) (takes_names row.files)
  pub free : list_all (λ a. a.is_free) (rules_of_row row) ≡ true
  pub defaults : AllByRecursion (λ a. a.defaults ≡ []) (rules_of_row row)
  pub pass : list_all default_passes (rules_of_row row) ≡ true
  pub known : AllByRecursion (λ x. bytes_eq file_id x ≡ false) row.required

each_known : (P : Word → Type 0) (options : List Word) → AllByRecursion P options → (x : Word) → is_among x options ≡ true → P x
each_known P [] all x e = cc
each_known P (y ∷ ys) all x e = by (bytes_eq y x) refl (each_known P ys all.1 x) where
  by : (b : Bool) → bytes_eq y x ≡ b → (is_among x ys ≡ true → P x) → P x
  by true same below = subst P ((bytes_eq-Decides y x).0 same) all.0
  by false same below = let h : is_among x ys ≡ true = rw same at e in below h

serves_by : (rules : List Rule) (options : List Word) (takes : Bool) → AllByRecursion (IsOption rules) options → (takes ≡ true → HasFiles rules) → Serves rules options takes
serves_by rules options takes all files = record { option = each_known (IsOption rules) options all; files = files }

backend_name : IsName backend
backend_name = record { alone = refl; both = λ v. refl; no_end = refl; no_end_both = λ v. refl; same = refl; other = refl; other_way = refl }

schema_name : IsName schema
schema_name = record { alone = refl; both = λ v. refl; no_end = refl; no_end_both = λ v. refl; same = refl; other = refl; other_way = refl }

pipeline_name : IsName pipeline
pipeline_name = record { alone = refl; both = λ v. refl; no_end = refl; no_end_both = λ v. refl; same = refl; other = refl; other_way = refl }

seed_name : IsName seed
seed_name = record { alone = refl; both = λ v. refl; no_end = refl; no_end_both = λ v. refl; same = refl; other = refl; other_way = refl }

events_name : IsName events
events_name = record { alone = refl; both = λ v. refl; no_end = refl; no_end_both = λ v. refl; same = refl; other = refl; other_way = refl }

not_taken : false ≡ true → ⊥
not_taken e = cc

pub check_served : IsServed check
check_served = record {
  simple = refl;
  built_is = refl;
  no_name = refl;
  serves = serves_by (rules_of_row check) ([]) true tt (λ e. record { by_index = refl; by_id = refl });
  free = refl;
  defaults = (refl, tt);
  pass = refl;
  known = tt;
}

pub convert_served : IsServed convert
convert_served = record {
  simple = refl;
  built_is = refl;
  no_name = refl;
  serves = serves_by (rules_of_row convert) (backend ∷ schema ∷ pipeline ∷ []) true (
    record { required = true; by_long = refl; by_id = refl; name = backend_name },
    (
      record { required = false; by_long = refl; by_id = refl; name = schema_name },
      (record { required = false; by_long = refl; by_id = refl; name = pipeline_name }, tt),
    ),
  )
      (λ e. record { by_index = refl; by_id = refl });
  free = refl;
  defaults = (refl, (refl, (refl, (refl, tt))));
  pass = refl;
  known = (refl, tt);
}

pub run_served : IsServed run
run_served = record {
  simple = refl;
  built_is = refl;
  no_name = refl;
  serves = serves_by (rules_of_row run) (schema ∷ pipeline ∷ []) true
      (record { required = false; by_long = refl; by_id = refl; name = schema_name }, (record { required = false; by_long = refl; by_id = refl; name = pipeline_name }, tt))
      (λ e. record { by_index = refl; by_id = refl });
  free = refl;
  defaults = (refl, (refl, (refl, tt)));
  pass = refl;
  known = tt;
}

pub query_served : IsServed query
query_served = record {
  simple = refl;
  built_is = refl;
  no_name = refl;
  serves = serves_by (rules_of_row query) (backend ∷ schema ∷ []) true
      (record { required = true; by_long = refl; by_id = refl; name = backend_name }, (record { required = true; by_long = refl; by_id = refl; name = schema_name }, tt))
      (λ e. record { by_index = refl; by_id = refl });
  free = refl;
  defaults = (refl, (refl, (refl, tt)));
  pass = refl;
  known = (refl, (refl, tt));
}

pub correlate_served : IsServed correlate
correlate_served = record {
  simple = refl;
  built_is = refl;
  no_name = refl;
  serves = serves_by (rules_of_row correlate) (schema ∷ pipeline ∷ []) true
      (record { required = true; by_long = refl; by_id = refl; name = schema_name }, (record { required = false; by_long = refl; by_id = refl; name = pipeline_name }, tt))
      (λ e. record { by_index = refl; by_id = refl });
  free = refl;
  defaults = (refl, (refl, (refl, tt)));
  pass = refl;
  known = (refl, tt);
}

pub generate_served : IsServed generate
generate_served = record {
  simple = refl;
  built_is = refl;
  no_name = refl;
  serves = serves_by (rules_of_row generate) (seed ∷ events ∷ []) false
      (record { required = true; by_long = refl; by_id = refl; name = seed_name }, (record { required = true; by_long = refl; by_id = refl; name = events_name }, tt))
      (λ e. absurd (not_taken e));
  free = refl;
  defaults = (refl, (refl, tt));
  pass = refl;
  known = (refl, (refl, tt));
}
