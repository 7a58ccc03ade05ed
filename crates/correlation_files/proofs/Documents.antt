-- What one document is read as.
use Rattle.std.proofs.Common.{◌≡◌, ℕ, Bool, true, false, List, [], refl, ap, sym, subst, append-nil, Some, None, Result, Ok, Err}
use Rattle.correlation_read.specs.Checks.{correlation_refusal}
use Rattle.correlation_read.specs.Correlations.{correlation_view, correlation_with}
use Rattle.event_schema.specs.declared.schema.Schema.{Schema}
use Rattle.pipeline_run.specs.Chained.{run_pipelines, Makes}
use Rattle.pipeline_model.specs.declared.pipeline.Pipeline.{Pipeline}
use Rattle.rule_regex.proofs.BuiltRows.{built_at}
use Rattle.rule_regex.proofs.Documents.{found_items, found_only, found_none, no_items}
use Rattle.rule_regex.proofs.Lists.{zip_map}
use Rattle.rule_regex.specs.Building.{FoundUnbuilt}
use Rattle.rule_regex.specs.ForUnbuilt.{ForUnbuilt, ForItems, is_answered}
use Rattle.rule_regex.specs.Unbuilt.{Unbuilt, none_unbuilt, of_values, unbuilt_refusal, IsOneOf, IsOfItem}
use Rattle.rule_head.specs.Heads.{rest_of}
use Rattle.rule_model.specs.Expressions.{document_expressions, rule_expressions}
use Rattle.rule_model.specs.Plain.{PlainRule, rule_with}
use Rattle.rule_model.specs.Rules.{lone_refusal, IsLoneRule, IsRule}
use Rattle.rule_schema.specs.Inferred.{unfit_refusal}
use Rattle.sig_base.specs.Judged.{Judged, refusal as refused}
use Rattle.sig_base.specs.declared.limits.Limits.{Limits}
use Rattle.sig_base.specs.declared.refusal.Fault.{Fault}
use Rattle.sig_base.specs.declared.refusal.Fault.TheVariants as faults
use Rattle.sig_base.specs.declared.refusal.Place.{Place}
use Rattle.sig_base.specs.declared.refusal.Refusal.{Refusal}
use Rattle.yaml_tree.specs.Tree.{Tree, Member, tree, refusal}
use Rattle.yaml_tree.specs.View.{place_view}
use Rattle.correlation_files.specs.Accepted.{IsReadyRule, IsStopped, IsUnmade, IsChained, makes_none, makes_one, doesnt_fit, does_fit, IsReadCorrelation, IsAccepted, Gives}
use Rattle.correlation_files.specs.Checked.{check_refusal}
use Rattle.correlation_files.specs.Outcomes.{Runs, Correlates, is_correlation, no_rule, not_made, unfit, not_built, IsTreeOutcome, IsOutcome}
use Rattle.correlation_files.specs.Read.{ForDocument}
use Rattle.correlation_files.specs.declared.accepted.Accepted.{Accepted}
use Rattle.correlation_files.specs.declared.accepted.Accepted.TheVariants as accepted

-- what pipelines make of a rule, with the other entries of its head
abbrev MadeWith : Limits → List Pipeline → Type 0
MadeWith limits ps = (rest : List Member) (rule made : PlainRule) → Makes limits ps rule made → Makes limits ps (rule_with rest rule) (rule_with rest made)

abbrev RefusedWith : Limits → List Pipeline → Type 0
RefusedWith limits ps = (rest : List Member) (rule : PlainRule) (r : Refusal) → run_pipelines limits ps rule ≡ Err r → run_pipelines limits ps (rule_with rest rule) ≡ Err r

module _ (limits : Limits) (ps : List Pipeline) (schema : Schema) (t : Tree) where
  -- ---- rules

  abbrev Said : Bool → Result Accepted Fault → Unbuilt → Type 0
  Said correlates r places = Gives (IsTreeOutcome correlates limits ps schema places t) schema r

  accepted_with : (rest : List Member) (made : PlainRule) (a : Accepted) → IsReadyRule schema made a → IsAccepted schema (Runs (rule_with rest made)) a
  accepted_with rest made (accepted.Rule r) is = ((rest, ap (λ (p : PlainRule). rule_with rest p) is.same), record { is = is.ready.is }, is.names)
  accepted_with rest made (accepted.Correlation x) is = absurd is

  module _ (rest : List Member) (rule : PlainRule) (unbuilt : Unbuilt) (lone : IsLoneRule unbuilt.values limits t (rule_with rest rule)) where
    unmade_says : (r : Result Accepted Fault) → RefusedWith limits ps → IsUnmade (run_pipelines limits ps rule) r → Said false r unbuilt
    unmade_says (Ok a) with_rest none = absurd none
    unmade_says (Err faults.Memory) with_rest none = tt
    unmade_says (Err (faults.Refused x)) with_rest none = not_made (rule_with rest rule) lone (with_rest rest rule x none)

    module _ (made : PlainRule) (makes : Makes limits ps (rule_with rest rule) (rule_with rest made)) where
      unfit_says : (r : Result Accepted Fault) → IsStopped (unfit_refusal (Some schema) made) r → Said false r unbuilt
      unfit_says (Ok a) stopped = absurd stopped
      unfit_says (Err faults.Memory) stopped = tt
      unfit_says (Err (faults.Refused x)) stopped = unfit (rule_with rest rule) (rule_with rest made) lone makes stopped

      built_says : (r : Result Accepted Fault) → unfit_refusal (Some schema) made ≡ None → Judged (IsReadyRule schema made) (unbuilt_refusal unbuilt.items (rule_expressions made)) r
          → Said false r unbuilt
      built_says (Ok a) fits judged =
          (Runs (rule_with rest made), record { rule = rule_with rest rule; lone = lone; makes = makes; fits = fits; built = judged.0 }, accepted_with rest made a judged.1)
      built_says (Err faults.Memory) fits judged = tt
      built_says (Err (faults.Refused x)) fits judged = not_built (rule_with rest rule) (rule_with rest made) lone makes fits judged

  abbrev ForSaid : Bool → List Place → List (List ℕ) → List (List ℕ) → Result Accepted Fault → Type 0
  ForSaid correlates values before after r = ForItems (Makes limits ps) t values before after (Said correlates r)

  -- a rule was read, and the one that pipelines make of it is made ready
  pub rule_read : (rest : List Member) (rule : PlainRule) (values : List Place) (before after : List (List ℕ)) (r : Result Accepted Fault) → MadeWith limits ps → RefusedWith limits ps
      → (lone_refusal values limits t ≡ None) × IsRule t (rule_with rest rule) → IsChained limits ps schema rule before after r → ForSaid false values before after r
  rule_read rest rule values before after r made_with refused_with is (makes_none none same) =
      subst (λ (texts : List (List ℕ)). ForSaid false values before texts r) (sym same)
      (no_items (Makes limits ps) limits t values before (Said false r)
      (λ earlier. unmade_says rest rule (of_values values earlier) (record { taken = is.0; is = is.1 }) r refused_with none))
  rule_read rest rule values before after r made_with refused_with is (makes_one made so (doesnt_fit stopped same)) =
      subst (λ (texts : List (List ℕ)). ForSaid false values before texts r) (sym same)
      (no_items (Makes limits ps) limits t values before (Said false r)
      (λ earlier. unfit_says rest rule (of_values values earlier) (record { taken = is.0; is = is.1 }) made (made_with rest rule made so) r stopped))
  rule_read rest rule values before after r made_with refused_with is (makes_one made so (does_fit none built)) =
      let at = built_at (IsReadyRule schema made) (rule_expressions made) before after r built in
      record {
        items = at.items;
        refused = at.refused;
        follows = at.follows;
        are = zip_map (λ text place. IsOneOf (rule_expressions made) (record { place = place; text = text })) (λ text place. IsOfItem (Makes limits ps) t (record { place = place; text = text }))
            (λ text place one. (rule_with rest rule, is.1, rule_with rest made, made_with rest rule made so, one)) at.refused at.items at.places;
        says = λ earlier. built_says rest rule (record { values = values; refused_values = earlier; items = at.items; refused_items = at.refused })
            (record { taken = is.0; is = is.1 }) made (made_with rest rule made so) r none at.judged;
      }

  unread_says : {X : Type 0} (unbuilt : Unbuilt) (P : X → Type 0) (fault : Fault) → Judged P (lone_refusal unbuilt.values limits t) (Err fault) → Said false (Err fault) unbuilt
  unread_says unbuilt P faults.Memory judged = tt
  unread_says unbuilt P (faults.Refused x) judged = no_rule judged

  -- no rule was read
  pub rule_unread : {X : Type 0} (values : List Place) (texts : List (List ℕ)) (P : X → Type 0) (fault : Fault) → Judged P (lone_refusal values limits t) (Err fault)
      → ForSaid false values texts texts (Err fault)
  rule_unread values texts P fault judged =
      no_items (Makes limits ps) limits t values texts (Said false (Err fault)) (λ earlier. unread_says (of_values values earlier) P fault judged)

  -- ---- correlations

  correlation_says : (unbuilt : Unbuilt) (r : Result Accepted Fault) → Judged (IsReadCorrelation t) (correlation_refusal t) r → Said true r unbuilt
  correlation_says unbuilt (Ok (accepted.Rule r)) judged = absurd judged.1
  correlation_says unbuilt (Ok (accepted.Correlation x)) judged =
      (Correlates (correlation_with (rest_of t) (correlation_view x)), record { taken = judged.0; is = judged.1.0 }, ((rest_of t, refl), judged.1.1))
  correlation_says unbuilt (Err faults.Memory) judged = tt
  correlation_says unbuilt (Err (faults.Refused x)) judged = judged

  -- ---- by the key

  module _ (values : List Place) (before after : List (List ℕ)) (r : Result Accepted Fault) where
    pub by_rule : is_correlation t ≡ false → ForSaid false values before after r → ForSaid (is_correlation t) values before after r
    by_rule is read = subst (λ (b : Bool). ForSaid b values before after r) (sym is) read

    pub by_correlation : is_correlation t ≡ true → after ≡ before → Judged (IsReadCorrelation t) (correlation_refusal t) r → ForSaid (is_correlation t) values before after r
    by_correlation is same judged =
        subst (λ (texts : List (List ℕ)). ForSaid (is_correlation t) values before texts r) (sym same)
        (subst (λ (b : Bool). ForSaid b values before before r) (sym is)
        (no_items (Makes limits ps) limits t values before (Said true r) (λ earlier. correlation_says (of_values values earlier) r judged)))

  -- ---- a tree, of which the code reads the places of values as a slice

  abbrev ForTree : List (List ℕ) → List (List ℕ) → Result Accepted Fault → Type 0
  ForTree before after r = ForUnbuilt (Makes limits ps) limits t before after (is_answered r) (Said (is_correlation t) r)

  pub tree_read : (values slice : List Place) (before mid after : List (List ℕ)) (r : Result Accepted Fault) → slice ≡ values → FoundUnbuilt (document_expressions limits t) before mid (Ok values)
      → ForSaid (is_correlation t) slice mid after r → ForTree before after r
  tree_read values slice before mid after r same found read =
      found_items (Makes limits ps) limits t values before mid after (is_answered r) (Said (is_correlation t) r) found
      (subst (λ (places : List Place). ForSaid (is_correlation t) places mid after r) same read)

  pub tree_unread : (before after : List (List ℕ)) (fault : Fault) → FoundUnbuilt (document_expressions limits t) before after (Err fault) → ForTree before after (Err fault)
  tree_unread before after fault found =
      found_none (Makes limits ps) limits t {X = Accepted} before after (λ unbuilt r. Said (is_correlation t) r unbuilt) fault found (λ unbuilt. tt)

  pub tree_document : (before after : List (List ℕ)) (r : Result Accepted Fault) → ForTree before after r
      → ForDocument limits ps (tree t) before after (is_answered r) (λ places. Gives (IsOutcome limits ps schema (places, tree t)) schema r)
  tree_document before after r read = record { unbuilt = read.unbuilt; follows = read.follows; are = read.are; says = read.says }

-- YAML refuses the document
pub document_refused : (limits : Limits) (ps : List Pipeline) (schema : Schema) (code : ℕ) (place : Place) (texts : List (List ℕ)) (fault : Fault) → fault ≡ faults.Refused (refused code place)
    → ForDocument limits ps (refusal (code, place_view place)) texts texts (is_answered {X = Accepted} (Err fault))
    (λ places. Gives (IsOutcome limits ps schema (places, refusal (code, place_view place))) schema (Err fault))
document_refused limits ps schema code place texts fault is =
    subst (λ (f : Fault). ForDocument limits ps (refusal (code, place_view place)) texts texts (is_answered {X = Accepted} (Err f))
    (λ places. Gives (IsOutcome limits ps schema (places, refusal (code, place_view place))) schema (Err f))) (sym is)
    (record { unbuilt = none_unbuilt; follows = sym (append-nil texts); are = refl; says = refl })

-- a tree is checked, of which the code reads the places of values as a slice
module _ (limits : Limits) (t : Tree) (P : Place → Type 0) where
  abbrev Checked : Result Place Fault → Unbuilt → Type 0
  Checked r unbuilt = Judged P (check_refusal unbuilt.values limits t) r

  pub tree_checked : (values slice : List Place) (before after : List (List ℕ)) (r : Result Place Fault) → slice ≡ values → FoundUnbuilt (document_expressions limits t) before after (Ok values)
      → Judged P (check_refusal slice limits t) r → ForUnbuilt (Makes limits []) limits t before after (is_answered r) (Checked r)
  tree_checked values slice before after r same found judged =
      found_only (Makes limits []) limits t values before after (is_answered r) (Checked r) found
      (λ earlier. subst (λ (places : List Place). Judged P (check_refusal places limits t) r) same judged)

  pub tree_unchecked : (before after : List (List ℕ)) (fault : Fault) → FoundUnbuilt (document_expressions limits t) before after (Err fault)
      → ForUnbuilt (Makes limits []) limits t before after (is_answered {X = Place} (Err fault)) (Checked (Err fault))
  tree_unchecked before after fault found =
      found_none (Makes limits []) limits t {X = Place} before after (λ unbuilt r. Checked r unbuilt) fault found (λ unbuilt. tt)
