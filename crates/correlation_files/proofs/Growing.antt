-- What was found grows by the outcomes of documents.
use Rattle.std.proofs.Common.{◌≡◌, ℕ, List, [], ◌∷◌, ◌++◌, map, refl, ap, sym, ◌∙◌, subst, append_assoc, append-nil, Result, Ok, Err, OnOk}
use Rattle.std.proofs.lemmas.List.{map-append}
use Rattle.std.specs.List.{AllZip}
use Rattle.correlation_read.specs.Binding.{Names, names_of_head, names_of_plain}
use Rattle.correlation_read.specs.Correlations.{PlainCorrelation}
use Rattle.correlation_read.specs.declared.correlation.Correlation.{Correlation}
use Rattle.detection_eval.specs.Ready as ready
use Rattle.event_schema.specs.declared.schema.Schema.{Schema}
use Rattle.rule_regex.proofs.Lists.{zip_joined}
use Rattle.rule_model.specs.Plain.{PlainRule}
use Rattle.sig_base.specs.declared.refusal.Fault.{Fault}
use Rattle.sig_base.specs.declared.refusal.Refusal.{Refusal}
use Rattle.correlation_files.specs.Accepted.{IsAccepted, Keeps}
use Rattle.correlation_files.specs.Found.{Named, named, names_of_rules, IsBareOf, IsKept, StandsFor, Grows}
use Rattle.correlation_files.specs.Outcomes.{Outcome, Runs, Correlates, Refuses, rules_in, correlations_in, refusals_in}
use Rattle.correlation_files.specs.declared.accepted.Accepted.{Accepted}
use Rattle.correlation_files.specs.declared.accepted.Accepted.TheVariants as accepted
use Rattle.correlation_files.specs.declared.accepted.ReadyRule.{ReadyRule}
use Rattle.correlation_files.specs.declared.found.Found.{Found}
use Rattle.correlation_files.specs.declared.found.Sourced.{Sourced}

-- ---- outcomes that follow one another

rules_joined : (xs ys : List Outcome) → rules_in (xs ++ ys) ≡ rules_in xs ++ rules_in ys
rules_joined [] ys = refl
rules_joined (Runs made ∷ xs) ys = ap (λ (l : List PlainRule). made ∷ l) (rules_joined xs ys)
rules_joined (Correlates c ∷ xs) ys = rules_joined xs ys
rules_joined (Refuses r ∷ xs) ys = rules_joined xs ys

correlations_joined : (xs ys : List Outcome) → correlations_in (xs ++ ys) ≡ correlations_in xs ++ correlations_in ys
correlations_joined [] ys = refl
correlations_joined (Runs made ∷ xs) ys = correlations_joined xs ys
correlations_joined (Correlates c ∷ xs) ys = ap (λ (l : List PlainCorrelation). c ∷ l) (correlations_joined xs ys)
correlations_joined (Refuses r ∷ xs) ys = correlations_joined xs ys

pub refusals_joined : (xs ys : List Outcome) → refusals_in (xs ++ ys) ≡ refusals_in xs ++ refusals_in ys
refusals_joined [] ys = refl
refusals_joined (Runs made ∷ xs) ys = refusals_joined xs ys
refusals_joined (Correlates c ∷ xs) ys = refusals_joined xs ys
refusals_joined (Refuses r ∷ xs) ys = ap (λ (l : List Refusal). r ∷ l) (refusals_joined xs ys)

module _ (schema : Schema) (file : List ℕ) where
  -- it grew twice
  pub grows_both : (xs ys : List Outcome) (a b c : Found) → Grows schema file xs a b → Grows schema file ys b c → Grows schema file (xs ++ ys) a c
  grows_both xs ys a b c first second = λ rules correlations old.
      let rules_so : (rules ++ rules_in xs) ++ rules_in ys ≡ rules ++ rules_in (xs ++ ys) =
      append_assoc rules (rules_in xs) (rules_in ys) ∙ ap (λ (l : List PlainRule). rules ++ l) (sym (rules_joined xs ys)) in
      let named_so : (correlations ++ named file (correlations_in xs)) ++ named file (correlations_in ys) ≡ correlations ++ named file (correlations_in (xs ++ ys)) =
      append_assoc correlations (named file (correlations_in xs)) (named file (correlations_in ys))
      ∙ ap (λ (l : List Named). correlations ++ l)
      (sym (ap (named file) (correlations_joined xs ys) ∙ map-append (λ (p : PlainCorrelation). (file, p)) (correlations_in xs) (correlations_in ys))) in
      subst (λ (l : List PlainRule). StandsFor schema l (correlations ++ named file (correlations_in (xs ++ ys))) c) rules_so
      (subst (λ (l : List Named). StandsFor schema ((rules ++ rules_in xs) ++ rules_in ys) l c) named_so
      (second (rules ++ rules_in xs) (correlations ++ named file (correlations_in xs)) (first rules correlations old)))

  -- by nothing
  pub grows_none : (a : Found) → Grows schema file [] a a
  grows_none a = λ rules correlations old.
      subst (λ (l : List PlainRule). StandsFor schema l (correlations ++ []) a) (sym (append-nil rules))
      (subst (λ (l : List Named). StandsFor schema rules l a) (sym (append-nil correlations)) old)

  -- what holds of the parts of what was found
  same_parts : (a b : Found) → b.rules.items ≡ a.rules.items → b.ready.items ≡ a.ready.items → b.heads.items ≡ a.heads.items → b.correlations.items ≡ a.correlations.items
      → (rules : List PlainRule) (correlations : List Named) → StandsFor schema rules correlations a → StandsFor schema rules correlations b
  same_parts a b rules_are ready_are heads_are correlations_are rules correlations is = record {
    bare = subst (AllZip IsBareOf rules) (sym rules_are) is.bare;
    ready = subst (AllZip (ready.StandsFor schema.fields) rules) (sym ready_are) is.ready;
    names = ap (map names_of_head) heads_are ∙ is.names;
    kept = subst (AllZip IsKept correlations) (sym correlations_are) is.kept;
  }

  pub grows_same : (a b : Found) → b.rules.items ≡ a.rules.items → b.ready.items ≡ a.ready.items → b.heads.items ≡ a.heads.items → b.correlations.items ≡ a.correlations.items
      → Grows schema file [] a b
  grows_same a b rules_are ready_are heads_are correlations_are = λ rules correlations old.
      same_parts a b rules_are ready_are heads_are correlations_are (rules ++ []) (correlations ++ []) (grows_none a rules correlations old)

  -- by a rule
  rule_grows : (r : ReadyRule) (a b : Found) → b.rules.items ≡ a.rules.items ++ r.rule ∷ [] → b.ready.items ≡ a.ready.items ++ r.ready ∷ []
      → b.heads.items ≡ a.heads.items ++ r.head ∷ [] → b.correlations.items ≡ a.correlations.items
      → (outcome : Outcome) → IsAccepted schema outcome (accepted.Rule r) → Grows schema file (outcome ∷ []) a b
  rule_grows r a b rules_are ready_are heads_are correlations_are (Correlates c) is = absurd is
  rule_grows r a b rules_are ready_are heads_are correlations_are (Refuses x) is = absurd is
  rule_grows r a b rules_are ready_are heads_are correlations_are (Runs made) (bare, stands, names) = λ rules correlations old. record {
    bare = subst (AllZip IsBareOf (rules ++ made ∷ [])) (sym rules_are) (zip_joined IsBareOf rules (made ∷ []) a.rules.items (r.rule ∷ []) old.bare (bare, tt));
    ready = subst (AllZip (ready.StandsFor schema.fields) (rules ++ made ∷ [])) (sym ready_are)
        (zip_joined (ready.StandsFor schema.fields) rules (made ∷ []) a.ready.items (r.ready ∷ []) old.ready (stands, tt));
    names = ap (map names_of_head) heads_are
        ∙ (map-append names_of_head a.heads.items (r.head ∷ [])
        ∙ (ap (λ (l : List Names). l ++ names_of_head r.head ∷ []) old.names
        ∙ (ap (λ (n : Names). names_of_rules rules ++ n ∷ []) names ∙ sym (map-append (λ (rule : PlainRule). names_of_plain rule.head) rules (made ∷ [])))));
    kept = subst (λ (l : List Named). AllZip IsKept l b.correlations.items) (sym (append-nil correlations))
        (subst (AllZip IsKept correlations) (sym correlations_are) old.kept);
  }

  -- by a correlation
  correlation_grows : (x : Correlation) (s : Sourced) (a b : Found) → s ≡ record { file = file; correlation = x } → b.rules.items ≡ a.rules.items → b.ready.items ≡ a.ready.items
      → b.heads.items ≡ a.heads.items → b.correlations.items ≡ a.correlations.items ++ s ∷ []
      → (outcome : Outcome) → IsAccepted schema outcome (accepted.Correlation x) → Grows schema file (outcome ∷ []) a b
  correlation_grows x s a b same rules_are ready_are heads_are correlations_are (Runs made) is = absurd is
  correlation_grows x s a b same rules_are ready_are heads_are correlations_are (Refuses r) is = absurd is
  correlation_grows x s a b same rules_are ready_are heads_are correlations_are (Correlates c) (bare, sound) = λ rules correlations old. record {
    bare = subst (λ (l : List PlainRule). AllZip IsBareOf l b.rules.items) (sym (append-nil rules)) (subst (AllZip IsBareOf rules) (sym rules_are) old.bare);
    ready = subst (λ (l : List PlainRule). AllZip (ready.StandsFor schema.fields) l b.ready.items) (sym (append-nil rules))
        (subst (AllZip (ready.StandsFor schema.fields) rules) (sym ready_are) old.ready);
    names = ap (map names_of_head) heads_are ∙ (old.names ∙ ap names_of_rules (sym (append-nil rules)));
    kept = subst (AllZip IsKept (correlations ++ (file, c) ∷ [])) (sym correlations_are)
        (zip_joined IsKept correlations ((file, c) ∷ []) a.correlations.items (s ∷ []) old.kept
        (subst (IsKept (file, c)) (sym same) (record { file = refl; bare = bare; few = sound.few; span = sound.span }), tt));
  }

-- ---- what is kept of a document

pub rule_kept : (file : List ℕ) (taken : Accepted) (r : ReadyRule) (a b : Found) (result : Result (Unit {0}) Fault) → taken ≡ accepted.Rule r
    → OnOk result (b.rules.items ≡ a.rules.items ++ r.rule ∷ []) → OnOk result (b.ready.items ≡ a.ready.items ++ r.ready ∷ [])
    → OnOk result (b.heads.items ≡ a.heads.items ++ r.head ∷ []) → OnOk result (b.correlations.items ≡ a.correlations.items) → OnOk result (Keeps file (Ok taken) a b)
rule_kept file taken r a b (Ok done) same rules_are ready_are heads_are correlations_are =
    subst (λ (x : Accepted). Keeps file (Ok x) a b) (sym same)
    (λ schema outcome is. rule_grows schema file r a b rules_are ready_are heads_are correlations_are outcome is)
rule_kept file taken r a b (Err e) same rules_are ready_are heads_are correlations_are = tt

pub correlation_kept : (file : List ℕ) (taken : Accepted) (x : Correlation) (a b : Found) (result : Result (Unit {0}) Fault) → taken ≡ accepted.Correlation x
    → OnOk result (b.rules.items ≡ a.rules.items) → OnOk result (b.ready.items ≡ a.ready.items) → OnOk result (b.heads.items ≡ a.heads.items)
    → OnOk result (b.correlations.items ≡ a.correlations.items ++ record { file = file; correlation = x } ∷ []) → OnOk result (Keeps file (Ok taken) a b)
correlation_kept file taken x a b (Ok done) same rules_are ready_are heads_are correlations_are =
    subst (λ (y : Accepted). Keeps file (Ok y) a b) (sym same)
    (λ schema outcome is. correlation_grows schema file x (record { file = file; correlation = x }) a b refl rules_are ready_are heads_are correlations_are outcome is)
correlation_kept file taken x a b (Err e) same rules_are ready_are heads_are correlations_are = tt

pub none_kept : (file : List ℕ) (taken : Result Accepted Fault) (e : Fault) (a : Found) (result : Result (Unit {0}) Fault) → taken ≡ Err e → OnOk result (Keeps file taken a a)
none_kept file taken e a (Ok done) same = subst (λ (t : Result Accepted Fault). Keeps file t a a) (sym same) (λ schema. grows_none schema file a)
none_kept file taken e a (Err f) same = tt
