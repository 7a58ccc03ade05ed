-- That each document, each file and each correlation has one outcome.
use Rattle.std.proofs.Common.{◌≡◌, ℕ, Bool, true, false, List, [], ◌∷◌, map, refl, ap, sym, ◌∙◌, subst, inl, inr, Option, Some, None, Result, Ok, Err}
use Rattle.std.specs.Prelude.{◌⊎◌}
use Rattle.std.specs.List.{AllZip}
use Rattle.correlation_read.specs.Binding.{Names, bind_refusal}
use Rattle.correlation_read.specs.Checks.{correlation_refusal}
use Rattle.correlation_read.specs.Correlations.{PlainCorrelation}
use Rattle.correlation_read.specs.Laws.{Reads, EachRead, OneRead, Binds, EachBound, NeverBound, OneBound}
use Rattle.correlation_windows.specs.declared.bound.Bound.{Bound}
use Rattle.event_schema.specs.Lists.{EachOf}
use Rattle.event_schema.specs.declared.schema.Field.{Field}
use Rattle.event_schema.specs.declared.schema.Schema.{Schema}
use Rattle.pipeline_run.specs.Chained.{run_pipelines, Makes}
use Rattle.pipeline_files.specs.Paired.{paired}
use Rattle.pipeline_model.specs.declared.pipeline.Pipeline.{Pipeline}
use Rattle.rule_regex.specs.Unbuilt.{Unbuilt, none_unbuilt, unbuilt_refusal}
use Rattle.rule_model.specs.Expressions.{rule_expressions}
use Rattle.rule_model.specs.Plain.{PlainRule}
use Rattle.rule_model.specs.Rules.{lone_refusal, IsLoneRule}
use Rattle.rule_run.specs.Files.{yaml_refusal}
use Rattle.rule_schema.specs.Inferred.{unfit_refusal}
use Rattle.sig_base.specs.declared.limits.Limits.{Limits}
use Rattle.sig_base.specs.declared.refusal.Place.{Place}
use Rattle.sig_base.specs.declared.refusal.Refusal.{Refusal}
use Rattle.yaml_documents.specs.Verdicts as yaml
use Rattle.yaml_documents.specs.Call.{IsCallRefusal, IsTaken}
use Rattle.yaml_tree.specs.Tree.{At, Tree, Answer, tree, refusal}
use Rattle.correlation_files.specs.Bindings.{Verdict, IsVerdict, AreJudged}
use Rattle.correlation_files.specs.Found.{Named}
use Rattle.correlation_files.specs.Laws.{EachDocument, OneDocument, EachFile, OneFile, EachJudged, OneJudged}
use Rattle.correlation_files.specs.Outcomes.{Outcome, Runs, Correlates, Refuses, is_correlation, IsRun, IsNotRun, no_rule, not_made, unfit, not_built, IsTreeOutcome, IsOutcome, AreOutcomes, as_one, by_document}

abbrev EachLone : Type 0
EachLone = (values : List Place) (limits : Limits) (t : Tree) → lone_refusal values limits t ≡ None → (rule : PlainRule) × IsLoneRule values limits t rule

abbrev OneLone : Type 0
OneLone = (u v : List Place) (limits : Limits) (t : Tree) (a b : PlainRule) → IsLoneRule u limits t a → IsLoneRule v limits t b → a ≡ b

some_is : (o : Option Refusal) (a b : Refusal) → o ≡ Some a → o ≡ Some b → a ≡ b
some_is o a b first second = cc

not_none : (o : Option Refusal) (r : Refusal) → o ≡ None → o ≡ Some r → ⊥
not_none o r none some = cc

abbrev made_ok : PlainRule → Result PlainRule Refusal
made_ok made = Ok made

abbrev made_err : Refusal → Result PlainRule Refusal
made_err r = Err r

made_is : (result : Result PlainRule Refusal) (a b : PlainRule) → result ≡ Ok a → result ≡ Ok b → a ≡ b
made_is result a b first second = by (sym first ∙ second)
  where
    by : made_ok a ≡ made_ok b → a ≡ b
    by same = cc

unmade_is : (result : Result PlainRule Refusal) (a b : Refusal) → result ≡ Err a → result ≡ Err b → a ≡ b
unmade_is result a b first second = by (sym first ∙ second)
  where
    by : made_err a ≡ made_err b → a ≡ b
    by same = cc

made_not_err : (result : Result PlainRule Refusal) (made : PlainRule) (r : Refusal) → result ≡ Ok made → result ≡ Err r → ⊥
made_not_err result made r first second = apart (sym first ∙ second)
  where
    apart : made_ok made ≡ made_err r → ⊥
    apart same = cc

-- ---- a rule that is run

module _ (one : OneLone) (limits : Limits) (ps : List Pipeline) (schema : Schema) (unbuilt : Unbuilt) (t : Tree) where
  abbrev IsLone : PlainRule → Type 0
  IsLone rule = IsLoneRule unbuilt.values limits t rule

  abbrev fit_line : PlainRule → Option Refusal
  fit_line made = unfit_refusal (Some schema) made

  abbrev built_line : PlainRule → Option Refusal
  built_line made = unbuilt_refusal unbuilt.items (rule_expressions made)

  same_rule : (r s : PlainRule) → IsLone r → IsLone s → r ≡ s
  same_rule r s first second = one unbuilt.values unbuilt.values limits t r s first second

  same_made : (r s m n : PlainRule) → IsLone r → IsLone s → Makes limits ps r m → Makes limits ps s n → m ≡ n
  same_made r s m n first second makes too = made_is (run_pipelines limits ps r) m n makes (ap (run_pipelines limits ps) (same_rule r s first second) ∙ too)

  -- no two of these can be
  unread : (x : Refusal) (r : PlainRule) → IsLone r → lone_refusal unbuilt.values limits t ≡ Some x → ⊥
  unread x r lone is = not_none (lone_refusal unbuilt.values limits t) x lone.taken is

  unmade : (x : Refusal) (r s m : PlainRule) → IsLone r → IsLone s → Makes limits ps s m → run_pipelines limits ps r ≡ Err x → ⊥
  unmade x r s m first second makes is = made_not_err (run_pipelines limits ps r) m x (ap (run_pipelines limits ps) (same_rule r s first second) ∙ makes) is

  misfit : (x : Refusal) (r s m n : PlainRule) → IsLone r → IsLone s → Makes limits ps r m → Makes limits ps s n → fit_line n ≡ None → fit_line m ≡ Some x → ⊥
  misfit x r s m n first second makes too fits is = not_none (fit_line m) x (ap fit_line (same_made r s m n first second makes too) ∙ fits) is

  one_run : (a b : PlainRule) → IsRun limits ps schema unbuilt t a → IsRun limits ps schema unbuilt t b → a ≡ b
  one_run a b first second = same_made first.rule second.rule a b first.lone second.lone first.makes second.makes

  run_never : (a : PlainRule) (x : Refusal) → IsRun limits ps schema unbuilt t a → IsNotRun limits ps schema unbuilt t x → ⊥
  run_never a x run (no_rule is) = unread x run.rule run.lone is
  run_never a x run (not_made r lone is) = unmade x r run.rule a lone run.lone run.makes is
  run_never a x run (unfit r m lone makes is) = misfit x r run.rule m a lone run.lone makes run.makes run.fits is
  run_never a x run (not_built r m lone makes fits is) =
      not_none (built_line m) x (ap built_line (same_made r run.rule m a lone run.lone makes run.makes) ∙ run.built) is

  one_cause : (x y : Refusal) → IsNotRun limits ps schema unbuilt t x → IsNotRun limits ps schema unbuilt t y → x ≡ y
  one_cause x y (no_rule is) (no_rule too) = some_is (lone_refusal unbuilt.values limits t) x y is too
  one_cause x y (no_rule is) (not_made r lone too) = absurd (unread x r lone is)
  one_cause x y (no_rule is) (unfit r m lone makes too) = absurd (unread x r lone is)
  one_cause x y (no_rule is) (not_built r m lone makes fits too) = absurd (unread x r lone is)
  one_cause x y (not_made r lone is) (no_rule too) = absurd (unread y r lone too)
  one_cause x y (not_made r lone is) (not_made s alone too) = unmade_is (run_pipelines limits ps r) x y is (ap (run_pipelines limits ps) (same_rule r s lone alone) ∙ too)
  one_cause x y (not_made r lone is) (unfit s n alone makes too) = absurd (unmade x r s n lone alone makes is)
  one_cause x y (not_made r lone is) (not_built s n alone makes fits too) = absurd (unmade x r s n lone alone makes is)
  one_cause x y (unfit r m lone makes is) (no_rule too) = absurd (unread y r lone too)
  one_cause x y (unfit r m lone makes is) (not_made s alone too) = absurd (unmade y s r m alone lone makes too)
  one_cause x y (unfit r m lone makes is) (unfit s n alone made too) = some_is (fit_line m) x y is (ap fit_line (same_made r s m n lone alone makes made) ∙ too)
  one_cause x y (unfit r m lone makes is) (not_built s n alone made fits too) = absurd (misfit x r s m n lone alone makes made fits is)
  one_cause x y (not_built r m lone makes fits is) (no_rule too) = absurd (unread y r lone too)
  one_cause x y (not_built r m lone makes fits is) (not_made s alone too) = absurd (unmade y s r m alone lone makes too)
  one_cause x y (not_built r m lone makes fits is) (unfit s n alone made too) = absurd (misfit y s r n m alone lone made makes fits too)
  one_cause x y (not_built r m lone makes fits is) (not_built s n alone made fit too) =
      some_is (built_line m) x y is (ap built_line (same_made r s m n lone alone makes made) ∙ too)

  -- ---- a tree

  one_tree : OneRead → (b : Bool) (x y : Outcome) → IsTreeOutcome b limits ps schema unbuilt t x → IsTreeOutcome b limits ps schema unbuilt t y → x ≡ y
  one_tree read true (Runs a) y is too = absurd is
  one_tree read true (Correlates c) (Runs a) is too = absurd too
  one_tree read true (Correlates c) (Correlates d) is too = ap Correlates (read t c d is.is too.is)
  one_tree read true (Correlates c) (Refuses r) is too = absurd (not_none (correlation_refusal t) r is.taken too)
  one_tree read true (Refuses r) (Runs a) is too = absurd too
  one_tree read true (Refuses r) (Correlates c) is too = absurd (not_none (correlation_refusal t) r too.taken is)
  one_tree read true (Refuses r) (Refuses s) is too = ap Refuses (some_is (correlation_refusal t) r s is too)
  one_tree read false (Runs a) (Runs b) is too = ap Runs (one_run a b is too)
  one_tree read false (Runs a) (Correlates c) is too = absurd too
  one_tree read false (Runs a) (Refuses r) is too = absurd (run_never a r is too)
  one_tree read false (Correlates c) y is too = absurd is
  one_tree read false (Refuses r) (Runs a) is too = absurd (run_never a r too is)
  one_tree read false (Refuses r) (Correlates c) is too = absurd too
  one_tree read false (Refuses r) (Refuses s) is too = ap Refuses (one_cause r s is too)

module _ (each : EachLone) (read : EachRead) (limits : Limits) (ps : List Pipeline) (schema : Schema) (unbuilt : Unbuilt) (t : Tree) where
  abbrev IsSome : Bool → Type 0
  IsSome b = (outcome : Outcome) × IsTreeOutcome b limits ps schema unbuilt t outcome

  each_built : (rule made : PlainRule) → IsLoneRule unbuilt.values limits t rule → Makes limits ps rule made → unfit_refusal (Some schema) made ≡ None
      → (o : Option Refusal) → unbuilt_refusal unbuilt.items (rule_expressions made) ≡ o → IsSome false
  each_built rule made lone makes fits None is = (Runs made, record { rule = rule; lone = lone; makes = makes; fits = fits; built = is })
  each_built rule made lone makes fits (Some r) is = (Refuses r, not_built rule made lone makes fits is)

  each_fit : (rule made : PlainRule) → IsLoneRule unbuilt.values limits t rule → Makes limits ps rule made → (o : Option Refusal) → unfit_refusal (Some schema) made ≡ o → IsSome false
  each_fit rule made lone makes None is = each_built rule made lone makes is (unbuilt_refusal unbuilt.items (rule_expressions made)) refl
  each_fit rule made lone makes (Some r) is = (Refuses r, unfit rule made lone makes is)

  each_made : (rule : PlainRule) → IsLoneRule unbuilt.values limits t rule → (result : Result PlainRule Refusal) → run_pipelines limits ps rule ≡ result → IsSome false
  each_made rule lone (Ok made) is = each_fit rule made lone is (unfit_refusal (Some schema) made) refl
  each_made rule lone (Err r) is = (Refuses r, not_made rule lone is)

  each_rule : (o : Option Refusal) → lone_refusal unbuilt.values limits t ≡ o → IsSome false
  each_rule None is = let rule = each unbuilt.values limits t is in each_made rule.0 rule.1 (run_pipelines limits ps rule.0) refl
  each_rule (Some r) is = (Refuses r, no_rule is)

  each_tree : (b : Bool) → IsSome b
  each_tree false = each_rule (lone_refusal unbuilt.values limits t) refl
  each_tree true = by (read t)
    where
      by : ((c : PlainCorrelation) × Reads t c) ⊎ ((r : Refusal) × (correlation_refusal t ≡ Some r)) → IsSome true
      by (inl (c, reads)) = (Correlates c, record { taken = reads.0; is = reads.1 })
      by (inr (r, is)) = (Refuses r, is)

-- ---- a document

pub each_document : EachLone → EachRead → EachDocument
each_document each read limits ps schema (unbuilt, tree t) = each_tree each read limits ps schema unbuilt t (is_correlation t)
each_document each read limits ps schema (unbuilt, refusal y) = (Refuses (yaml_refusal y), refl)

pub one_document : OneLone → OneRead → OneDocument
one_document one read limits ps schema (unbuilt, tree t) x y is too = one_tree one limits ps schema unbuilt t read (is_correlation t) x y is too
one_document one read limits ps schema (unbuilt, refusal p) (Runs a) y is too = absurd is
one_document one read limits ps schema (unbuilt, refusal p) (Correlates c) y is too = absurd is
one_document one read limits ps schema (unbuilt, refusal p) (Refuses r) (Runs a) is too = absurd too
one_document one read limits ps schema (unbuilt, refusal p) (Refuses r) (Correlates c) is too = absurd too
one_document one read limits ps schema (unbuilt, refusal p) (Refuses r) (Refuses s) is too = ap Refuses (is ∙ sym too)

-- ---- a file

module _ (limits : Limits) (ps : List Pipeline) (schema : Schema) where
  one_list : OneDocument → (ds : List (Unbuilt × Answer)) (xs ys : List Outcome) → AllZip (IsOutcome limits ps schema) ds xs → AllZip (IsOutcome limits ps schema) ds ys → xs ≡ ys
  one_list one [] [] [] is too = refl
  one_list one [] [] (b ∷ ys) is too = absurd too
  one_list one [] (a ∷ xs) ys is too = absurd is
  one_list one (d ∷ ds) [] ys is too = absurd is
  one_list one (d ∷ ds) (a ∷ xs) [] is too = absurd too
  one_list one (d ∷ ds) (a ∷ xs) (b ∷ ys) is too =
      ap (λ (x : Outcome). x ∷ xs) (one limits ps schema d a b is.0 too.0) ∙ ap (λ (l : List Outcome). b ∷ l) (one_list one ds xs ys is.1 too.1)

  each_list : EachDocument → (ds : List (Unbuilt × Answer)) → (outcomes : List Outcome) × AllZip (IsOutcome limits ps schema) ds outcomes
  each_list each [] = ([], tt)
  each_list each (d ∷ ds) =
      let first = each limits ps schema d in
      let behind = each_list each ds in
      (first.0 ∷ behind.0, (first.1, behind.1))

pub each_file : EachDocument → yaml.EachVerdict → EachFile
each_file each verdict limits ps schema unbuilt bytes = by (verdict limits.file_bytes limits.documents limits.yaml_depth bytes)
  where
    by : ((given : List Answer) × IsTaken limits.file_bytes limits.documents limits.yaml_depth bytes given) ⊎ ((y : ℕ × At) × IsCallRefusal limits.file_bytes limits.documents bytes y)
        → (outcomes : List Outcome) × AreOutcomes limits ps schema unbuilt bytes outcomes
    by (inl (documents, taken)) =
        let all = each_list limits ps schema each (paired none_unbuilt unbuilt documents) in
        (all.0, by_document documents taken all.1)
    by (inr (y, is)) = (Refuses (yaml_refusal y) ∷ [], as_one y is refl)

pub one_file : OneDocument → yaml.NeverBoth → yaml.OneList → yaml.OneRefusal → OneFile
one_file one never list cause limits ps schema unbuilt bytes a b (as_one y whole is) (as_one z whole_too too) =
    is ∙ (ap (λ (x : ℕ × At). Refuses (yaml_refusal x) ∷ []) (cause limits.file_bytes limits.documents bytes y z whole whole_too) ∙ sym too)
one_file one never list cause limits ps schema unbuilt bytes a b (as_one y whole is) (by_document documents taken each) =
    absurd (never limits.file_bytes limits.documents limits.yaml_depth bytes documents y taken whole)
one_file one never list cause limits ps schema unbuilt bytes a b (by_document documents taken each) (as_one y whole is) =
    absurd (never limits.file_bytes limits.documents limits.yaml_depth bytes documents y taken whole)
one_file one never list cause limits ps schema unbuilt bytes a b (by_document documents taken each) (by_document others taken_too each_too) =
    one_list limits ps schema one (paired none_unbuilt unbuilt others) a b
    (subst (λ (ds : List Answer). AllZip (IsOutcome limits ps schema) (paired none_unbuilt unbuilt ds) a)
    (list limits.file_bytes limits.documents limits.yaml_depth bytes documents others taken taken_too) each) each_too

-- ---- correlations

pub each_judged : EachBound → EachJudged
each_judged bound names fields [] = ([], record { of = refl; each = tt })
each_judged bound names fields (c ∷ cs) = by (bound names fields c.1) (each_judged bound names fields cs)
  where
    by : ((b : Bound) × Binds names fields c.1 b) ⊎ ((r : Refusal) × (bind_refusal names fields c.1 ≡ Some r)) → ((judged : List (Named × Verdict)) × AreJudged names fields cs judged)
        → (judged : List (Named × Verdict)) × AreJudged names fields (c ∷ cs) judged
    by (inl (b, binds)) more = ((c, Ok b) ∷ more.0, record { of = ap (λ (l : List Named). c ∷ l) more.1.of; each = (binds, more.1.each) })
    by (inr (r, is)) more = ((c, Err r) ∷ more.0, record { of = ap (λ (l : List Named). c ∷ l) more.1.of; each = (is, more.1.each) })

module _ (one : OneBound) (never : NeverBound) (names : List Names) (fields : List Field) where
  abbrev bound : Bound → Verdict
  bound b = Ok b

  abbrev unbound : Refusal → Verdict
  unbound r = Err r

  one_verdict : (c : Named) (v w : Verdict) → IsVerdict names fields c v → IsVerdict names fields c w → v ≡ w
  one_verdict c (Ok a) (Ok b) is too = ap bound (one names fields c.1 a b is.1 too.1)
  one_verdict c (Ok a) (Err r) is too = absurd (never names fields c.1 a r is too)
  one_verdict c (Err r) (Ok b) is too = absurd (never names fields c.1 b r too is)
  one_verdict c (Err r) (Err s) is too = ap unbound (some_is (bind_refusal names fields c.1) r s is too)

  same_judged : (a b : List (Named × Verdict)) → map (λ j. j.0) a ≡ map (λ j. j.0) b → EachOf (λ j. IsVerdict names fields j.0 j.1) a → EachOf (λ j. IsVerdict names fields j.0 j.1) b → a ≡ b
  same_judged [] [] same is too = refl
  same_judged [] (j ∷ b) same is too = absurd cc
  same_judged (j ∷ a) [] same is too = absurd cc
  same_judged ((c, v) ∷ a) ((d, w) ∷ b) same is too =
      let here : c ≡ d = cc in
      let behind : map (λ (j : Named × Verdict). j.0) a ≡ map (λ (j : Named × Verdict). j.0) b = cc in
      let verdict : v ≡ w = one_verdict d v w (subst (λ (x : Named). IsVerdict names fields x v) here is.0) too.0 in
      ap (λ (x : Named). (x, v) ∷ a) here ∙ (ap (λ (x : Verdict). (d, x) ∷ a) verdict ∙ ap (λ (l : List (Named × Verdict)). (d, w) ∷ l) (same_judged a b behind is.1 too.1))

pub one_judged : OneBound → NeverBound → OneJudged
one_judged one never names fields cs a b first second = same_judged one never names fields a b (first.of ∙ sym second.of) first.each second.each
