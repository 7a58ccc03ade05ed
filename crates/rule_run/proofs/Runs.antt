-- That each file is run as exactly one rule, or isn't run for exactly one cause.
use Rattle.std.proofs.Common.{◌≡◌, ℕ, Bool, true, false, List, [], ◌∷◌, refl, ap, sym, ◌∙◌, subst, append-nil, Option, Some, None, Result, Ok, Err, inl, inr}
use Rattle.std.specs.Prelude.{◌⊎◌}
use Rattle.event_schema.specs.declared.schema.Schema.{Schema}
use Rattle.pipeline_run.specs.Chained.{run_pipelines, Makes, Gives}
use Rattle.pipeline_model.specs.declared.pipeline.Pipeline.{Pipeline}
use Rattle.rule_regex.specs.Building.{FoundUnbuilt}
use Rattle.rule_regex.specs.ForUnbuilt.{is_answered}
use Rattle.rule_regex.specs.Unbuilt.{Unbuilt, none_unbuilt, of_values, AreUnbuilt, unbuilt_refusal}
use Rattle.rule_model.specs.Expressions.{document_expressions, rule_expressions}
use Rattle.rule_model.specs.Plain.{PlainRule, rule_view, rule_with}
use Rattle.rule_model.specs.Rules.{lone_refusal, IsLoneRule, IsRule}
use Rattle.rule_model.specs.declared.rule.Rule.{Rule}
use Rattle.rule_run.specs.Answers.{Answers, ForTree, ForDocuments, ForValues, IsBare}
use Rattle.rule_run.specs.Files.{yaml_refusal, single_tree}
use Rattle.rule_run.specs.Laws.{EachRun}
use Rattle.rule_run.specs.Runs.{AreDocuments, IsOnly, IsNoneOnly, no_tree, no_rule, IsSingleRule, IsMadeRule, IsNoMadeRule, no_single, unmade, IsFilledRule, IsNoSingleRule, as_one, by_document, IsFit, IsUnfit, no_made, unfit, IsRun, IsNotRun, no_fit, not_built, AreOfTree, AreOfSingle}
use Rattle.rule_schema.specs.Inferred.{open_refusal, unfit_refusal, schema_refusal, fit_refusal, inferred_schema}
use Rattle.sig_base.specs.declared.limits.Limits.{Limits}
use Rattle.sig_base.specs.Judged.{Judged, first}
use Rattle.sig_base.specs.declared.refusal.Detail.TheVariants as details
use Rattle.sig_base.specs.declared.refusal.Fault.{Fault}
use Rattle.sig_base.specs.declared.refusal.Fault.TheVariants.{Memory, Refused}
use Rattle.sig_base.specs.declared.refusal.Place.{Place}
use Rattle.sig_base.specs.declared.refusal.Refusal.{Refusal}
use Rattle.yaml_documents.specs.Given.{answers_view}
use Rattle.yaml_documents.specs.Verdicts as yaml
use Rattle.yaml_documents.specs.Call.{IsCallRefusal, IsTaken}
use Rattle.yaml_documents.specs.Views.{IfRefused}
use Rattle.yaml_tree.specs.Tree.{At, Tree, Answer, Member}
use Rattle.yaml_tree.specs.declared.tree.Document.{Document}

abbrev EachLone : Type 0
EachLone = (values : List Place) (limits : Limits) (t : Tree) → lone_refusal values limits t ≡ None → (rule : PlainRule) × IsLoneRule values limits t rule

abbrev OneLone : Type 0
OneLone = (u v : List Place) (limits : Limits) (t : Tree) (a b : PlainRule) → IsLoneRule u limits t a → IsLoneRule v limits t b → a ≡ b

-- ---- each

each_only : EachLone → (values : List Place) (limits : Limits) (documents : List Answer) → ((rule : PlainRule) × IsOnly values limits documents rule) ⊎ ((r : Refusal) × IsNoneOnly values limits documents r)
each_only each values limits documents = by (single_tree documents) refl
  where
    judged : (t : Tree) → single_tree documents ≡ Ok t → (o : Option Refusal) → lone_refusal values limits t ≡ o
        → ((rule : PlainRule) × IsOnly values limits documents rule) ⊎ ((r : Refusal) × IsNoneOnly values limits documents r)
    judged t single None is = let rule = each values limits t is in inl (rule.0, record { top = t; single = single; lone = rule.1 })
    judged t single (Some r) is = inr (r, no_rule t single is)

    by : (result : Result Tree Refusal) → single_tree documents ≡ result → ((rule : PlainRule) × IsOnly values limits documents rule) ⊎ ((r : Refusal) × IsNoneOnly values limits documents r)
    by (Ok t) is = judged t is (lone_refusal values limits t) refl
    by (Err r) is = inr (r, no_tree is)

each_single : EachLone → yaml.EachVerdict → (values : List Place) (limits : Limits) (bytes : List ℕ) → ((rule : PlainRule) × IsSingleRule values limits bytes rule) ⊎ ((r : Refusal) × IsNoSingleRule values limits bytes r)
each_single each read values limits bytes = by (read limits.file_bytes limits.documents limits.yaml_depth bytes)
  where
    judged : (documents : List Answer) → AreDocuments limits bytes documents → ((rule : PlainRule) × IsOnly values limits documents rule) ⊎ ((r : Refusal) × IsNoneOnly values limits documents r)
        → ((rule : PlainRule) × IsSingleRule values limits bytes rule) ⊎ ((r : Refusal) × IsNoSingleRule values limits bytes r)
    judged documents taken (inl (rule, only)) = inl (rule, record { documents = documents; taken = taken; only = only })
    judged documents taken (inr (r, none)) = inr (r, by_document documents taken none)

    by : ((given : List Answer) × IsTaken limits.file_bytes limits.documents limits.yaml_depth bytes given) ⊎ ((p : ℕ × At) × IsCallRefusal limits.file_bytes limits.documents bytes p)
        → ((rule : PlainRule) × IsSingleRule values limits bytes rule) ⊎ ((r : Refusal) × IsNoSingleRule values limits bytes r)
    by (inl (documents, taken)) = judged documents taken (each_only each values limits documents)
    by (inr (p, is)) = inr (yaml_refusal p, as_one p is refl)

each_made : EachLone → yaml.EachVerdict → (values : List Place) (limits : Limits) (ps : List Pipeline) (bytes : List ℕ)
    → ((made : PlainRule) × IsMadeRule values limits ps bytes made) ⊎ ((r : Refusal) × IsNoMadeRule values limits ps bytes r)
each_made each read values limits ps bytes = by (each_single each read values limits bytes)
  where
    run : (rule : PlainRule) → IsSingleRule values limits bytes rule → (result : Result PlainRule Refusal) → run_pipelines limits ps rule ≡ result
        → ((made : PlainRule) × IsMadeRule values limits ps bytes made) ⊎ ((r : Refusal) × IsNoMadeRule values limits ps bytes r)
    run rule single (Ok made) is = inl (made, record { rule = rule; single = single; makes = is })
    run rule single (Err r) is = inr (r, unmade rule single is)

    by : ((rule : PlainRule) × IsSingleRule values limits bytes rule) ⊎ ((r : Refusal) × IsNoSingleRule values limits bytes r)
        → ((made : PlainRule) × IsMadeRule values limits ps bytes made) ⊎ ((r : Refusal) × IsNoMadeRule values limits ps bytes r)
    by (inl (rule, single)) = run rule single (run_pipelines limits ps rule) refl
    by (inr (r, is)) = inr (r, no_single is)

each_fit : EachLone → yaml.EachVerdict → (values : List Place) (limits : Limits) (ps : List Pipeline) (given : Option Schema) (bytes : List ℕ)
    → ((made : PlainRule) × IsFit values limits ps given bytes made) ⊎ ((r : Refusal) × IsUnfit values limits ps given bytes r)
each_fit each read values limits ps given bytes = by (each_made each read values limits ps bytes)
  where
    fitted : (made : PlainRule) → IsMadeRule values limits ps bytes made → (o : Option Refusal) → unfit_refusal given made ≡ o
        → ((made : PlainRule) × IsFit values limits ps given bytes made) ⊎ ((r : Refusal) × IsUnfit values limits ps given bytes r)
    fitted made rule None is = inl (made, record { rule = rule; fits = is })
    fitted made rule (Some r) is = inr (r, unfit made rule is)

    by : ((made : PlainRule) × IsMadeRule values limits ps bytes made) ⊎ ((r : Refusal) × IsNoMadeRule values limits ps bytes r)
        → ((made : PlainRule) × IsFit values limits ps given bytes made) ⊎ ((r : Refusal) × IsUnfit values limits ps given bytes r)
    by (inl (made, rule)) = fitted made rule (unfit_refusal given made) refl
    by (inr (r, is)) = inr (r, no_made is)

pub each_run : EachLone → yaml.EachVerdict → EachRun
each_run each read unbuilt limits ps given bytes = by (each_fit each read unbuilt.values limits ps given bytes)
  where
    built : (made : PlainRule) → IsFit unbuilt.values limits ps given bytes made → (o : Option Refusal) → unbuilt_refusal unbuilt.items (rule_expressions made) ≡ o
        → ((made : PlainRule) × IsRun unbuilt limits ps given bytes made) ⊎ ((r : Refusal) × IsNotRun unbuilt limits ps given bytes r)
    built made fit None is = inl (made, record { fit = fit; built = is })
    built made fit (Some r) is = inr (r, not_built made fit is)

    by : ((made : PlainRule) × IsFit unbuilt.values limits ps given bytes made) ⊎ ((r : Refusal) × IsUnfit unbuilt.values limits ps given bytes r)
        → ((made : PlainRule) × IsRun unbuilt limits ps given bytes made) ⊎ ((r : Refusal) × IsNotRun unbuilt limits ps given bytes r)
    by (inl (made, fit)) = built made fit (unbuilt_refusal unbuilt.items (rule_expressions made)) refl
    by (inr (r, is)) = inr (r, no_fit is)

-- ---- one

abbrev ok : Tree → Result Tree Refusal
ok t = Ok t

abbrev err : Refusal → Result Tree Refusal
err r = Err r

ok_is : (result : Result Tree Refusal) (a b : Tree) → result ≡ Ok a → result ≡ Ok b → a ≡ b
ok_is result a b first second = by (sym first ∙ second)
  where
    by : ok a ≡ ok b → a ≡ b
    by same = cc

err_is : (result : Result Tree Refusal) (a b : Refusal) → result ≡ Err a → result ≡ Err b → a ≡ b
err_is result a b first second = by (sym first ∙ second)
  where
    by : err a ≡ err b → a ≡ b
    by same = cc

not_both : (result : Result Tree Refusal) (t : Tree) (r : Refusal) → result ≡ Ok t → result ≡ Err r → ⊥
not_both result t r first second = apart (sym first ∙ second)
  where
    apart : ok t ≡ err r → ⊥
    apart same = cc

abbrev made_ok : PlainRule → Result PlainRule Refusal
made_ok made = Ok made

abbrev made_err : Refusal → Result PlainRule Refusal
made_err r = Err r

made_is : (result : Result PlainRule Refusal) (a b : PlainRule) → result ≡ Ok a → result ≡ Ok b → a ≡ b
made_is result a b first second = by (sym first ∙ second)
  where
    by : made_ok a ≡ made_ok b → a ≡ b
    by same = cc

unmade_is : (result : Result PlainRule Refusal) (a b : Refusal) → result ≡ Err a → result ≡ Err b → a ≡ b
unmade_is result a b first second = by (sym first ∙ second)
  where
    by : made_err a ≡ made_err b → a ≡ b
    by same = cc

made_not_err : (result : Result PlainRule Refusal) (made : PlainRule) (r : Refusal) → result ≡ Ok made → result ≡ Err r → ⊥
made_not_err result made r first second = apart (sym first ∙ second)
  where
    apart : made_ok made ≡ made_err r → ⊥
    apart same = cc

some_is : (o : Option Refusal) (a b : Refusal) → o ≡ Some a → o ≡ Some b → a ≡ b
some_is o a b first second = by (sym first ∙ second)
  where
    by : Some a ≡ Some b → a ≡ b
    by same = cc

not_none : (o : Option Refusal) (r : Refusal) → o ≡ None → o ≡ Some r → ⊥
not_none o r none some = apart (sym none ∙ some)
  where
    apart : None ≡ Some r → ⊥
    apart same = cc

module _ (one : OneLone) (limits : Limits) where
  moved : (values : List Place) (documents : List Answer) (a b : Tree) → single_tree documents ≡ Ok a → single_tree documents ≡ Ok b → (rule : PlainRule)
      → IsLoneRule values limits b rule → IsLoneRule values limits a rule
  moved values documents a b first second rule lone = subst (λ (t : Tree). IsLoneRule values limits t rule) (ok_is (single_tree documents) b a second first) lone

  one_only : (u v : List Place) (documents : List Answer) (a b : PlainRule) → IsOnly u limits documents a → IsOnly v limits documents b → a ≡ b
  one_only u v documents a b first second = one u v limits first.top a b first.lone (moved v documents first.top second.top first.single second.single b second.lone)

  module _ (values : List Place) where
    only_never : (documents : List Answer) (rule : PlainRule) (r : Refusal) → IsOnly values limits documents rule → IsNoneOnly values limits documents r → ⊥
    only_never documents rule r only (no_tree is) = not_both (single_tree documents) only.top r only.single is
    only_never documents rule r only (no_rule top single is) =
        not_none (lone_refusal values limits top) r (ap (lone_refusal values limits) (ok_is (single_tree documents) top only.top single only.single) ∙ only.lone.taken) is

    none_one : (documents : List Answer) (a b : Refusal) → IsNoneOnly values limits documents a → IsNoneOnly values limits documents b → a ≡ b
    none_one documents a b (no_tree is) (no_tree too) = err_is (single_tree documents) a b is too
    none_one documents a b (no_tree is) (no_rule top single too) = absurd (not_both (single_tree documents) top a single is)
    none_one documents a b (no_rule top single is) (no_tree too) = absurd (not_both (single_tree documents) top b single too)
    none_one documents a b (no_rule top single is) (no_rule other other_single too) =
        some_is (lone_refusal values limits top) a b is (ap (lone_refusal values limits) (ok_is (single_tree documents) top other single other_single) ∙ too)

  module _ (never : yaml.NeverBoth) (list : yaml.OneList) (cause : yaml.OneRefusal) (bytes : List ℕ) where
    same_documents : (a b : List Answer) → AreDocuments limits bytes a → AreDocuments limits bytes b → a ≡ b
    same_documents a b first second = list limits.file_bytes limits.documents limits.yaml_depth bytes a b first second

    pub one_single : (u v : List Place) (a b : PlainRule) → IsSingleRule u limits bytes a → IsSingleRule v limits bytes b → a ≡ b
    one_single u v a b first second =
        one_only u v first.documents a b first.only
        (subst (λ (ds : List Answer). IsOnly v limits ds b) (same_documents second.documents first.documents second.taken first.taken) second.only)

    pub one_made : (ps : List Pipeline) (u v : List Place) (a b : PlainRule) → IsMadeRule u limits ps bytes a → IsMadeRule v limits ps bytes b → a ≡ b
    one_made ps u v a b first second =
        made_is (run_pipelines limits ps first.rule) a b first.makes (ap (run_pipelines limits ps) (one_single u v first.rule second.rule first.single second.single) ∙ second.makes)

    module _ (values : List Place) where
      single_never : (rule : PlainRule) (r : Refusal) → IsSingleRule values limits bytes rule → IsNoSingleRule values limits bytes r → ⊥
      single_never rule r single (as_one p is same) = never limits.file_bytes limits.documents limits.yaml_depth bytes single.documents p single.taken is
      single_never rule r single (by_document documents taken none) =
          only_never values single.documents rule r single.only
          (subst (λ (ds : List Answer). IsNoneOnly values limits ds r) (same_documents documents single.documents taken single.taken) none)

      single_cause : (a b : Refusal) → IsNoSingleRule values limits bytes a → IsNoSingleRule values limits bytes b → a ≡ b
      single_cause a b (as_one p is same) (as_one q too same_too) = same ∙ (ap yaml_refusal (cause limits.file_bytes limits.documents bytes p q is too) ∙ sym same_too)
      single_cause a b (as_one p is same) (by_document documents taken none) = absurd (never limits.file_bytes limits.documents limits.yaml_depth bytes documents p taken is)
      single_cause a b (by_document documents taken none) (as_one p is same) = absurd (never limits.file_bytes limits.documents limits.yaml_depth bytes documents p taken is)
      single_cause a b (by_document documents taken none) (by_document others others_taken none_too) =
          none_one values documents a b none (subst (λ (ds : List Answer). IsNoneOnly values limits ds b) (same_documents others documents others_taken taken) none_too)

      module _ (ps : List Pipeline) where
        made_never : (made : PlainRule) (r : Refusal) → IsMadeRule values limits ps bytes made → IsNoMadeRule values limits ps bytes r → ⊥
        made_never made r rule (no_single is) = single_never rule.rule r rule.single is
        made_never made r rule (unmade other single is) =
            made_not_err (run_pipelines limits ps other) made r (ap (run_pipelines limits ps) (one_single values values other rule.rule single rule.single) ∙ rule.makes) is

        made_cause : (a b : Refusal) → IsNoMadeRule values limits ps bytes a → IsNoMadeRule values limits ps bytes b → a ≡ b
        made_cause a b (no_single is) (no_single too) = single_cause a b is too
        made_cause a b (no_single is) (unmade rule single too) = absurd (single_never rule a single is)
        made_cause a b (unmade rule single is) (no_single too) = absurd (single_never rule b single too)
        made_cause a b (unmade rule single is) (unmade other other_single too) =
            unmade_is (run_pipelines limits ps rule) a b is (ap (run_pipelines limits ps) (one_single values values rule other single other_single) ∙ too)

      module _ (ps : List Pipeline) (given : Option Schema) where
        fit_never : (made : PlainRule) (r : Refusal) → IsFit values limits ps given bytes made → IsUnfit values limits ps given bytes r → ⊥
        fit_never made r fit (no_made is) = made_never ps made r fit.rule is
        fit_never made r fit (unfit other rule is) =
            not_none (unfit_refusal given other) r (ap (unfit_refusal given) (one_made ps values values other made rule fit.rule) ∙ fit.fits) is

        unfit_cause : (a b : Refusal) → IsUnfit values limits ps given bytes a → IsUnfit values limits ps given bytes b → a ≡ b
        unfit_cause a b (no_made is) (no_made too) = made_cause ps a b is too
        unfit_cause a b (no_made is) (unfit made rule too) = absurd (made_never ps made a rule is)
        unfit_cause a b (unfit made rule is) (no_made too) = absurd (made_never ps made b rule too)
        unfit_cause a b (unfit made rule is) (unfit other other_rule too) =
            some_is (unfit_refusal given made) a b is (ap (unfit_refusal given) (one_made ps values values made other rule other_rule) ∙ too)

    module _ (unbuilt : Unbuilt) (ps : List Pipeline) (given : Option Schema) where
      abbrev line : PlainRule → Option Refusal
      line made = unbuilt_refusal unbuilt.items (rule_expressions made)

      one_fit : (a b : PlainRule) → IsFit unbuilt.values limits ps given bytes a → IsFit unbuilt.values limits ps given bytes b → a ≡ b
      one_fit a b first second = one_made ps unbuilt.values unbuilt.values a b first.rule second.rule

      pub run_never : (made : PlainRule) (r : Refusal) → IsRun unbuilt limits ps given bytes made → IsNotRun unbuilt limits ps given bytes r → ⊥
      run_never made r run (no_fit is) = fit_never unbuilt.values ps given made r run.fit is
      run_never made r run (not_built other fit is) = not_none (line other) r (ap line (one_fit other made fit run.fit) ∙ run.built) is

      pub run_cause : (a b : Refusal) → IsNotRun unbuilt limits ps given bytes a → IsNotRun unbuilt limits ps given bytes b → a ≡ b
      run_cause a b (no_fit is) (no_fit too) = unfit_cause unbuilt.values ps given a b is too
      run_cause a b (no_fit is) (not_built made fit too) = absurd (fit_never unbuilt.values ps given made a fit is)
      run_cause a b (not_built made fit is) (no_fit too) = absurd (fit_never unbuilt.values ps given made b fit too)
      run_cause a b (not_built made fit is) (not_built other other_fit too) = some_is (line made) a b is (ap line (one_fit made other fit other_fit) ∙ too)

-- ---- what the readers answer

no_detail : (r : Refusal) → r.detail ≡ details.None → r ≡ yaml_refusal (r.code, record { line = r.place.line; column = r.place.column })
no_detail r plain = ap (λ d. record { code = r.code; place = r.place; detail = d }) plain

-- a rule that is read of the one tree, or its refusal
pub only_answers : (values : List Place) (limits : Limits) (documents : List Answer) (t : Tree) (rest : List Member) (result : Result Rule Fault) → single_tree documents ≡ Ok t
    → Judged (λ r. IsRule t (rule_with rest (rule_view r))) (lone_refusal values limits t) result → Answers (IsBare (IsOnly values limits documents)) (IsNoneOnly values limits documents) result
only_answers values limits documents t rest (Ok rule) single judged = (rest, record { top = t; single = single; lone = record { taken = judged.0; is = judged.1 } })
only_answers values limits documents t rest (Err Memory) single judged = tt
only_answers values limits documents t rest (Err (Refused r)) single judged = no_rule t single judged

-- what is said of the documents, said of the file
pub documents_answer : (values : List Place) (limits : Limits) (bytes : List ℕ) (documents : List Answer) (result : Result Rule Fault) → AreDocuments limits bytes documents
    → Answers (IsBare (IsOnly values limits documents)) (IsNoneOnly values limits documents) result → Answers (IsBare (IsSingleRule values limits bytes)) (IsNoSingleRule values limits bytes) result
documents_answer values limits bytes documents (Ok rule) taken (rest, only) = (rest, record { documents = documents; taken = taken; only = only })
documents_answer values limits bytes documents (Err Memory) taken answers = tt
documents_answer values limits bytes documents (Err (Refused r)) taken none = by_document documents taken none

-- the file is refused as a whole
pub file_answers : (values : List Place) (limits : Limits) (bytes : List ℕ) (fault : Fault) → IfRefused fault (IsCallRefusal limits.file_bytes limits.documents bytes)
    → Answers {X = Rule} (IsBare (IsSingleRule values limits bytes)) (IsNoSingleRule values limits bytes) (Err fault)
file_answers values limits bytes Memory is = tt
file_answers values limits bytes (Refused r) (plain, is) = as_one (r.code, record { line = r.place.line; column = r.place.column }) is (no_detail r plain)

-- ---- the file as a rule, and whether it fits

first_is : (o a b : Option Refusal) (r : Refusal) → o ≡ Some r → first (o ∷ a ∷ b ∷ []) ≡ Some r
first_is o a b r is = rw is refl

second_is : (o a b : Option Refusal) (r : Refusal) → o ≡ None → a ≡ Some r → first (o ∷ a ∷ b ∷ []) ≡ Some r
second_is o a b r filled is = rw (filled, is) refl

third_is : (o a b : Option Refusal) (r : Refusal) → o ≡ None → a ≡ None → b ≡ Some r → first (o ∷ a ∷ b ∷ []) ≡ Some r
third_is o a b r filled none is = rw (filled, none, is) refl

pub none_is : (o a b : Option Refusal) → o ≡ None → a ≡ None → b ≡ None → first (o ∷ a ∷ b ∷ []) ≡ None
none_is o a b filled none also = rw (filled, none, also) refl

-- a placeholder of the rule stands open, whatever schema is given
isnt_filled : (values : List Place) (limits : Limits) (ps : List Pipeline) (bytes : List ℕ) (rule : Rule) (r : Refusal) → IsBare (IsMadeRule values limits ps bytes) rule
    → open_refusal (rule_view rule) ≡ Some r → (given : Option Schema) → IsUnfit values limits ps given bytes r
isnt_filled values limits ps bytes rule r (rest, made) is None =
    unfit (rule_with rest (rule_view rule)) made
    (first_is (open_refusal (rule_view rule)) (schema_refusal (rule_view rule)) (fit_refusal (inferred_schema (rule_view rule)) (rule_view rule)) r is)
isnt_filled values limits ps bytes rule r (rest, made) is (Some schema) =
    unfit (rule_with rest (rule_view rule)) made (first_is (open_refusal (rule_view rule)) None (fit_refusal schema (rule_view rule)) r is)

-- no schema is made of the rule
pub isnt_made : {X Y : Type 0} (values : List Place) (limits : Limits) (ps : List Pipeline) (bytes : List ℕ) (rule : Rule) (P : X → Type 0) (Q : Y → Type 0) (fault : Fault) → IsBare (IsFilledRule values limits ps bytes) rule
    → Judged {X = X} P (schema_refusal (rule_view rule)) (Err fault) → Answers {X = Y} Q (IsUnfit values limits ps None bytes) (Err fault)
isnt_made values limits ps bytes rule P Q Memory is_filled judged = tt
isnt_made values limits ps bytes rule P Q (Refused r) (rest, is_filled) is =
    unfit (rule_with rest (rule_view rule)) is_filled.rule
    (second_is (open_refusal (rule_view rule)) (schema_refusal (rule_view rule)) (fit_refusal (inferred_schema (rule_view rule)) (rule_view rule)) r is_filled.filled is)

-- the rule doesn't fit the given schema
pub isnt_fit : (values : List Place) (limits : Limits) (ps : List Pipeline) (schema : Schema) (bytes : List ℕ) (rule : Rule) (r : Refusal) → IsBare (IsFilledRule values limits ps bytes) rule → fit_refusal schema (rule_view rule) ≡ Some r
    → IsUnfit values limits ps (Some schema) bytes r
isnt_fit values limits ps schema bytes rule r (rest, is_filled) is =
    unfit (rule_with rest (rule_view rule)) is_filled.rule (third_is (open_refusal (rule_view rule)) None (fit_refusal schema (rule_view rule)) r is_filled.filled refl is)

-- or it does
fits_so : (values : List Place) (limits : Limits) (ps : List Pipeline) (schema : Schema) (bytes : List ℕ) (rule : Rule) → IsBare (IsFilledRule values limits ps bytes) rule → fit_refusal schema (rule_view rule) ≡ None
    → IsBare (IsFit values limits ps (Some schema) bytes) rule
fits_so values limits ps schema bytes rule (rest, is_filled) is =
    (rest, record { rule = is_filled.rule; fits = none_is (open_refusal (rule_view rule)) None (fit_refusal schema (rule_view rule)) is_filled.filled refl is })

-- the same of the schema that is made of it
pub isnt_fit_alone : {Y : Type 0} (values : List Place) (limits : Limits) (ps : List Pipeline) (bytes : List ℕ) (rule : Rule) (schema : Schema) (Q : Y → Type 0) (fault : Fault)
    → IsBare (IsFilledRule values limits ps bytes) rule → (schema_refusal (rule_view rule) ≡ None) × (schema ≡ inferred_schema (rule_view rule))
    → Judged {X = Unit {0}} (λ done. Unit {0}) (fit_refusal schema (rule_view rule)) (Err fault) → Answers {X = Y} Q (IsUnfit values limits ps None bytes) (Err fault)
isnt_fit_alone values limits ps bytes rule schema Q Memory is_filled made judged = tt
isnt_fit_alone values limits ps bytes rule schema Q (Refused r) (rest, is_filled) made is =
    unfit (rule_with rest (rule_view rule)) is_filled.rule
    (third_is (open_refusal (rule_view rule)) (schema_refusal (rule_view rule)) (fit_refusal (inferred_schema (rule_view rule)) (rule_view rule)) r is_filled.filled made.0
    (subst (λ (s : Schema). fit_refusal s (rule_view rule) ≡ Some r) made.1 is))

-- the rule fits the schema that is made of it
pub fits_alone : (values : List Place) (limits : Limits) (ps : List Pipeline) (bytes : List ℕ) (rule : Rule) (schema : Schema)
    → IsBare (IsFilledRule values limits ps bytes) rule → (schema_refusal (rule_view rule) ≡ None) × (schema ≡ inferred_schema (rule_view rule))
    → fit_refusal schema (rule_view rule) ≡ None → IsBare (IsFit values limits ps None bytes) rule
fits_alone values limits ps bytes rule schema (rest, is_filled) made fits = (
  rest,
  record {
    rule = is_filled.rule;
    fits = none_is (open_refusal (rule_view rule)) (schema_refusal (rule_view rule)) (fit_refusal (inferred_schema (rule_view rule)) (rule_view rule)) is_filled.filled made.0
        (subst (λ (s : Schema). fit_refusal s (rule_view rule) ≡ None) made.1 fits);
  },
)

-- ---- for places of values

untrue : false ≡ true → ⊥
untrue e = cc

-- where the answer was cut off, there may be none
pub none_are : (limits : Limits) (ps : List Pipeline) (t : Tree) → AreUnbuilt (Makes limits ps) limits t false none_unbuilt
none_are limits ps t = record { values = tt; items = tt; ill = λ e. absurd (untrue e) }

pub none_of_single : (limits : Limits) (ps : List Pipeline) (bytes : List ℕ) → AreOfSingle limits ps bytes false none_unbuilt
none_of_single limits ps bytes = record { tree = λ documents taken. by (single_tree documents); whole = λ p is. refl }
  where
    by : (r : Result Tree Refusal) → AreOfTree limits ps r false none_unbuilt
    by (Ok t) = none_are limits ps t
    by (Err r) = refl

-- what came to its end may also have been cut off
module _ (limits : Limits) (ps : List Pipeline) (ended later : Bool) (so : later ≡ true → ended ≡ true) (unbuilt : Unbuilt) where
  pub unbuilt_later : (t : Tree) → AreUnbuilt (Makes limits ps) limits t ended unbuilt → AreUnbuilt (Makes limits ps) limits t later unbuilt
  unbuilt_later t are = record { values = are.values; items = are.items; ill = λ e. are.ill (so e) }

  tree_later : (r : Result Tree Refusal) → AreOfTree limits ps r ended unbuilt → AreOfTree limits ps r later unbuilt
  tree_later (Ok t) are = unbuilt_later t are
  tree_later (Err r) none = none

  pub single_later : (bytes : List ℕ) → AreOfSingle limits ps bytes ended unbuilt → AreOfSingle limits ps bytes later unbuilt
  single_later bytes are = record { tree = λ documents taken. tree_later (single_tree documents) (are.tree documents taken); whole = are.whole }

-- a document's places are those of the one tree
pub of_documents : (limits : Limits) (documents : List Answer) (t : Tree) (rest : List Member) (before after : List (List ℕ)) (result : Result Rule Fault) → single_tree documents ≡ Ok t
    → ForTree limits t before after (is_answered result) (λ values. Judged (λ r. IsRule t (rule_with rest (rule_view r))) (lone_refusal values limits t) result)
    → ForDocuments limits documents before after (is_answered result) (λ values. Answers (IsBare (IsOnly values limits documents)) (IsNoneOnly values limits documents) result)
of_documents limits documents t rest before after result single h = record {
  values = h.values;
  refused = h.refused;
  follows = h.follows;
  are = subst (λ (r : Result Tree Refusal). AreOfTree limits [] r (is_answered result) (of_values h.values h.refused)) (sym single) h.are;
  says = only_answers h.values limits documents t rest result single h.says;
}

-- there is no tree
pub of_no_tree : (limits : Limits) (documents : List Answer) (texts : List (List ℕ)) (r : Refusal) → single_tree documents ≡ Err r
    → ForDocuments limits documents texts texts true (λ values. Answers {X = Rule} (IsBare (IsOnly values limits documents)) (IsNoneOnly values limits documents) (Err (Refused r)))
of_no_tree limits documents texts r none = record {
  values = [];
  refused = [];
  follows = sym (append-nil texts);
  are = subst (λ (x : Result Tree Refusal). AreOfTree limits [] x true none_unbuilt) (sym none) refl;
  says = no_tree none;
}

module _ (limits : Limits) (bytes : List ℕ) (never : yaml.NeverBoth) where
  -- the documents of a file are these alone
  pub of_file : yaml.OneList → (documents : List Answer) (before after : List (List ℕ)) (result : Result Rule Fault) → AreDocuments limits bytes documents
      → ForDocuments limits documents before after (is_answered result) (λ values. Answers (IsBare (IsOnly values limits documents)) (IsNoneOnly values limits documents) result)
      → ForValues limits bytes before after (is_answered result) (λ values. Answers (IsBare (IsSingleRule values limits bytes)) (IsNoSingleRule values limits bytes) result)
  of_file list documents before after result taken h = record {
    values = h.values;
    refused = h.refused;
    follows = h.follows;
    are = record {
      tree = λ others others_taken. subst (λ (ds : List Answer). AreOfTree limits [] (single_tree ds) (is_answered result) (of_values h.values h.refused))
          (list limits.file_bytes limits.documents limits.yaml_depth bytes documents others taken others_taken) h.are;
      whole = λ p is. absurd (never limits.file_bytes limits.documents limits.yaml_depth bytes documents p taken is);
    };
    says = documents_answer h.values limits bytes documents result taken h.says;
  }

  -- a file that is refused as a whole has no documents
  pub of_no_file : (texts : List (List ℕ)) (fault : Fault) → IfRefused fault (IsCallRefusal limits.file_bytes limits.documents bytes)
      → ForValues limits bytes texts texts (is_answered {X = Rule} (Err fault)) (λ values. Answers {X = Rule} (IsBare (IsSingleRule values limits bytes)) (IsNoSingleRule values limits bytes) (Err fault))
  of_no_file texts Memory is =
      record { values = []; refused = []; follows = sym (append-nil texts); are = none_of_single limits [] bytes; says = tt }
  of_no_file texts (Refused r) is = record {
    values = [];
    refused = [];
    follows = sym (append-nil texts);
    are = record {
      tree = λ documents taken. absurd (never limits.file_bytes limits.documents limits.yaml_depth bytes documents _ taken is.1);
      whole = λ p other. refl;
    };
    says = file_answers [] limits bytes (Refused r) is;
  }

-- a document whose values' places are found is read
pub node_read : (limits : Limits) (t : Tree) (rest : List Member) (values slice : List Place) (before after : List (List ℕ)) (result : Result Rule Fault)
    → FoundUnbuilt (document_expressions limits t) before after (Ok values) → slice ≡ values
    → Judged (λ r. IsRule t (rule_with rest (rule_view r))) (lone_refusal slice limits t) result
    → ForTree limits t before after (is_answered result) (λ values. Judged (λ r. IsRule t (rule_with rest (rule_view r))) (lone_refusal values limits t) result)
node_read limits t rest values slice before after result found same judged = record {
  values = values;
  refused = found.refused;
  follows = found.follows;
  are = record { values = found.finds.0; items = tt; ill = λ _. found.finds.1 };
  says = subst (λ (places : List Place). Judged (λ r. IsRule t (rule_with rest (rule_view r))) (lone_refusal places limits t) result) same judged;
}

-- they aren't found, for want of memory
pub node_unread : (limits : Limits) (t : Tree) (rest : List Member) (before after : List (List ℕ)) (fault : Fault)
    → FoundUnbuilt (document_expressions limits t) before after (Err fault)
    → ForTree limits t before after (is_answered {X = Rule} (Err fault)) (λ values. Judged {X = Rule} (λ r. IsRule t (rule_with rest (rule_view r))) (lone_refusal values limits t) (Err fault))
node_unread limits t rest before after Memory found = record {
  values = found.finds.1;
  refused = found.refused;
  follows = found.follows;
  are = record { values = found.finds.2; items = tt; ill = λ e. absurd (untrue e) };
  says = tt;
}
node_unread limits t rest before after (Refused r) found = absurd (not_memory r found.finds.0)
  where
    not_memory : (r : Refusal) → Refused r ≡ Memory → ⊥
    not_memory r e = cc

module _ (limits : Limits) (bytes : List ℕ) (before after : List (List ℕ)) where
  -- the documents as a slice
  pub of_slice : yaml.NeverBoth → yaml.OneList → (items slice : List Document) (result : Result Rule Fault) → slice ≡ items → AreDocuments limits bytes (answers_view items)
      → ForDocuments limits (answers_view slice) before after (is_answered result)
      (λ values. Answers (IsBare (IsOnly values limits (answers_view slice))) (IsNoneOnly values limits (answers_view slice)) result)
      → ForValues limits bytes before after (is_answered result) (λ values. Answers (IsBare (IsSingleRule values limits bytes)) (IsNoSingleRule values limits bytes) result)
  of_slice never list items slice result same taken h =
      of_file limits bytes never list (answers_view items) before after result taken
      (subst (λ (ds : List Document). ForDocuments limits (answers_view ds) before after (is_answered result)
      (λ values. Answers (IsBare (IsOnly values limits (answers_view ds))) (IsNoneOnly values limits (answers_view ds)) result)) same h)

  -- what is said for such places, of the same places
  with_values : (ended : Bool) (P Q : List Place → Type 0) → ((values : List Place) → P values → Q values)
      → ForValues limits bytes before after ended P → ForValues limits bytes before after ended Q
  with_values ended P Q f h = record { values = h.values; refused = h.refused; follows = h.follows; are = h.are; says = f h.values h.says }

  -- want of memory says nothing
  cut_values : (P Q : List Place → Type 0) → ((values : List Place) → Q values) → ForValues limits bytes before after true P → ForValues limits bytes before after false Q
  cut_values P Q all h = record {
    values = h.values;
    refused = h.refused;
    follows = h.follows;
    are = single_later limits [] true false (λ e. absurd (untrue e)) (of_values h.values h.refused) bytes h.are;
    says = all h.values;
  }

-- what pipelines make of a rule, with the other entries of its head
abbrev pub MadeWith : Limits → List Pipeline → Type 0
MadeWith limits ps = (rest : List Member) (rule made : PlainRule) → Makes limits ps rule made → Makes limits ps (rule_with rest rule) (rule_with rest made)

abbrev pub RefusedWith : Limits → List Pipeline → Type 0
RefusedWith limits ps = (rest : List Member) (rule : PlainRule) (r : Refusal) → run_pipelines limits ps rule ≡ Err r → run_pipelines limits ps (rule_with rest rule) ≡ Err r

module _ (limits : Limits) (ps : List Pipeline) (bytes : List ℕ) (before after : List (List ℕ)) where
  -- the pipelines make a rule of the one that was read, or none
  pub made_single : (rule : Rule) (result : Result Rule Fault) → MadeWith limits ps → RefusedWith limits ps → Gives (run_pipelines limits ps (rule_view rule)) result
      → ForValues limits bytes before after true (λ values. IsBare (IsSingleRule values limits bytes) rule)
      → ForValues limits bytes before after (is_answered result) (λ values. Answers (IsBare (IsMadeRule values limits ps bytes)) (IsNoMadeRule values limits ps bytes) result)
  made_single rule (Ok made) made_with refused_with gives read =
      with_values limits bytes before after true (λ values. IsBare (IsSingleRule values limits bytes) rule) (λ values. IsBare (IsMadeRule values limits ps bytes) made)
      (λ values a. (a.0, record { rule = rule_with a.0 (rule_view rule); single = a.1; makes = made_with a.0 (rule_view rule) (rule_view made) gives })) read
  made_single rule (Err Memory) made_with refused_with gives read = cut_values limits bytes before after (λ values. IsBare (IsSingleRule values limits bytes) rule) (λ values. Unit {0}) (λ values. tt) read
  made_single rule (Err (Refused r)) made_with refused_with gives read =
      with_values limits bytes before after true (λ values. IsBare (IsSingleRule values limits bytes) rule) (λ values. IsNoMadeRule values limits ps bytes r)
      (λ values a. unmade (rule_with a.0 (rule_view rule)) a.1 (refused_with a.0 (rule_view rule) r gives)) read

  -- there is no rule of which they could make one
  pub none_made : (fault : Fault)
      → ForValues limits bytes before after (is_answered {X = Rule} (Err fault)) (λ values. Answers {X = Rule} (IsBare (IsSingleRule values limits bytes)) (IsNoSingleRule values limits bytes) (Err fault))
      → ForValues limits bytes before after (is_answered {X = Rule} (Err fault)) (λ values. Answers {X = Rule} (IsBare (IsMadeRule values limits ps bytes)) (IsNoMadeRule values limits ps bytes) (Err fault))
  none_made Memory h = with_values limits bytes before after false (λ values. Unit {0}) (λ values. Unit {0}) (λ values a. tt) h
  none_made (Refused r) h =
      with_values limits bytes before after true (λ values. IsNoSingleRule values limits bytes r) (λ values. IsNoMadeRule values limits ps bytes r) (λ values a. no_single a) h

  -- no rule was made, so there is none that fits any schema
  pub unfilled_made : {X Y : Type 0} (IsX : List Place → X → Type 0) (IsY : List Place → Y → Type 0) (fault : Fault)
      → ForValues limits bytes before after (is_answered {X = X} (Err fault)) (λ values. Answers {X = X} (IsX values) (IsNoMadeRule values limits ps bytes) (Err fault))
      → ForValues limits bytes before after (is_answered {X = Y} (Err fault))
      (λ values. Answers {X = Y} (IsY values) (λ r. (given : Option Schema) → IsUnfit values limits ps given bytes r) (Err fault))
  unfilled_made {X} {Y} IsX IsY Memory h = with_values limits bytes before after false (λ values. Unit {0}) (λ values. Unit {0}) (λ values a. tt) h
  unfilled_made {X} {Y} IsX IsY (Refused r) h =
      with_values limits bytes before after true (λ values. IsNoMadeRule values limits ps bytes r) (λ values. (given : Option Schema) → IsUnfit values limits ps given bytes r) (λ values a given. no_made a) h

  -- said of one schema
  pub unfit_made_at : {X Y : Type 0} (given : Option Schema) (IsX : List Place → X → Type 0) (IsY : List Place → Y → Type 0) (fault : Fault)
      → ForValues limits bytes before after (is_answered {X = X} (Err fault))
      (λ values. Answers {X = X} (IsX values) (λ r. (other : Option Schema) → IsUnfit values limits ps other bytes r) (Err fault))
      → ForValues limits bytes before after (is_answered {X = Y} (Err fault)) (λ values. Answers {X = Y} (IsY values) (IsUnfit values limits ps given bytes) (Err fault))
  unfit_made_at {X} {Y} given IsX IsY Memory h = with_values limits bytes before after false (λ values. Unit {0}) (λ values. Unit {0}) (λ values a. tt) h
  unfit_made_at {X} {Y} given IsX IsY (Refused r) h =
      with_values limits bytes before after true (λ values. (other : Option Schema) → IsUnfit values limits ps other bytes r) (λ values. IsUnfit values limits ps given bytes r) (λ values a. a given) h

  -- a rule was read, of which a placeholder stands open, or none does
  module _ (rule : Rule) (read : ForValues limits bytes before after true (λ values. IsBare (IsMadeRule values limits ps bytes) rule)) where
    pub stands_open : (r : Refusal) → open_refusal (rule_view rule) ≡ Some r
        → ForValues limits bytes before after true (λ values. (given : Option Schema) → IsUnfit values limits ps given bytes r)
    stands_open r is =
        with_values limits bytes before after true (λ values. IsBare (IsMadeRule values limits ps bytes) rule) (λ values. (given : Option Schema) → IsUnfit values limits ps given bytes r)
        (λ values a. isnt_filled values limits ps bytes rule r a is) read

    pub stands_filled : open_refusal (rule_view rule) ≡ None → ForValues limits bytes before after true (λ values. IsBare (IsFilledRule values limits ps bytes) rule)
    stands_filled is =
        with_values limits bytes before after true (λ values. IsBare (IsMadeRule values limits ps bytes) rule) (λ values. IsBare (IsFilledRule values limits ps bytes) rule)
        (λ values a. (a.0, record { rule = a.1; filled = is })) read

  module _ (rule : Rule) (read : ForValues limits bytes before after true (λ values. IsBare (IsFilledRule values limits ps bytes) rule)) where
    -- the rule doesn't fit the given schema, or it does
    pub unfit_given : (schema : Schema) (r : Refusal) → fit_refusal schema (rule_view rule) ≡ Some r → ForValues limits bytes before after true (λ values. IsUnfit values limits ps (Some schema) bytes r)
    unfit_given schema r is =
        with_values limits bytes before after true (λ values. IsBare (IsFilledRule values limits ps bytes) rule) (λ values. IsUnfit values limits ps (Some schema) bytes r) (λ values a. isnt_fit values limits ps schema bytes rule r a is) read

    pub fits_given : (schema : Schema) → fit_refusal schema (rule_view rule) ≡ None → ForValues limits bytes before after true (λ values. IsBare (IsFit values limits ps (Some schema) bytes) rule)
    fits_given schema is =
        with_values limits bytes before after true (λ values. IsBare (IsFilledRule values limits ps bytes) rule) (λ values. IsBare (IsFit values limits ps (Some schema) bytes) rule)
        (λ values a. fits_so values limits ps schema bytes rule a is) read

    -- want of memory says nothing
    unended : (P : List Place → Type 0) → ((values : List Place) → P values) → ForValues limits bytes before after false P
    unended P all = cut_values limits bytes before after (λ values. IsBare (IsFilledRule values limits ps bytes) rule) P all read

    -- no schema is made of it
    pub unschemed : {X Y : Type 0} (P : X → Type 0) (Q : List Place → Y → Type 0) (fault : Fault) → Judged {X = X} P (schema_refusal (rule_view rule)) (Err fault)
        → ForValues limits bytes before after (is_answered {X = Y} (Err fault)) (λ values. Answers {X = Y} (Q values) (IsUnfit values limits ps None bytes) (Err fault))
    unschemed {X} {Y} P Q Memory judged = unended (λ values. Unit {0}) (λ values. tt)
    unschemed {X} {Y} P Q (Refused r) judged =
        with_values limits bytes before after true (λ values. IsBare (IsFilledRule values limits ps bytes) rule) (λ values. IsUnfit values limits ps None bytes r)
        (λ values a. isnt_made values limits ps bytes rule P (Q values) (Refused r) a judged) read

    -- it doesn't fit the schema that is made of it, or it does
    pub unfit_made : {Y : Type 0} (schema : Schema) (Q : List Place → Y → Type 0) (fault : Fault) → (schema_refusal (rule_view rule) ≡ None) × (schema ≡ inferred_schema (rule_view rule))
        → Judged {X = Unit {0}} (λ done. Unit {0}) (fit_refusal schema (rule_view rule)) (Err fault)
        → ForValues limits bytes before after (is_answered {X = Y} (Err fault)) (λ values. Answers {X = Y} (Q values) (IsUnfit values limits ps None bytes) (Err fault))
    unfit_made {Y} schema Q Memory made judged = unended (λ values. Unit {0}) (λ values. tt)
    unfit_made {Y} schema Q (Refused r) made judged =
        with_values limits bytes before after true (λ values. IsBare (IsFilledRule values limits ps bytes) rule) (λ values. IsUnfit values limits ps None bytes r)
        (λ values a. isnt_fit_alone values limits ps bytes rule schema (Q values) (Refused r) a made judged) read

    pub fits_made : (schema : Schema) → (schema_refusal (rule_view rule) ≡ None) × (schema ≡ inferred_schema (rule_view rule)) → fit_refusal schema (rule_view rule) ≡ None
        → ForValues limits bytes before after true (λ values. IsBare (IsFit values limits ps None bytes) rule × (schema ≡ inferred_schema (rule_view rule)))
    fits_made schema made fits =
        with_values limits bytes before after true (λ values. IsBare (IsFilledRule values limits ps bytes) rule) (λ values. IsBare (IsFit values limits ps None bytes) rule × (schema ≡ inferred_schema (rule_view rule)))
        (λ values a. (fits_alone values limits ps bytes rule schema a made fits, made.1)) read
