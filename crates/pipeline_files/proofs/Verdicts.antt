-- That each file is pipelines or refused, in one way.
use Rattle.std.proofs.Common.{◌≡◌, ℕ, List, [], ◌∷◌, refl, ap, sym, ◌∙◌, subst, inl, inr, Option, Some, None, Ok, Err}
use Rattle.std.specs.Prelude.{◌⊎◌}
use Rattle.std.specs.List.{AllZip, AllByRecursion}
use Rattle.event_schema.specs.Lists.{EachOf, HasElement}
use Rattle.rule_regex.specs.Unbuilt.{Unbuilt, none_unbuilt}
use Rattle.rule_run.specs.Files.{yaml_refusal}
use Rattle.sig_base.specs.declared.limits.Limits.{Limits}
use Rattle.sig_base.specs.declared.refusal.Place.{Place}
use Rattle.sig_base.specs.declared.refusal.Refusal.{Refusal}
use Rattle.yaml_documents.specs.Bounds.{TextsAreScalars}
use Rattle.yaml_documents.specs.Verdicts as yaml
use Rattle.yaml_documents.specs.Call.{IsCallRefusal, IsTaken}
use Rattle.yaml_tree.specs.Texts.{HasScalarTexts, AnswerHas}
use Rattle.yaml_tree.specs.Tree.{At, Tree, Answer, tree, refusal}
use Rattle.pipeline_run.specs.Kept.{IsWholePipeline}
use Rattle.pipeline_model.specs.Checks.{pipeline_refusal}
use Rattle.pipeline_model.specs.Pipelines.{IsPipeline}
use Rattle.pipeline_model.specs.declared.pipeline.Pipeline.{Pipeline}
use Rattle.pipeline_files.proofs.Placed.{seconds, paired_seconds}
use Rattle.pipeline_files.specs.Laws.{EachFile, NeverBoth, OnePipelines, OneCauses, AreWhole}
use Rattle.pipeline_files.specs.Outcomes.{Outcome, IsOutcome, AreOutcomes, pipelines_in, refusals_in, ArePipelines, AreCauses, as_one, by_document}
use Rattle.pipeline_files.specs.Paired.{paired}

abbrev EachPipeline : Type 0
EachPipeline = (unbuilt : List Place) (limits : Limits) (t : Tree) → pipeline_refusal unbuilt limits t ≡ None → (p : Pipeline) × IsPipeline t p

abbrev OnePipeline : Type 0
OnePipeline = (t : Tree) (p q : Pipeline) → IsPipeline t p → IsPipeline t q → p ≡ q

abbrev WholePipeline : Type 0
WholePipeline = (unbuilt : List Place) (limits : Limits) (t : Tree) (p : Pipeline) → pipeline_refusal unbuilt limits t ≡ None → HasScalarTexts t → IsPipeline t p → IsWholePipeline p

not_both : (o : Option Refusal) (r : Refusal) → o ≡ None → o ≡ Some r → ⊥
not_both o r is too = cc

some_same : (o : Option Refusal) (r s : Refusal) → o ≡ Some r → o ≡ Some s → r ≡ s
some_same o r s is too = cc

-- ---- a document

one_outcome : OnePipeline → (unbuilt : List Place) (limits : Limits) (d : Answer) (a b : Outcome) → IsOutcome unbuilt limits d a → IsOutcome unbuilt limits d b → a ≡ b
one_outcome one unbuilt limits (tree t) (Ok p) (Ok q) is too = ap (λ (x : Pipeline). made x) (one t p q is.is too.is)
  where
    made : Pipeline → Outcome
    made x = Ok x
one_outcome one unbuilt limits (tree t) (Ok p) (Err r) is too = absurd (not_both (pipeline_refusal unbuilt limits t) r is.taken too)
one_outcome one unbuilt limits (tree t) (Err r) (Ok p) is too = absurd (not_both (pipeline_refusal unbuilt limits t) r too.taken is)
one_outcome one unbuilt limits (tree t) (Err r) (Err s) is too = ap (λ (x : Refusal). refused x) (some_same (pipeline_refusal unbuilt limits t) r s is too)
  where
    refused : Refusal → Outcome
    refused x = Err x
one_outcome one unbuilt limits (refusal y) (Ok p) b is too = absurd is
one_outcome one unbuilt limits (refusal y) (Err r) (Ok p) is too = absurd too
one_outcome one unbuilt limits (refusal y) (Err r) (Err s) is too = ap (λ (x : Refusal). refused x) (is ∙ sym too)
  where
    refused : Refusal → Outcome
    refused x = Err x

each_outcome : EachPipeline → (unbuilt : List Place) (limits : Limits) (d : Answer) → (outcome : Outcome) × IsOutcome unbuilt limits d outcome
each_outcome each unbuilt limits (tree t) = by (pipeline_refusal unbuilt limits t) refl
  where
    by : (o : Option Refusal) → pipeline_refusal unbuilt limits t ≡ o → (outcome : Outcome) × IsOutcome unbuilt limits (tree t) outcome
    by None is = let found = each unbuilt limits t is in (Ok found.0, record { taken = is; is = found.1 })
    by (Some r) is = (Err r, is)
each_outcome each unbuilt limits (refusal y) = (Err (yaml_refusal y), refl)

-- ---- documents with their places beside them

module _ (limits : Limits) where
  abbrev IsOf : Unbuilt × Answer → Outcome → Type 0
  IsOf d outcome = IsOutcome d.0.values limits d.1 outcome

  one_list : OnePipeline → (ds : List (Unbuilt × Answer)) (xs ys : List Outcome) → AllZip IsOf ds xs → AllZip IsOf ds ys → xs ≡ ys
  one_list one [] [] [] is too = refl
  one_list one [] [] (b ∷ ys) is too = absurd too
  one_list one [] (a ∷ xs) ys is too = absurd is
  one_list one (d ∷ ds) [] ys is too = absurd is
  one_list one (d ∷ ds) (a ∷ xs) [] is too = absurd too
  one_list one (d ∷ ds) (a ∷ xs) (b ∷ ys) is too =
      ap (λ (x : Outcome). x ∷ xs) (one_outcome one d.0.values limits d.1 a b is.0 too.0) ∙ ap (λ (l : List Outcome). b ∷ l) (one_list one ds xs ys is.1 too.1)

  each_list : EachPipeline → (ds : List (Unbuilt × Answer)) → (outcomes : List Outcome) × AllZip IsOf ds outcomes
  each_list each [] = ([], tt)
  each_list each (d ∷ ds) =
      let first = each_outcome each d.0.values limits d.1 in
      let behind = each_list each ds in
      (first.0 ∷ behind.0, (first.1, behind.1))

  one_pipeline_of : OnePipeline → (us vs : List Place) (d e : Answer) (p q : Pipeline) → d ≡ e → IsOutcome us limits d (Ok p) → IsOutcome vs limits e (Ok q) → p ≡ q
  one_pipeline_of one us vs d e p q same is too = by e q (subst (λ (x : Answer). IsOutcome us limits x (Ok p)) same is) too
    where
      by : (x : Answer) (q : Pipeline) → IsOutcome us limits x (Ok p) → IsOutcome vs limits x (Ok q) → p ≡ q
      by (tree t) q a b = one t p q a.is b.is
      by (refusal y) q a b = absurd a

  -- where nothing is refused, the pipelines are the same wherever regular expressions aren't built
  same_pipelines : OnePipeline → (ds es : List (Unbuilt × Answer)) (xs ys : List Outcome) → seconds ds ≡ seconds es → AllZip IsOf ds xs → AllZip IsOf es ys
      → refusals_in xs ≡ [] → refusals_in ys ≡ [] → pipelines_in xs ≡ pipelines_in ys
  same_pipelines one [] [] [] [] same is too none nor = refl
  same_pipelines one [] [] [] (y ∷ ys) same is too none nor = absurd too
  same_pipelines one [] [] (x ∷ xs) ys same is too none nor = absurd is
  same_pipelines one [] (e ∷ es) xs ys same is too none nor = absurd cc
  same_pipelines one (d ∷ ds) [] xs ys same is too none nor = absurd cc
  same_pipelines one (d ∷ ds) (e ∷ es) [] ys same is too none nor = absurd is
  same_pipelines one (d ∷ ds) (e ∷ es) (x ∷ xs) [] same is too none nor = absurd too
  same_pipelines one (d ∷ ds) (e ∷ es) (Err r ∷ xs) (y ∷ ys) same is too none nor = absurd cc
  same_pipelines one (d ∷ ds) (e ∷ es) (Ok p ∷ xs) (Err r ∷ ys) same is too none nor = absurd cc
  same_pipelines one (d ∷ ds) (e ∷ es) (Ok p ∷ xs) (Ok q ∷ ys) same is too none nor =
      let here : d.1 ≡ e.1 = cc in
      let behind : seconds ds ≡ seconds es = cc in
      ap (λ (x : Pipeline). x ∷ pipelines_in xs) (one_pipeline_of one d.0.values e.0.values d.1 e.1 p q here is.0 too.0)
      ∙ ap (λ (l : List Pipeline). q ∷ l) (same_pipelines one ds es xs ys behind is.1 too.1 none nor)

-- ---- the file

-- of one file the outcomes are the same
same_outcomes : OnePipeline → yaml.OneList → (unbuilt : List Unbuilt) (limits : Limits) (bytes : List ℕ) (xs ys : List Outcome)
    → AreOutcomes unbuilt limits bytes xs → AreOutcomes unbuilt limits bytes ys → xs ≡ ys
same_outcomes one list unbuilt limits bytes xs ys a b =
    one_list limits one (paired none_unbuilt unbuilt b.documents) xs ys
    (subst (λ (ds : List Answer). AllZip (IsOf limits) (paired none_unbuilt unbuilt ds) xs)
    (list limits.file_bytes limits.documents limits.yaml_depth bytes a.documents b.documents a.taken b.taken) a.each) b.each

has_none : (rs : List Refusal) → HasElement rs → rs ≡ [] → ⊥
has_none [] some is = some
has_none (r ∷ rs) some is = cc

pub each_file : EachPipeline → yaml.EachVerdict → EachFile
each_file each read unbuilt limits bytes = by (read limits.file_bytes limits.documents limits.yaml_depth bytes)
  where
    judged : (outcomes : List Outcome) → AreOutcomes unbuilt limits bytes outcomes → (rs : List Refusal) → refusals_in outcomes ≡ rs
        → ((ps : List Pipeline) × ArePipelines unbuilt limits bytes ps) ⊎ ((causes : List Refusal) × AreCauses unbuilt limits bytes causes)
    judged outcomes are [] none = inl (pipelines_in outcomes, record { outcomes = outcomes; read = are; none = none; are = refl })
    judged outcomes are (r ∷ rs) is = inr (r ∷ rs, by_document outcomes are (sym is) tt)

    by : ((given : List Answer) × IsTaken limits.file_bytes limits.documents limits.yaml_depth bytes given) ⊎ ((y : ℕ × At) × IsCallRefusal limits.file_bytes limits.documents bytes y)
        → ((ps : List Pipeline) × ArePipelines unbuilt limits bytes ps) ⊎ ((causes : List Refusal) × AreCauses unbuilt limits bytes causes)
    by (inl (documents, taken)) =
        let all = each_list limits each (paired none_unbuilt unbuilt documents) in
        judged all.0 (record { documents = documents; taken = taken; each = all.1 }) (refusals_in all.0) refl
    by (inr (y, is)) = inr (yaml_refusal y ∷ [], as_one y is refl)

pub never_both : OnePipeline → yaml.NeverBoth → yaml.OneList → NeverBoth
never_both one never list unbuilt limits bytes ps causes are (as_one y whole is) =
    never limits.file_bytes limits.documents limits.yaml_depth bytes are.read.documents y are.read.taken whole
never_both one never list unbuilt limits bytes ps causes are (by_document outcomes read is some) =
    has_none causes some (is ∙ (ap refusals_in (same_outcomes one list unbuilt limits bytes outcomes are.outcomes read are.read) ∙ are.none))

pub one_pipelines : OnePipeline → yaml.OneList → OnePipelines
one_pipelines one list us vs limits bytes ps qs a b =
    a.are ∙ (same_pipelines limits one (paired none_unbuilt us a.read.documents) (paired none_unbuilt vs b.read.documents) a.outcomes b.outcomes
    (paired_seconds none_unbuilt us a.read.documents
    ∙ (list limits.file_bytes limits.documents limits.yaml_depth bytes a.read.documents b.read.documents a.read.taken b.read.taken ∙ sym (paired_seconds none_unbuilt vs b.read.documents)))
    a.read.each b.read.each a.none b.none ∙ sym b.are)

pub one_causes : OnePipeline → yaml.NeverBoth → yaml.OneList → yaml.OneRefusal → OneCauses
one_causes one never list cause unbuilt limits bytes a b (as_one y whole is) (as_one z whole_too too) =
    is ∙ (ap (λ (x : ℕ × At). yaml_refusal x ∷ []) (cause limits.file_bytes limits.documents bytes y z whole whole_too) ∙ sym too)
one_causes one never list cause unbuilt limits bytes a b (as_one y whole is) (by_document outcomes read too some) =
    absurd (never limits.file_bytes limits.documents limits.yaml_depth bytes read.documents y read.taken whole)
one_causes one never list cause unbuilt limits bytes a b (by_document outcomes read is some) (as_one y whole too) =
    absurd (never limits.file_bytes limits.documents limits.yaml_depth bytes read.documents y read.taken whole)
one_causes one never list cause unbuilt limits bytes a b (by_document outcomes read is some) (by_document others read_too too some_too) =
    is ∙ (ap refusals_in (same_outcomes one list unbuilt limits bytes outcomes others read read_too) ∙ sym too)

-- ---- whole pipelines

module _ (whole : WholePipeline) (limits : Limits) where
  one_whole : (unbuilt : List Place) (d : Answer) (p : Pipeline) → AnswerHas d → IsOutcome unbuilt limits d (Ok p) → IsWholePipeline p
  one_whole unbuilt (tree t) p texts is = whole unbuilt limits t p is.taken texts is.is
  one_whole unbuilt (refusal y) p texts is = absurd is

  each_whole : (placed : List (Unbuilt × Answer)) (outcomes : List Outcome) → AllByRecursion AnswerHas (seconds placed) → AllZip (IsOf limits) placed outcomes
      → EachOf IsWholePipeline (pipelines_in outcomes)
  each_whole [] [] texts each = tt
  each_whole [] (o ∷ outcomes) texts each = absurd each
  each_whole (d ∷ placed) [] texts each = absurd each
  each_whole (d ∷ placed) (Ok p ∷ outcomes) texts each = (one_whole d.0.values d.1 p texts.0 each.0, each_whole placed outcomes texts.1 each.1)
  each_whole (d ∷ placed) (Err r ∷ outcomes) texts each = each_whole placed outcomes texts.1 each.1

pub are_whole : WholePipeline → TextsAreScalars → AreWhole
are_whole whole texts unbuilt limits bytes ps are =
    subst (EachOf IsWholePipeline) (sym are.are)
    (each_whole whole limits (paired none_unbuilt unbuilt are.read.documents) are.outcomes
    (subst (AllByRecursion AnswerHas) (sym (paired_seconds none_unbuilt unbuilt are.read.documents))
    (texts limits.file_bytes limits.documents limits.yaml_depth bytes are.read.documents are.read.taken)) are.read.each)
