-- The file that these documents are of.
use Rattle.std.proofs.Common.{◌≡◌, ℕ, ◌≤◌, false, List, [], ◌∷◌, length, refl, ap, sym, ◌∙◌, subst, arith, append-nil, Result, Ok, Err, IfOk}
use Rattle.std.specs.List.{AllZip}
use Rattle.event_schema.specs.Lists.{EachOf}
use Rattle.event_schema.specs.declared.schema.Schema.{Schema}
use Rattle.pipeline_files.specs.Paired.{paired}
use Rattle.pipeline_model.specs.declared.pipeline.Pipeline.{Pipeline}
use Rattle.rule_regex.specs.ForUnbuilt.{is_answered}
use Rattle.rule_regex.specs.Unbuilt.{Unbuilt, none_unbuilt}
use Rattle.rule_run.specs.Files.{yaml_refusal}
use Rattle.rule_run.specs.Runs.{AreDocuments}
use Rattle.sig_base.specs.declared.limits.Limits.{Limits}
use Rattle.sig_base.specs.declared.refusal.Detail.TheVariants as details
use Rattle.sig_base.specs.declared.refusal.Fault.{Fault}
use Rattle.sig_base.specs.declared.refusal.Fault.TheVariants as faults
use Rattle.sig_base.specs.declared.refusal.Refusal.{Refusal}
use Rattle.yaml_documents.specs.Given.{answers_view}
use Rattle.yaml_documents.specs.Verdicts as yaml
use Rattle.yaml_documents.specs.Call.{IsCallRefusal}
use Rattle.yaml_tree.specs.Tree.{At, Answer}
use Rattle.yaml_tree.specs.View.{place_view}
use Rattle.yaml_tree.specs.declared.tree.Document.{Document}
use Rattle.correlation_files.proofs.Gathering.{none_reached}
use Rattle.correlation_files.proofs.Growing.{grows_none}
use Rattle.correlation_files.proofs.Placed.{firsts, paired_of, no_more, beside_paired}
use Rattle.correlation_files.specs.Found.{Grows}
use Rattle.correlation_files.specs.Outcomes.{Outcome, Refuses, IsOutcome, AreOutcomes, as_one, by_document, refusals_in}
use Rattle.correlation_files.specs.Places.{AreOfDocument, ForFile}
use Rattle.correlation_files.specs.Read.{ForDocuments, AreRead}
use Rattle.correlation_files.specs.declared.found.Found.{Found}

no_detail : (r : Refusal) → r.detail ≡ details.None → r ≡ yaml_refusal (r.code, place_view r.place)
no_detail r plain = ap (λ d. record { code = r.code; place = r.place; detail = d }) plain

module _ (limits : Limits) (ps : List Pipeline) (schema : Schema) (file : List ℕ) (bytes : List ℕ) (old new : Found) where
  abbrev pub Said : Result (List Refusal) Fault → List Unbuilt → Type 0
  Said result unbuilt = IfOk result (λ refusals. (outcomes : List Outcome) × AreOutcomes limits ps schema unbuilt bytes outcomes × (refusals ≡ refusals_in outcomes) × Grows schema file outcomes old new)

  abbrev pub IsWhole : ℕ × At → Type 0
  IsWhole y = IsCallRefusal limits.file_bytes limits.documents bytes y

  abbrev Read : Result (List Refusal) Fault → List (Unbuilt × Answer) → Type 0
  Read result placed = IfOk result (λ refusals. AreRead limits ps schema file placed refusals old new)

  said_of : (placed : List (Unbuilt × Answer)) (documents : List Answer) (result : Result (List Refusal) Fault) → AreDocuments limits bytes documents → paired none_unbuilt (firsts placed) documents ≡ placed
      → Read result placed → Said result (firsts placed)
  said_of placed documents (Ok refusals) taken same read = (
    read.outcomes,
    by_document documents taken (subst (λ (l : List (Unbuilt × Answer)). AllZip (IsOutcome limits ps schema) l read.outcomes) (sym same) read.each),
    read.refused,
    read.grows,
  )
  said_of placed documents (Err e) taken same read = tt

  module _ (never : yaml.NeverBoth) where
    -- the documents of a file are these alone
    file_read : yaml.OneList → (documents : List Answer) (before after : List (List ℕ)) (result : Result (List Refusal) Fault) → AreDocuments limits bytes documents
        → ForDocuments limits ps documents before after (is_answered result) (Read result) → ForFile limits ps bytes before after (is_answered result) (Said result)
    file_read list documents before after result taken so =
        let same : paired none_unbuilt (firsts so.placed) documents ≡ so.placed = paired_of none_unbuilt so.placed documents so.of in
        record {
          unbuilt = firsts so.placed;
          follows = so.follows;
          are = record {
            each = λ others taken_too. subst (λ (ds : List Answer). EachOf (AreOfDocument limits ps (is_answered result)) (paired none_unbuilt (firsts so.placed) ds) × (length (firsts so.placed) ≤ length ds))
                (list limits.file_bytes limits.documents limits.yaml_depth bytes documents others taken taken_too)
                (subst (EachOf (AreOfDocument limits ps (is_answered result))) (sym same) so.are, no_more so.placed documents so.of);
            whole = λ y is. absurd (never limits.file_bytes limits.documents limits.yaml_depth bytes documents y taken is);
          };
          says = said_of so.placed documents result taken same so.says;
        }

    pub slice_read : yaml.OneList → (items slice : List Document) (before after : List (List ℕ)) (result : Result (List Refusal) Fault) → slice ≡ items → AreDocuments limits bytes (answers_view items)
        → ForDocuments limits ps (answers_view slice) before after (is_answered result) (Read result) → ForFile limits ps bytes before after (is_answered result) (Said result)
    slice_read list items slice before after result same taken so =
        file_read list (answers_view items) before after result taken
        (subst (λ (ds : List Document). ForDocuments limits ps (answers_view ds) before after (is_answered result) (Read result)) same so)

    -- nothing was read, for want of memory
    pub file_unread : (texts : List (List ℕ)) → ForFile limits ps bytes texts texts false (Said (Err faults.Memory))
    file_unread texts = record {
      unbuilt = [];
      follows = sym (append-nil texts);
      are = record {
        each = λ documents taken. (subst (EachOf (AreOfDocument limits ps false)) (beside_paired none_unbuilt documents) (none_reached limits ps documents), omega arith);
        whole = λ y is. refl;
      };
      says = tt;
    }

-- the file is refused as a whole
module _ (limits : Limits) (ps : List Pipeline) (schema : Schema) (file : List ℕ) (bytes : List ℕ) (found : Found) (r : Refusal)
    (is : (r.detail ≡ details.None) × IsWhole limits ps schema file bytes found found (r.code, place_view r.place)) where
  refused_says : (result : Result (List Refusal) Fault) → IfOk result (λ refusals. refusals ≡ r ∷ []) → Said limits ps schema file bytes found found result []
  refused_says (Ok refusals) one = (
    Refuses (yaml_refusal (r.code, place_view r.place)) ∷ [],
    as_one (r.code, place_view r.place) is.1 refl,
    one ∙ ap (λ (x : Refusal). x ∷ []) (no_detail r is.0),
    grows_none schema file found,
  )
  refused_says (Err e) one = tt

  pub file_refused : yaml.NeverBoth → (texts : List (List ℕ)) (result : Result (List Refusal) Fault) → IfOk result (λ refusals. refusals ≡ r ∷ [])
      → ForFile limits ps bytes texts texts (is_answered result) (Said limits ps schema file bytes found found result)
  file_refused never texts result one = record {
    unbuilt = [];
    follows = sym (append-nil texts);
    are = record {
      each = λ documents taken. absurd (never limits.file_bytes limits.documents limits.yaml_depth bytes documents (r.code, place_view r.place) taken is.1);
      whole = λ y too. refl;
    };
    says = refused_says result one;
  }
