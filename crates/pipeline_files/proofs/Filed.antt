-- The file that these documents are of.
use Rattle.std.proofs.Common.{◌≡◌, ℕ, ◌≤◌, false, List, [], ◌∷◌, length, refl, ap, sym, ◌∙◌, subst, arith, append-nil, Result, Ok, Err}
use Rattle.std.specs.List.{AllZip}
use Rattle.event_schema.specs.Lists.{EachOf}
use Rattle.rule_regex.specs.Unbuilt.{Unbuilt, none_unbuilt}
use Rattle.rule_run.specs.Files.{yaml_refusal}
use Rattle.rule_run.specs.Runs.{AreDocuments}
use Rattle.sig_base.specs.declared.limits.Limits.{Limits}
use Rattle.sig_base.specs.declared.refusal.Detail.TheVariants as details
use Rattle.sig_base.specs.declared.refusal.Refusal.{Refusal}
use Rattle.yaml_documents.specs.Given.{answers_view}
use Rattle.yaml_documents.specs.Verdicts as yaml
use Rattle.yaml_documents.specs.Call.{IsCallRefusal}
use Rattle.yaml_tree.specs.Tree.{At, Answer}
use Rattle.yaml_tree.specs.View.{place_view}
use Rattle.yaml_tree.specs.declared.tree.Document.{Document}
use Rattle.pipeline_model.specs.declared.pipeline.Pipeline.{Pipeline}
use Rattle.pipeline_files.proofs.Gathering.{none_reached}
use Rattle.pipeline_files.proofs.Placed.{firsts, paired_of, no_more, beside_paired}
use Rattle.pipeline_files.specs.Gathered.{ForDocuments, AreAnswered, IsOneCause}
use Rattle.pipeline_files.specs.Outcomes.{Outcome, IsOutcome, AreOutcomes, ArePipelines, AreCauses, as_one, by_document}
use Rattle.pipeline_files.specs.Paired.{paired}
use Rattle.pipeline_files.specs.Places.{AreOfDocument, ForPipelines}
use Rattle.pipeline_files.specs.Read.{Answers, is_answered}
use Rattle.pipeline_files.specs.declared.files.FileFault.{FileFault}
use Rattle.pipeline_files.specs.declared.files.FileFault.TheVariants.{Memory, Refused}

no_detail : (r : Refusal) → r.detail ≡ details.None → r ≡ yaml_refusal (r.code, place_view r.place)
no_detail r plain = ap (λ d. record { code = r.code; place = r.place; detail = d }) plain

module _ (limits : Limits) (bytes : List ℕ) where
  abbrev pub Said : Result (List Pipeline) FileFault → List Unbuilt → Type 0
  Said result unbuilt = Answers (ArePipelines unbuilt limits bytes) (AreCauses unbuilt limits bytes) result

  abbrev pub IsWhole : ℕ × At → Type 0
  IsWhole y = IsCallRefusal limits.file_bytes limits.documents bytes y

  -- what is gathered of a file's documents are its outcomes
  outcomes_of : (placed : List (Unbuilt × Answer)) (documents : List Answer) (outcomes : List Outcome) → AreDocuments limits bytes documents → paired none_unbuilt (firsts placed) documents ≡ placed
      → AllZip (λ d outcome. IsOutcome d.0.values limits d.1 outcome) placed outcomes → AreOutcomes (firsts placed) limits bytes outcomes
  outcomes_of placed documents outcomes taken same each = record {
    documents = documents;
    taken = taken;
    each = subst (λ (l : List (Unbuilt × Answer)). AllZip (λ d outcome. IsOutcome d.0.values limits d.1 outcome) l outcomes) (sym same) each;
  }

  said_of : (placed : List (Unbuilt × Answer)) (documents : List Answer) (result : Result (List Pipeline) FileFault) → AreDocuments limits bytes documents → paired none_unbuilt (firsts placed) documents ≡ placed
      → AreAnswered limits placed result → Said result (firsts placed)
  said_of placed documents (Ok ps) taken same all =
      record { outcomes = all.outcomes; read = outcomes_of placed documents all.outcomes taken same all.each; none = sym all.are_refusals; are = all.are_pipelines }
  said_of placed documents (Err (Refused causes)) taken same (some, ps, all) =
      by_document all.outcomes (outcomes_of placed documents all.outcomes taken same all.each) all.are_refusals some
  said_of placed documents (Err Memory) taken same all = tt

  module _ (never : yaml.NeverBoth) where
    -- the documents of a file are these alone
    file_read : yaml.OneList → (documents : List Answer) (before after : List (List ℕ)) (result : Result (List Pipeline) FileFault) → AreDocuments limits bytes documents
        → ForDocuments limits documents before after (is_answered result) (λ placed. AreAnswered limits placed result)
        → ForPipelines limits bytes before after (is_answered result) (Said result)
    file_read list documents before after result taken so =
        let same : paired none_unbuilt (firsts so.placed) documents ≡ so.placed = paired_of none_unbuilt so.placed documents so.of in
        record {
          unbuilt = firsts so.placed;
          follows = so.follows;
          are = record {
            each = λ others taken_too. subst (λ (ds : List Answer). EachOf (AreOfDocument limits (is_answered result)) (paired none_unbuilt (firsts so.placed) ds) × (length (firsts so.placed) ≤ length ds))
                (list limits.file_bytes limits.documents limits.yaml_depth bytes documents others taken taken_too)
                (subst (EachOf (AreOfDocument limits (is_answered result))) (sym same) so.are, no_more so.placed documents so.of);
            whole = λ y is. absurd (never limits.file_bytes limits.documents limits.yaml_depth bytes documents y taken is);
          };
          says = said_of so.placed documents result taken same so.says;
        }

    pub slice_read : yaml.OneList → (items slice : List Document) (before after : List (List ℕ)) (result : Result (List Pipeline) FileFault) → slice ≡ items → AreDocuments limits bytes (answers_view items)
        → ForDocuments limits (answers_view slice) before after (is_answered result) (λ placed. AreAnswered limits placed result)
        → ForPipelines limits bytes before after (is_answered result) (Said result)
    slice_read list items slice before after result same taken so =
        file_read list (answers_view items) before after result taken
        (subst (λ (ds : List Document). ForDocuments limits (answers_view ds) before after (is_answered result) (λ placed. AreAnswered limits placed result)) same so)

    -- nothing was read, for want of memory
    pub file_unread : (texts : List (List ℕ)) → ForPipelines limits bytes texts texts false (Said (Err Memory))
    file_unread texts = record {
      unbuilt = [];
      follows = sym (append-nil texts);
      are = record {
        each = λ documents taken. (subst (EachOf (AreOfDocument limits false)) (beside_paired none_unbuilt documents) (none_reached limits documents), omega arith);
        whole = λ y is. refl;
      };
      says = tt;
    }

    -- the file is refused as a whole
    pub file_refused : (texts : List (List ℕ)) (r : Refusal) (fault : FileFault) → (r.detail ≡ details.None) × IsWhole (r.code, place_view r.place) → IsOneCause r fault
        → ForPipelines limits bytes texts texts (is_answered (Err fault)) (Said (Err fault))
    file_refused texts r Memory (plain, is) one = file_unread texts
    file_refused texts r (Refused causes) (plain, is) one = record {
      unbuilt = [];
      follows = sym (append-nil texts);
      are = record {
        each = λ documents taken. absurd (never limits.file_bytes limits.documents limits.yaml_depth bytes documents (r.code, place_view r.place) taken is);
        whole = λ y too. refl;
      };
      says = as_one (r.code, place_view r.place) is (one ∙ ap (λ (x : Refusal). x ∷ []) (no_detail r plain));
    }
