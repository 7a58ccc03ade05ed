-- What a file of rules is answered, document by document.
use Rattle.std.specs.Prelude.{◌≡◌, ◌≤◌, ℕ, Bool, List, [], ◌++◌, length, map, Some, unwrap_or}
use Rattle.std.specs.List.{flat_map}
use Rattle.answer_writer.specs.Each.{AllShares, EachPart}
use Rattle.answer_writer.specs.Input.{World, File}
use Rattle.answer_writer.specs.Parts.{Share, Part}
use Rattle.correlation_files.specs.Places.{AreOfDocument, AreOfFile}
use Rattle.event_schema.specs.Lists.{EachOf}
use Rattle.pipeline_run.specs.Chained.{Makes}
use Rattle.pipeline_files.specs.Paired.{paired}
use Rattle.pipeline_files.specs.Places.{file_texts}
use Rattle.pipeline_model.specs.declared.pipeline.Pipeline.{Pipeline}
use Rattle.rule_regex.specs.ForUnbuilt.{ForUnbuilt}
use Rattle.rule_regex.specs.Unbuilt.{Unbuilt, none_unbuilt}
use Rattle.sig_base.specs.Files.{file_at}
use Rattle.sig_base.specs.declared.limits.Limits.{Limits}
use Rattle.rule_run.specs.Files.{yaml_refusal}
use Rattle.sigma_serve.specs.Reports.{refusal_share}
use Rattle.yaml_documents.specs.Call.{IsCallRefusal, IsTaken}
use Rattle.yaml_tree.specs.Tree.{At, Tree, Answer, tree, refusal}

-- what a command answers a document's tree, in a file of this name
abbrev pub ByTree : Type 1
ByTree = List ℕ → Tree → Share → Type 0

-- the same, where regular expressions aren't built at some places
abbrev pub ByUnbuilt : Type 1
ByUnbuilt = Unbuilt → ByTree

-- for some such places of the tree and of the rule that these pipelines make of it, where the builder had refused these texts before and
-- then has refused those after
abbrev pub BySome : ByUnbuilt → Limits → List Pipeline → List (List ℕ) → List (List ℕ) → Bool → ByTree
BySome by limits ps before after ended name t share = ForUnbuilt (Makes limits ps) limits t before after ended (λ unbuilt. by unbuilt name t share)

-- what a document is answered: by its tree, or the refusal of YAML
abbrev pub DocumentGives : ByTree → List ℕ → Answer → Share → Type 0
DocumentGives by name (tree t) share = by name t share
DocumentGives by name (refusal p) share = share ≡ refusal_share name (yaml_refusal p)

-- What a file is answered: one refusal where it is too large, no text, or has too many documents, and else an answer to
-- each of its documents with content, in their order. Beside each document are the places at which its regular expressions aren't built;
-- behind their end there are none.
pub data FileGivesAt (by : ByUnbuilt) (limits : Limits) (unbuilt : List Unbuilt) (name bytes : List ℕ) (share : Share) : Type 0 where
  as_one_at : (p : ℕ × At) → IsCallRefusal limits.file_bytes limits.documents bytes p → share ≡ refusal_share name (yaml_refusal p) → FileGivesAt by limits unbuilt name bytes share
  by_document_at : (documents : List Answer) → IsTaken limits.file_bytes limits.documents limits.yaml_depth bytes documents
      → AllShares (λ d. DocumentGives (by d.0) name d.1) (paired none_unbuilt unbuilt documents) share → FileGivesAt by limits unbuilt name bytes share

-- the bytes of a file; one that isn't there counts as empty
abbrev pub contents : List (List ℕ × List ℕ) → List ℕ → List ℕ
contents files name = unwrap_or (file_at files name) []

-- the part of an answer that belongs to a rule file, with the places of its documents
pub record RuleFileAt (by : ByUnbuilt) (limits : Limits) (file : List Unbuilt × List ℕ) (world : World) (part : Part) : Type 0 where
  pub input : part.input ≡ Some (File file.1)
  pub share : FileGivesAt by limits file.0 file.1 (contents world.files file.1) part.share

-- ---- what the places are

-- of each of these files; there are no more
abbrev pub AreOfFiles : Limits → List Pipeline → Bool → World → List (List Unbuilt) → List (List ℕ) → Type 0
AreOfFiles limits ps ended world unbuilt names =
    EachOf (λ file. AreOfFile limits ps (contents world.files file.1) ended file.0) (paired [] unbuilt names) × (length unbuilt ≤ length names)

-- the texts that the builder refused of some files, in their order
abbrev pub all_texts : List (List Unbuilt) → List (List ℕ)
all_texts unbuilt = flat_map file_texts unbuilt

-- ---- answers for some such places, where the builder had refused the texts `before`, and then has refused the texts `after`: behind the
-- former those of these places, and nothing else

-- the share of some documents of a file, each with its places beside it
pub record DocumentsBySome (by : ByUnbuilt) (limits : Limits) (ps : List Pipeline) (before after : List (List ℕ)) (ended : Bool) (name : List ℕ) (documents : List Answer) (share : Share) : Type 0 where
  pub placed : List (Unbuilt × Answer)
  pub of : map (λ d. d.1) placed ≡ documents
  pub follows : after ≡ before ++ file_texts (map (λ d. d.0) placed)
  pub are : EachOf (AreOfDocument limits ps ended) placed
  pub gives : AllShares (λ d. DocumentGives (by d.0) name d.1) placed share

-- the share of a file
pub record FileBySome (by : ByUnbuilt) (limits : Limits) (ps : List Pipeline) (before after : List (List ℕ)) (ended : Bool) (name bytes : List ℕ) (share : Share) : Type 0 where
  pub unbuilt : List Unbuilt
  pub follows : after ≡ before ++ file_texts unbuilt
  pub are : AreOfFile limits ps bytes ended unbuilt
  pub gives : FileGivesAt by limits unbuilt name bytes share

-- the parts of some files, each with its documents' places beside it
pub record FilesBySome (by : ByUnbuilt) (limits : Limits) (ps : List Pipeline) (before after : List (List ℕ)) (ended : Bool) (names : List (List ℕ)) (world : World) (parts : List Part) : Type 0 where
  pub placed : List (List Unbuilt × List ℕ)
  pub of : map (λ file. file.1) placed ≡ names
  pub follows : after ≡ before ++ all_texts (map (λ file. file.0) placed)
  pub are : EachOf (λ file. AreOfFile limits ps (contents world.files file.1) ended file.0) placed
  pub each : EachPart (RuleFileAt by limits) placed world parts
