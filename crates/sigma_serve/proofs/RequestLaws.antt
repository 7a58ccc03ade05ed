-- The laws of the answers.
use Rattle.std.proofs.Common.{◌≡◌, ℕ, false, List, [], ◌∷◌, refl, ap, sym, ◌∙◌, append-nil, Option, None, Some, Ok}
use Rattle.std.specs.Prelude.{IfSome}
use Rattle.std.specs.List.{AllByRecursion}
use Rattle.answer_writer.proofs.Rows.{each_parts, parts_one}
use Rattle.answer_writer.specs.Each.{EachShare, EachPart}
use Rattle.answer_writer.specs.Input.{World}
use Rattle.answer_writer.specs.Parts.{Share, Part}
use Rattle.correlation_files.specs.Laws as sources
use Rattle.correlation_run.specs.Laws as runs
use Rattle.event_read.specs.SchemaOf.{schema_of}
use Rattle.event_schema.specs.Lists.{EachOf}
use Rattle.event_schema.specs.Schemas.{IsSchema}
use Rattle.event_schema.specs.declared.schema.Schema.{Schema}
use Rattle.pipeline_run.specs.Kept.{IsWholePipeline}
use Rattle.pipeline_run.specs.Priorities.{by_priority}
use Rattle.pipeline_files.specs.Laws as pipelined
use Rattle.pipeline_files.specs.Paired.{paired}
use Rattle.pipeline_model.specs.declared.pipeline.Pipeline.{Pipeline}
use Rattle.rule_regex.specs.Unbuilt.{Unbuilt, none_unbuilt}
use Rattle.rule_model.specs.Plain.{PlainRule}
use Rattle.rule_convert.specs.NamedQueries.{query_of, Converts, IsConverted}
use Rattle.rule_convert.specs.declared.backend_name.BackendName.{BackendName}
use Rattle.sig_base.specs.declared.limits.Limits.{Limits}
use Rattle.sigma_serve.proofs.Documented.{each_document_at, each_file_at, one_document_at, one_file_at}
use Rattle.sigma_serve.proofs.Correlated.{each_files_cut, each_timed_cut, one_correlate}
use Rattle.sigma_serve.proofs.Filed.{each_part, files_left, files_placed, one_part, parts_as}
use Rattle.sigma_serve.proofs.Judged.{each_checks, each_converts, one_checks, one_converts}
use Rattle.sigma_serve.proofs.Lifted.{nowhere, in_documents, convert_places, run_places, query_places, correlate_places}
use Rattle.sigma_serve.proofs.Once.{one_piped, one_schema}
use Rattle.sigma_serve.proofs.Piped.{each_ordered, each_piped}
use Rattle.sigma_serve.proofs.Ran.{each_ran_cut}
use Rattle.sigma_serve.proofs.Schemed.{each_schema}
use Rattle.sigma_serve.specs.Check.{CheckGives}
use Rattle.sigma_serve.specs.Convert.{ConvertGives, has_query, no_query, ConvertMeans, means_rule, means_none}
use Rattle.sigma_serve.specs.Converted.{Converted, RulesAt, RulesBySome, PipedRules}
use Rattle.sigma_serve.specs.Correlated.{CorrelatedAt, FilesCorrelated, TimedBy}
use Rattle.sigma_serve.specs.Generate.{Generated}
use Rattle.sigma_serve.specs.Languages.{AskedBy, AskedAt}
use Rattle.sigma_serve.specs.Laws.{EachDocument, EachFile, EachUnder, EachAnswer, EachConverted, EachCorrelated, EachQueried, EachRan, OneDocument, OneFile, OneQueried, OneUnder, OneAnswer, OfBoth, EachGenerated, OneGenerated, EachLone, OneLone, QueriesMean}
use Rattle.sigma_serve.specs.Ran.{RanUnder, RanBySome, PipedRun}
use Rattle.sigma_serve.specs.Reports.{line_share}
use Rattle.sigma_serve.specs.RuleFiles.{DocumentGives, as_one_at, by_document_at, RuleFileAt, contents}
use Rattle.sigma_serve.specs.UnderPipelines.{unpiped, piped_by, not_piped, PipedBuilder}
use Rattle.sigma_serve.specs.UnderSchema.{without, under, refused}
use Rattle.sigma_serve.specs.declared.request.Request.TheVariants.{Check, Convert, Run, Query, Correlate, Generate}
use Rattle.yaml_documents.specs.Bounds.{TextsAreScalars}
use Rattle.yaml_documents.specs.Verdicts as yaml
use Rattle.yaml_tree.specs.Texts.{HasScalarTexts, AnswerHas}
use Rattle.yaml_tree.specs.Tree.{Tree, Answer, tree, refusal}

pub both_documents : EachLone → OfBoth EachDocument
both_documents lone limits = (
  each_document_at (CheckGives limits) (each_checks limits),
  λ backend ps given. each_document_at (ConvertGives backend limits ps given) (each_converts lone backend limits ps given),
)

pub both_files : EachLone → yaml.EachVerdict → OfBoth EachFile
both_files lone file limits = (
  each_file_at (CheckGives limits) (each_checks limits) file,
  λ backend ps given. each_file_at (ConvertGives backend limits ps given) (each_converts lone backend limits ps given) file,
)

pub each_converted : OfBoth EachFile → EachConverted
each_converted file backend limits unbuilt rules ps given world =
    each_parts (RuleFileAt (ConvertGives backend limits ps given) limits) (each_part (ConvertGives backend limits ps given) limits ((file limits).1 backend ps given)) (paired [] unbuilt rules) world

-- there is an answer that is cut off before anything is built
pub each_converted_cut : OfBoth EachFile → (backend : BackendName) (limits : Limits) (rules : List (List ℕ)) (ps : List Pipeline) (texts : List (List ℕ))
    → EachUnder (RulesBySome (ConvertGives backend limits) limits rules ps texts texts false)
each_converted_cut file backend limits rules ps texts given world = files_left (ConvertGives backend limits ps given) limits ps ((file limits).1 backend ps given) texts rules world

-- there is one answer of what is generated
pub each_made : EachGenerated → (seed events : ℕ) → (parts : List Part) × Generated seed events parts
each_made each seed events =
    let a = each seed events in
    let part : Part = record { input = None; share = line_share a.0 } in
    (part ∷ [], record { line = a.0; is = a.1; all = refl })

one_made : OneGenerated → (seed events : ℕ) (a b : List Part) → Generated seed events a → Generated seed events b → a ≡ b
one_made one seed events a b first second =
    first.all ∙ (ap (λ (l : List ℕ). record { input = None; share = line_share l } ∷ []) (one seed events first.line second.line first.is second.is) ∙ sym second.all)

module _ (lone : EachLone) (file : yaml.EachVerdict) (piped : pipelined.EachFile) (one : pipelined.OnePipelines) (never : pipelined.NeverBoth) where
  pub each_answer : EachRan → EachQueried → EachCorrelated → sources.EachFile → EachGenerated → EachAnswer
  each_answer ran queried correlated outcomes made limits built (Check rules) world =
      let all = files_left (CheckGives limits) limits [] (both_files lone file limits).0 built rules world in
      let placed = files_placed (CheckGives limits) limits [] built built false rules world all.0 all.1 in
      (all.0, (in_documents [] placed.0, placed.1, placed.2))
  each_answer ran queried correlated outcomes made limits built (Convert backend schema pipelines rules) world =
      let a = each_schema (PipedBuilder (RulesBySome (ConvertGives backend limits) limits rules) limits pipelines built built false) limits
      (each_piped (RulesBySome (ConvertGives backend limits) limits rules) limits pipelines built (λ ps. each_converted_cut (both_files lone file) backend limits rules ps built) piped) schema world in
      (a.0, convert_places one never limits built built false schema pipelines backend rules world a.0 (λ _. refl) a.1)
  each_answer ran queried correlated outcomes made limits built (Run schema pipelines rule_file) world =
      let a = each_schema (PipedBuilder (RanBySome limits rule_file) limits pipelines built built false) limits
      (each_piped (RanBySome limits rule_file) limits pipelines built (λ ps. each_ran_cut ran limits rule_file ps built) piped) schema world in
      (a.0, run_places one never limits built built false schema pipelines rule_file world a.0 (λ _. refl) a.1)
  each_answer ran queried correlated outcomes made limits built (Query backend schema query) world =
      let a = each_schema (AskedBy backend limits query built built false) limits (λ given w. queried backend limits query built built [] (sym (append-nil built)) given w tt) (Some schema) world in
      (a.0, query_places backend limits schema query built built false world a.0 (λ _. refl) a.1)
  each_answer ran queried correlated outcomes made limits built (Correlate schema pipelines rules) world =
      let own : EachUnder (PipedBuilder (FilesCorrelated limits rules) limits pipelines built built false) =
      each_piped (FilesCorrelated limits rules) limits pipelines built (λ ps. each_files_cut correlated outcomes limits rules ps built) piped in
      let a = each_schema (TimedBy (PipedBuilder (FilesCorrelated limits rules) limits pipelines) schema built built false) limits
      (each_timed_cut (PipedBuilder (FilesCorrelated limits rules) limits pipelines) schema built own) (Some schema) world in
      (a.0, correlate_places one never limits built built false schema pipelines rules world a.0 (λ _. refl) a.1)
  each_answer ran queried correlated outcomes made limits built (Generate seed events) world = let a = each_made made seed events in (a.0, (nowhere, refl, a.1))

pub one_documents : OneLone → OfBoth OneDocument
one_documents lone limits = (
  one_document_at (CheckGives limits) (one_checks limits),
  λ backend ps given. one_document_at (ConvertGives backend limits ps given) (one_converts lone backend limits ps given),
)

pub one_files : OneLone → yaml.NeverBoth → yaml.OneList → yaml.OneRefusal → OfBoth OneFile
one_files lone never list cause limits = (
  one_file_at (CheckGives limits) (one_checks limits) never list cause,
  λ backend ps given. one_file_at (ConvertGives backend limits ps given) (one_converts lone backend limits ps given) never list cause,
)

one_under : OfBoth OneFile → (backend : BackendName) (limits : Limits) (unbuilt : List (List Unbuilt)) (rules : List (List ℕ)) (ps : List Pipeline)
    → OneUnder (RulesAt (ConvertGives backend limits) limits unbuilt rules ps)
one_under file backend limits unbuilt rules ps given world a b first second =
    parts_one (RuleFileAt (ConvertGives backend limits ps given) limits) (one_part (ConvertGives backend limits ps given) limits ((file limits).1 backend ps given)) (paired [] unbuilt rules) world a b first second

-- one answer to a file that is run
abbrev pub OneRan : Type 0
OneRan = (limits : Limits) (unbuilt : Unbuilt) (file : List ℕ) (ps : List Pipeline) → OneUnder (RanUnder limits unbuilt file ps)

module _ (one : pipelined.OnePipelines) (causes : pipelined.OneCauses) (never : pipelined.NeverBoth) where
  pub one_answer : OfBoth OneFile → OneRan → OneQueried → sources.OneFile → sources.OneJudged → runs.OneFollowed → OneGenerated → OneAnswer
  one_answer file ran queried source judge follow made limits places (Check rules) world a b first second =
      parts_one (RuleFileAt (CheckGives limits) limits) (one_part (CheckGives limits) limits (file limits).0) (paired [] places.documents rules) world a b first second
  one_answer file ran queried source judge follow made limits places (Convert backend schema pipelines rules) world a b first second =
      one_schema (PipedRules (ConvertGives backend limits) limits places.pipelines places.documents pipelines rules)
      (λ given. one_piped one causes never (λ ps. RulesAt (ConvertGives backend limits) limits places.documents rules ps given)
      (λ ps. one_under file backend limits places.documents rules ps given) limits places.pipelines pipelines) limits schema world a b first second
  one_answer file ran queried source judge follow made limits places (Run schema pipelines rule) world a b first second =
      one_schema (PipedRun limits places.pipelines places.rule pipelines rule)
      (λ given. one_piped one causes never (λ ps. RanUnder limits places.rule rule ps given) (λ ps. ran limits places.rule rule ps given) limits places.pipelines pipelines) limits schema world a b first second
  one_answer file ran queried source judge follow made limits places (Query backend schema query) world a b first second =
      one_schema (AskedAt backend limits query places.query) (queried backend limits query places.query) limits (Some schema) world a b first second
  one_answer file ran queried source judge follow made limits places (Correlate schema pipelines rules) world a b first second =
      one_schema (CorrelatedAt limits places.pipelines places.documents schema pipelines rules)
      (one_correlate one causes never source judge follow limits places.pipelines places.documents schema pipelines rules) limits (Some schema) world a b first second
  one_answer file ran queried source judge follow made limits places (Generate seed events) world a b first second = one_made made seed events a b first second

-- ---- what queries mean

abbrev pub RuleMeans : Type 0
RuleMeans =
    (backend : BackendName) (unbuilt : Unbuilt) (limits : Limits) (ps : List Pipeline) (given : Option Schema) (t : Tree) (made : PlainRule) → IfSome given IsSchema → HasScalarTexts t
    → EachOf IsWholePipeline ps → IsConverted backend unbuilt limits ps given t made → Converts backend limits given made (query_of backend given made)

module _ (means : RuleMeans) (backend : BackendName) (limits : Limits) (ps : List Pipeline) (given : Option Schema) (whole : EachOf IsWholePipeline ps) (kept : IfSome given IsSchema) (name : List ℕ) where
  tree_means : (unbuilt : Unbuilt) (t : Tree) (share : Share) → HasScalarTexts t → ConvertGives backend limits ps given unbuilt name t share → ConvertMeans backend limits ps given unbuilt name t share
  tree_means unbuilt t share texts (has_query made is share_is) = means_rule made is (means backend unbuilt limits ps given t made kept texts whole is) share_is
  tree_means unbuilt t share texts (no_query r is share_is) = means_none r is share_is

  abbrev Gives : Unbuilt × Answer → Share → Type 0
  Gives d share = DocumentGives (ConvertGives backend limits ps given d.0) name d.1 share

  abbrev Means : Unbuilt × Answer → Share → Type 0
  Means d share = DocumentGives (ConvertMeans backend limits ps given d.0) name d.1 share

  document_means : (unbuilt : Unbuilt) (d : Answer) (share : Share) → AnswerHas d → Gives (unbuilt, d) share → Means (unbuilt, d) share
  document_means unbuilt (tree t) share texts gives = tree_means unbuilt t share texts gives
  document_means unbuilt (refusal p) share texts gives = gives

  documents_mean : (unbuilt : List Unbuilt) (ds : List Answer) (shares : List Share) → AllByRecursion AnswerHas ds → EachShare Gives (paired none_unbuilt unbuilt ds) shares
      → EachShare Means (paired none_unbuilt unbuilt ds) shares
  documents_mean unbuilt [] [] texts each = tt
  documents_mean unbuilt [] (s ∷ shares) texts each = absurd each
  documents_mean [] (d ∷ ds) [] texts each = absurd each
  documents_mean (u ∷ unbuilt) (d ∷ ds) [] texts each = absurd each
  documents_mean [] (d ∷ ds) (s ∷ shares) texts each = (document_means none_unbuilt d s texts.0 each.0, documents_mean [] ds shares texts.1 each.1)
  documents_mean (u ∷ unbuilt) (d ∷ ds) (s ∷ shares) texts each = (document_means u d s texts.0 each.0, documents_mean unbuilt ds shares texts.1 each.1)

pub queries_mean : RuleMeans → TextsAreScalars → QueriesMean
queries_mean means texts backend limits ps given whole kept unbuilt name bytes share (as_one_at p refused_so is) = as_one_at p refused_so is
queries_mean means texts backend limits ps given whole kept unbuilt name bytes share (by_document_at ds taken (shares, each, is)) =
    by_document_at ds taken (shares, documents_mean means backend limits ps given whole kept name unbuilt ds shares (texts limits.file_bytes limits.documents limits.yaml_depth bytes ds taken) each, is)

-- the parts of rule files, said of what the queries mean
parts_mean : QueriesMean → (backend : BackendName) (limits : Limits) (ps : List Pipeline) (given : Option Schema) → EachOf IsWholePipeline ps → IfSome given IsSchema
    → (files : List (List Unbuilt × List ℕ)) (world : World) (parts : List Part)
    → EachPart (RuleFileAt (ConvertGives backend limits ps given) limits) files world parts → EachPart (RuleFileAt (ConvertMeans backend limits ps given) limits) files world parts
parts_mean means backend limits ps given whole kept files world parts each =
    parts_as (RuleFileAt (ConvertGives backend limits ps given) limits) (RuleFileAt (ConvertMeans backend limits ps given) limits)
    (λ file w part is. record { input = is.input; share = means backend limits ps given whole kept file.0 file.1 (contents w.files file.1) part.share is.share }) files world parts each

-- bytes that are a schema keep what every schema keeps
abbrev pub SchemasKept : Type 0
SchemasKept = (limits : Limits) (bytes : List ℕ) (schema : Schema) → schema_of limits bytes ≡ Ok schema → IsSchema schema

module _ (means : QueriesMean) (kept : SchemasKept) (whole : pipelined.AreWhole) (backend : BackendName) (limits : Limits) (piped : List Unbuilt) (unbuilt : List (List Unbuilt))
    (schema pipelines : Option (List ℕ)) (rules : List (List ℕ)) (world : World) where
  piped_mean : (given : Option Schema) → IfSome given IsSchema → (parts : List Part) → PipedRules (ConvertGives backend limits) limits piped unbuilt pipelines rules given world parts
      → PipedRules (ConvertMeans backend limits) limits piped unbuilt pipelines rules given world parts
  piped_mean given is_schema parts (unpiped is each) = unpiped is (parts_mean means backend limits [] given tt is_schema (paired [] unbuilt rules) world parts each)
  piped_mean given is_schema parts (piped_by name is ps are others each same) =
      piped_by name is ps are others
      (parts_mean means backend limits (by_priority ps) given (each_ordered IsWholePipeline ps (whole piped limits (contents world.files name) ps are)) is_schema (paired [] unbuilt rules) world others each) same
  piped_mean given is_schema parts (not_piped name is causes are share reported same) = not_piped name is causes are share reported same

  pub answers_mean : (parts : List Part) → Converted (ConvertGives backend limits) limits piped unbuilt schema pipelines rules world parts
      → Converted (ConvertMeans backend limits) limits piped unbuilt schema pipelines rules world parts
  answers_mean parts (without is each) = without is (piped_mean None tt parts each)
  answers_mean parts (under name is given so others each same) = under name is given so others (piped_mean (Some given) (kept limits (contents world.files name) given so) others each) same
  answers_mean parts (refused name is code so same) = refused name is code so same
