-- `run` of a rule and `query` of what `convert` wrote for it answer the same.
use Rattle.std.proofs.Common.{◌≡◌, ℕ, ◌≤◌, Bool, true, false, List, [], ◌∷◌, ◌++◌, length, refl, ap, sym, ◌∙◌, subst, arith, append_assoc, append-nil, Option, Some, None, Result, Ok, Err, inl, inr}
use Rattle.std.specs.Prelude.{◌⊎◌, ◌↔◌, nat_le, if◌then◌else◌, pos, IfSome}
use Rattle.std.specs.Io.KnownBytes.{Appends}
use Rattle.std.proofs.lemmas.Bool.{leb-true}
use Rattle.std.proofs.lemmas.List.{append_cancel_left}
use Rattle.answer_writer.proofs.Lined.{step_within, lines_one}
use Rattle.answer_writer.proofs.Shares.{join_nothing}
use Rattle.answer_writer.specs.Each.{EachPart, EachShare}
use Rattle.answer_writer.specs.EventLines.{AnswersWithin, StepPart, EventLines}
use Rattle.answer_writer.specs.Input.{World}
use Rattle.answer_writer.specs.Parts.{Share, Part, no_share, joined, share_of, Gains}
use Rattle.event_lines.specs.Lines.{lines_of}
use Rattle.event_read.specs.EventOf.{event_of}
use Rattle.event_read.specs.SchemaOf.{schema_of}
use Rattle.event_schema.specs.Events.{IsEvent}
use Rattle.event_schema.specs.Lists.{EachOf, SomeOf, HasElement}
use Rattle.event_schema.specs.Occurrence.{Occurrence}
use Rattle.event_schema.specs.declared.schema.Schema.{Schema}
use Rattle.event_schema.specs.declared.value.Value.{Value}
use Rattle.query_lang.specs.RefusedPlaces.{PatternAt, IsAmong}
use Rattle.query_lang.specs.Ended.{with_line_feed, SameWithLineFeed, RefusedForPatterns}
use Rattle.query_lang.proofs.Text.{one_more}
use Rattle.query_read.specs.Asked.{too_large, unread, most_bytes}
use Rattle.pipeline_run.specs.Chained.{run_pipelines, Makes}
use Rattle.pipeline_run.specs.Priorities.{by_priority}
use Rattle.pipeline_files.specs.Laws as files
use Rattle.pipeline_files.specs.Outcomes.{ArePipelines, AreCauses}
use Rattle.pipeline_files.specs.Paired.{paired}
use Rattle.pipeline_files.specs.Places.{AreOfPipelines, file_texts}
use Rattle.pipeline_model.specs.declared.pipeline.Pipeline.{Pipeline}
use Rattle.rule_regex.proofs.Lists.{some_left, some_right}
use Rattle.rule_regex.specs.Unbuilt.{Unbuilt, none_unbuilt, refused_texts, unbuilt_refusal, AreUnbuilt, IsOneOf, IsOfItem}
use Rattle.rule_detections.specs.declared.expression.Expression.{Expression}
use Rattle.rule_model.specs.Matching.{Matches}
use Rattle.rule_model.specs.AsBuilt.{IsRefusedAsBuilt}
use Rattle.rule_model.specs.Expressions.{document_expressions, rule_expressions}
use Rattle.rule_model.specs.Plain.{PlainRule}
use Rattle.rule_model.specs.Rules.{lone_refusal, IsLoneRule}
use Rattle.rule_convert.specs.NamedQueries.{Query as QueryOf, is_query, is_within, picks, text, missing, too_deep, query_of, Converts, IsConverted}
use Rattle.rule_convert.specs.Queries.{query_under, filled_checks}
use Rattle.rule_convert.specs.declared.backend_name.BackendName.{BackendName}
use Rattle.rule_convert.specs.declared.backend_name.BackendName.TheVariants as backends
use Rattle.rule_run.specs.Files.{single_tree}
use Rattle.rule_run.specs.Laws as running
use Rattle.rule_run.specs.Runs.{AreDocuments, no_tree, no_rule, IsSingleRule, IsNoSingleRule, as_one, by_document, no_single, unmade, no_made, unfit, IsMadeRule, IsRun, IsNotRun, no_fit, not_built, AreOfTree, AreOfSingle}
use Rattle.rule_schema.specs.Inferred.{open_refusal, unfit_refusal}
use Rattle.answer_writer.proofs.Selected.{one_selected}
use Rattle.answer_writer.specs.Selected.{Picking, EventGives, Selects}
use Rattle.sig_base.specs.Judged.{first, refusal as refusal_at}
use Rattle.sig_base.specs.declared.faults.LineStep.{LineStep}
use Rattle.sig_base.specs.declared.limits.Limits.{Limits}
use Rattle.sig_base.specs.declared.refusal.Detail.TheVariants.{Numbers}
use Rattle.sig_base.specs.declared.refusal.Place.{Place}
use Rattle.sig_base.specs.declared.refusal.Refusal.{Refusal}
use Rattle.sigma_serve.proofs.SamePiped.{RefusedOf, refused_of, has_cause, pipelines_refused, is_refused}
use Rattle.sigma_serve.proofs.Wording.{one_request}
use Rattle.sigma_serve.specs.Answers.{Places, AnswersAt}
use Rattle.sigma_serve.specs.Convert.{ConvertMeans, means_rule, means_none}
use Rattle.sigma_serve.specs.Converted.{RulesAt, PipedRules}
use Rattle.sigma_serve.specs.Languages.{patterns, refuses, AskedAt, AreOfQuery}
use Rattle.sigma_serve.specs.Laws.{OneLone, AnswersMean}
use Rattle.sigma_serve.specs.Queried.{asks, doesnt_ask, IsOfBuilder}
use Rattle.sigma_serve.specs.Ran.{RunGives, RanUnder, PipedRun, runs, isnt_run}
use Rattle.sigma_serve.specs.Reports.{line_share, refusal_share}
use Rattle.sigma_serve.specs.RuleFiles.{ByUnbuilt, DocumentGives, FileGivesAt, as_one_at, by_document_at, RuleFileAt, contents}
use Rattle.sigma_serve.specs.SameLines.{Call, AreOfRule, AnswersAlike, RefusesPattern, IsOfSingle, RefusesExpression, IsOfRefused, RefusesPipelines, SameLines, SameWithoutRefusals, SameByLucene}
use Rattle.sigma_serve.specs.Served.{Answer, accepted, unaccepted, status_of}
use Rattle.sigma_serve.specs.UnderPipelines.{AreReported, UnderPipelines, unpiped, piped_by, not_piped, ArePiped, IsUnpiped, ArePipedPlaces, PipedPlaces}
use Rattle.sigma_serve.specs.UnderSchema.{BySchema, UnderSchema, without, under, refused, file_part}
use Rattle.sigma_serve.specs.Words.{IsAccepted}
use Rattle.sigma_serve.specs.declared.request.Request.{Request}
use Rattle.sigma_serve.specs.declared.request.Request.TheVariants.{Convert, Run, Query}
use Rattle.sigma_serve.specs.declared.status.Status.{Status}
use Rattle.sigma_serve.specs.declared.status.Status.TheVariants.{Done, Found}
use Rattle.query_tokens.specs.Places.{CodeAt}
use Rattle.yaml_documents.specs.Verdicts as yaml
use Rattle.yaml_tree.specs.Tree.{Tree, Answer as Document, tree, refusal}

-- ---- the lines of events

abbrev pub EventsKept : Type 0
EventsKept = (schema : Schema) (line : List ℕ) (event : Occurrence) → event_of schema line ≡ Ok event → IsEvent schema.fields event.values

module _ (kept : EventsKept) (schema : Schema) (Picks Others : Picking) (same : (row : List (List Value)) → IsEvent schema.fields row → (Picks row ↔ Others row)) where
  selects_same : AnswersWithin (Selects schema Picks) (Selects schema Others)
  selects_same number line share = by (event_of schema line) refl
    where
      by : (r : Result Occurrence ℕ) → event_of schema line ≡ r → EventGives Picks number line r share → EventGives Others number line r share
      by (Ok event) is (inl (picked, so)) = inl ((same event.values (kept schema line event is)).0 picked, so)
      by (Ok event) is (inr (not, so)) = inr ((λ other. not ((same event.values (kept schema line event is)).1 other)), so)
      by (Err code) is so = so

  steps_same : (steps : List LineStep) (w v : World) (parts : List Part) → EachPart (StepPart (Selects schema Picks)) steps w parts → EachPart (StepPart (Selects schema Others)) steps v parts
  steps_same [] w v [] each = tt
  steps_same [] w v (p ∷ parts) each = absurd each
  steps_same (s ∷ steps) w v [] each = absurd each
  steps_same (s ∷ steps) w v (p ∷ parts) each =
      (record { input = each.0.input; share = step_within (Selects schema Picks) (Selects schema Others) selects_same s p.share each.0.share }, steps_same steps w v parts each.1)

  -- where both select the same events of the schema, the same lines are written
  lines_same : (limits : Limits) (w v : World) (a b : List Part) → v.events ≡ w.events → EventLines (Selects schema Picks) limits w a → EventLines (Selects schema Others) limits v b → a ≡ b
  lines_same limits w v a b same_events (ps, each, is) second =
      lines_one (Selects schema Others) limits (one_selected schema Others) v a b
      (ps, steps_same (lines_of limits v.events) w v ps (subst (λ (e : List ℕ). EachPart (StepPart (Selects schema Picks)) (lines_of limits e) w ps) (sym same_events) each), is) second

-- ---- calls

answered_as : (limits : Limits) (places : Places) (words : List (List ℕ)) (world : World) (status : Status) (parts : List Part) (request : Request) → IsAccepted words request
    → Answer limits places words world status parts → AnswersAt limits places request world parts × (status ≡ status_of (share_of parts).refused)
answered_as limits places words world status parts request is (accepted other is_too at ends) =
    (subst (λ (q : Request). AnswersAt limits places q world parts) (one_request words other request is_too is) at, ends)
answered_as limits places words world status parts request is (unaccepted none ends only) = absurd (none request is)

none_some : {A : Type 0} (x : A) → Some x ≡ None → ⊥
none_some x same = cc

some_is : {A : Type 0} (x y : A) → Some x ≡ Some y → x ≡ y
some_is x y same = cc

true_false : true ≡ false → ⊥
true_false same = cc

abbrev schema_ok : Schema → Result Schema ℕ
schema_ok given = Ok given

abbrev schema_err : ℕ → Result Schema ℕ
schema_err code = Err code

same_schema : (a b : Schema) → schema_ok a ≡ schema_ok b → a ≡ b
same_schema a b same = cc

no_schema : (a : Schema) (code : ℕ) → schema_ok a ≡ schema_err code → ⊥
no_schema a code same = cc

-- where the file that is named is a schema, the answer is that under this schema
under_given : (by : BySchema) (limits : Limits) (name : List ℕ) (world : World) (parts : List Part) (given : Schema) → schema_of limits (contents world.files name) ≡ Ok given
    → UnderSchema by limits (Some name) world parts → (others : List Part) × by (Some given) world others × (parts ≡ file_part name no_share ∷ others)
under_given by limits name world parts given so (without is other) = absurd (none_some name is)
under_given by limits name world parts given so (under file is other so_too others answer same) =
    let here : file ≡ name = some_is file name (sym is) in
    let one : other ≡ given = same_schema other given (sym (subst (λ (n : List ℕ). schema_of limits (contents world.files n) ≡ Ok other) here so_too) ∙ so) in
    (others, subst (λ (g : Schema). by (Some g) world others) one answer, same ∙ ap (λ (n : List ℕ). file_part n no_share ∷ others) here)
under_given by limits name world parts given so (refused file is code so_too same) =
    absurd (no_schema given code (sym so ∙ subst (λ (n : List ℕ). schema_of limits (contents world.files n) ≡ Err code) (some_is file name (sym is)) so_too))

status_none : (b : Bool) → Done ≡ status_of b → b ≡ false
status_none true is = absurd (apart is)
  where
    apart : Done ≡ Found → ⊥
    apart same = cc
status_none false is = refl

-- ---- refusals in a table

all_none : (checks : List (Option Refusal)) → first checks ≡ None → EachOf (λ check. check ≡ None) checks
all_none [] is = tt
all_none (None ∷ checks) is = (refl, all_none checks is)
all_none (Some r ∷ checks) is = absurd (none_some r is)

within_most : (n most : ℕ) (r : Refusal) → (if nat_le n most then None else Some r) ≡ None → n ≤ most
within_most n most r is = by (nat_le n most) refl is
  where
    by : (b : Bool) → nat_le n most ≡ b → (if b then None else Some r) ≡ None → n ≤ most
    by true small none = leb-true n most small
    by false large none = absurd (none_some r none)

-- a rule with a query fits its schema, and the query has no more bytes than one may have
module _ (backend : BackendName) (unbuilt : Unbuilt) (limits : Limits) (ps : List Pipeline) (given : Schema) (top : Tree) (rule : PlainRule) (is : IsConverted backend unbuilt limits ps (Some given) top rule) where
  no_refusal : EachOf (λ check. check ≡ None) (open_refusal rule ∷ filled_checks (missing backend) (text backend) (too_deep backend) unbuilt.items limits (Some given) rule)
  no_refusal = all_none (open_refusal rule ∷ filled_checks (missing backend) (text backend) (too_deep backend) unbuilt.items limits (Some given) rule) is.written

  fits_none : unfit_refusal (Some given) rule ≡ None
  fits_none = let filled = no_refusal.0 in let fits = no_refusal.1.1.0 in rw (filled, fits) refl

  query_short : length (query_of backend (Some given) rule) ≤ limits.query_bytes
  unfolding query_under
  query_short =
      let size : ℕ = length (query_of backend (Some given) rule) in
      within_most size limits.query_bytes (record { code = 114; place = rule.head.place; detail = Numbers (pos size) (pos limits.query_bytes) }) no_refusal.1.1.1.1.1.1.1.0

-- ---- the one document of the rule's file

abbrev tree_ok : Tree → Result Tree Refusal
tree_ok t = Ok t

abbrev tree_err : Refusal → Result Tree Refusal
tree_err r = Err r

no_top : (r : Refusal) (t : Tree) → tree_err r ≡ tree_ok t → ⊥
no_top r t same = cc

same_tree : (u t : Tree) → tree_ok u ≡ tree_ok t → u ≡ t
same_tree u t same = cc

one_share : {X : Type 0} (gives : X → Share → Type 0) (x : X) (shares : List Share) → EachShare gives (x ∷ []) shares → (s : Share) × gives x s × (shares ≡ s ∷ [])
one_share gives x [] each = absurd each
one_share gives x (s ∷ []) each = (s, each.0, refl)
one_share gives x (s ∷ t ∷ more) each = absurd each.1

one_part : {X : Type 0} (gives : X → World → Part → Type 0) (x : X) (world : World) (parts : List Part) → EachPart gives (x ∷ []) world parts → (p : Part) × gives x world p × (parts ≡ p ∷ [])
one_part gives x world [] each = absurd each
one_part gives x world (p ∷ []) each = (p, each.0, refl)
one_part gives x world (p ∷ q ∷ more) each = absurd each.1

-- the places that stand beside one element
one_pair : {A B : Type 0} (none : A) (firsts : List A) (second : B) → (first : A) × (paired none firsts (second ∷ []) ≡ (first, second) ∷ [])
one_pair none [] second = (none, refl)
one_pair none (first ∷ firsts) second = (first, refl)

module _ (never : yaml.NeverBoth) (list : yaml.OneList) where
  same_documents : (limits : Limits) (bytes : List ℕ) (ds es : List Document) → AreDocuments limits bytes ds → AreDocuments limits bytes es → ds ≡ es
  same_documents limits bytes ds es first second = list limits.file_bytes limits.documents limits.yaml_depth bytes ds es first second

  file_share : (by : ByUnbuilt) (limits : Limits) (places : List Unbuilt) (name bytes : List ℕ) (d : Document) → AreDocuments limits bytes (d ∷ []) → (share : Share)
      → FileGivesAt by limits places name bytes share → (unbuilt : Unbuilt) × DocumentGives (by unbuilt) name d share
  file_share by limits places name bytes d taken share (as_one_at p cause is) = absurd (never limits.file_bytes limits.documents limits.yaml_depth bytes (d ∷ []) p taken cause)
  file_share by limits places name bytes d taken share (by_document_at ds taken_too (shares, each, is)) =
      let same : ds ≡ d ∷ [] = same_documents limits bytes ds (d ∷ []) taken_too taken in
      let pair = one_pair none_unbuilt places d in
      let one = one_share (λ (x : Unbuilt × Document). DocumentGives (by x.0) name x.1) (pair.0, d) shares
      (subst (λ (l : List (Unbuilt × Document)). EachShare (λ (x : Unbuilt × Document). DocumentGives (by x.0) name x.1) l shares) pair.1
      (subst (λ (l : List Document). EachShare (λ (x : Unbuilt × Document). DocumentGives (by x.0) name x.1) (paired none_unbuilt places l) shares) same each)) in
      (pair.0, subst (DocumentGives (by pair.0) name d) (sym (is ∙ (ap joined one.2 ∙ join_nothing one.0))) one.1)

-- ---- what `convert` wrote

abbrev Text : BackendName → Schema → PlainRule → List ℕ
Text backend given rule = query_of backend (Some given) rule

-- the one document is a rule of which these pipelines make one with a query, which means it, and this share has the query and a line feed
record HasQuery (backend : BackendName) (limits : Limits) (ps : List Pipeline) (given : Schema) (bytes : List ℕ) (share : Share) : Type 0 where
  rule : PlainRule
  single : IsSingleRule [] limits bytes rule
  unbuilt : Unbuilt
  top : Tree
  made : PlainRule
  makes : Makes limits ps rule made
  converted : IsConverted backend unbuilt limits ps (Some given) top made
  means : Converts backend limits (Some given) made (Text backend given made)
  is : share ≡ line_share (Text backend given made)

abbrev made_ok : PlainRule → Result PlainRule Refusal
made_ok made = Ok made

abbrev made_err : Refusal → Result PlainRule Refusal
made_err r = Err r

made_same : (rule made : PlainRule) → made_ok rule ≡ made_ok made → rule ≡ made
made_same rule made same = cc

never_unmade : (rule : PlainRule) (r : Refusal) → made_ok rule ≡ made_err r → ⊥
never_unmade rule r same = cc

-- what a document is refused for where some regular expressions aren't built
abbrev pub AsBuilt : Type 0
AsBuilt = (unbuilt : List Place) (limits : Limits) (t : Tree) → IsRefusedAsBuilt unbuilt (lone_refusal unbuilt limits t) (lone_refusal [] limits t)

document_wrote : AsBuilt → (backend : BackendName) (limits : Limits) (ps : List Pipeline) (given : Schema) (bytes : List ℕ) (unbuilt : Unbuilt) (name : List ℕ) (d : Document) → AreDocuments limits bytes (d ∷ [])
    → (share : Share) → share.refused ≡ false → DocumentGives (ConvertMeans backend limits ps (Some given) unbuilt) name d share → HasQuery backend limits ps given bytes share
document_wrote as_built backend limits ps given bytes unbuilt name (tree top) taken share unrefused (means_rule made converted means so) = record {
  rule = converted.rule;
  single = record {
    documents = tree top ∷ [];
    taken = taken;
    only = record { top = top; single = refl; lone = record { taken = (as_built unbuilt.values limits top).taken converted.lone.taken; is = converted.lone.is } };
  };
  unbuilt = unbuilt;
  top = top;
  made = made;
  makes = converted.makes;
  converted = converted;
  means = means;
  is = so;
}
document_wrote as_built backend limits ps given bytes unbuilt name (tree top) taken share unrefused (means_none r why so) = absurd (true_false (sym (ap (λ (s : Share). s.refused) so) ∙ unrefused))
document_wrote as_built backend limits ps given bytes unbuilt name (refusal p) taken share unrefused so = absurd (true_false (sym (ap (λ (s : Share). s.refused) so) ∙ unrefused))

query_written : (backend : BackendName) (limits : Limits) (ps : List Pipeline) (given : Schema) (bytes : List ℕ) (whole share : Share) (output : List ℕ) → output ≡ whole.output → whole ≡ share
    → (has : HasQuery backend limits ps given bytes share) → output ≡ with_line_feed (Text backend given has.made)
query_written backend limits ps given bytes whole share output is same has = is ∙ ap (λ (s : Share). s.output) (same ∙ has.is)

-- ---- under the pipelines of a file, if one is named

-- the answer is that under these pipelines, of which the file is
record IsPiped (by : List Pipeline → World → List Part → Type 0) (limits : Limits) (piped : List Unbuilt) (file : Option (List ℕ)) (world : World) (parts : List Part) : Type 0 where
  ps : List Pipeline
  are : ArePiped limits piped file world ps
  others : List Part
  answer : by (by_priority ps) world others
  share : share_of parts ≡ share_of others

-- or that the file is refused
record IsReported (limits : Limits) (piped : List Unbuilt) (file : Option (List ℕ)) (world : World) (parts : List Part) : Type 0 where
  name : List ℕ
  named : file ≡ Some name
  causes : List Refusal
  refused_so : AreCauses piped limits (contents world.files name) causes
  reports : Share
  reported : AreReported name causes reports
  share : share_of parts ≡ reports

under_piped : (by : List Pipeline → World → List Part → Type 0) (limits : Limits) (piped : List Unbuilt) (file : Option (List ℕ)) (world : World) (parts : List Part) → UnderPipelines by limits piped file world parts
    → IsPiped by limits piped file world parts ⊎ IsReported limits piped file world parts
under_piped by limits piped file world parts (unpiped is answer) =
    inl (record { ps = []; are = subst (λ (o : Option (List ℕ)). ArePiped limits piped o world []) (sym is) refl; others = parts; answer = answer; share = refl })
under_piped by limits piped file world parts (piped_by name is ps are others answer same) =
    inl (record { ps = ps; are = subst (λ (o : Option (List ℕ)). ArePiped limits piped o world ps) (sym is) are; others = others; answer = answer; share = ap share_of same })
under_piped by limits piped file world parts (not_piped name is causes refused_so reports reported same) =
    inr (record { name = name; named = is; causes = causes; refused_so = refused_so; reports = reports; reported = reported; share = ap share_of same ∙ join_nothing reports })

-- where a file of the same bytes is read, it's the same pipelines
piped_too : (limits : Limits) (piped : List Unbuilt) (file : Option (List ℕ)) (w v : World) (ps : List Pipeline) → IfSome file (λ name. contents v.files name ≡ contents w.files name)
    → ArePiped limits piped file w ps → ArePiped limits piped file v ps
piped_too limits piped None w v ps same are = are
piped_too limits piped (Some name) w v ps same are = subst (λ (b : List ℕ). ArePipelines piped limits b ps) (sym same) are

one_piped : files.OnePipelines → (limits : Limits) (us vs : List Unbuilt) (file : Option (List ℕ)) (world : World) (ps qs : List Pipeline) → ArePiped limits us file world ps → ArePiped limits vs file world qs
    → ps ≡ qs
one_piped one limits us vs None world ps qs are too = are ∙ sym too
one_piped one limits us vs (Some name) world ps qs are too = one us vs limits (contents world.files name) ps qs are too

-- what a sink gained that tells it
gained_text : (old new : Option (List ℕ)) (start bytes output : List ℕ) → old ≡ Some start → new ≡ Some (start ++ bytes) → Appends old new output → bytes ≡ output
gained_text old new start bytes output stood wrote gains =
    append_cancel_left start bytes output (subst (λ (o : Option (List ℕ)). Appends (Some start) o output) wrote (subst (λ (o : Option (List ℕ)). Appends o new output) stood gains))

record HasWritten (limits : Limits) (backend : BackendName) (schema_bytes : List ℕ) (pipelines : Option (List ℕ)) (world : World) (rule_bytes bytes : List ℕ) : Type 0 where
  given : Schema
  schema : schema_of limits schema_bytes ≡ Ok given
  piped : List Unbuilt
  ps : List Pipeline
  are : ArePiped limits piped pipelines world ps
  share : Share
  query : HasQuery backend limits (by_priority ps) given rule_bytes share
  is : bytes ≡ with_line_feed (Text backend given query.made)

abbrev Wrote : (limits : Limits) (backend : BackendName) (convert run query : Call limits) → AreOfRule limits backend convert run query → Type 0
Wrote limits backend convert run query calls =
    HasWritten limits backend (contents convert.world.files calls.schema) calls.pipelines convert.world (contents convert.world.files calls.rule) (contents query.world.files calls.file)

module _ (as_built : AsBuilt) (mean : AnswersMean) (never : yaml.NeverBoth) (list : yaml.OneList) where
  convert_wrote : (limits : Limits) (backend : BackendName) (convert run query : Call limits) (calls : AreOfRule limits backend convert run query)
      → Wrote limits backend convert run query calls
  convert_wrote limits backend convert run query calls =
      let w = convert.serves.answer convert.answered convert.world convert.told in
      let a = answered_as limits w.0 convert.words convert.world convert.status w.2 (Convert backend (Some calls.schema) calls.pipelines (calls.rule ∷ [])) calls.converts w.3 in
      of w.0.pipelines w.0.documents w.2 (mean backend limits w.0.pipelines w.0.documents (Some calls.schema) calls.pipelines (calls.rule ∷ []) convert.world w.2 a.0) (status_none (share_of w.2).refused (sym calls.done ∙ a.1)) w.4.0
    where
      piped_of : (piped : List Unbuilt) (places : List (List Unbuilt)) (given : Schema) → schema_of limits (contents convert.world.files calls.schema) ≡ Ok given → (parts others : List Part)
          → share_of parts ≡ share_of others → (share_of parts).refused ≡ false → Appends convert.old.out convert.new.out (share_of parts).output
          → IsPiped (λ ps. RulesAt (ConvertMeans backend limits) limits places (calls.rule ∷ []) ps (Some given)) limits piped calls.pipelines convert.world others ⊎ IsReported limits piped calls.pipelines convert.world others
          → Wrote limits backend convert run query calls
      piped_of piped places given so parts others same unrefused gains (inl is) =
          let ps : List Pipeline = by_priority is.ps in
          let pair = one_pair [] places calls.rule in
          let one = one_part (RuleFileAt (ConvertMeans backend limits ps (Some given)) limits) (pair.0, calls.rule) convert.world is.others
          (subst (λ (files : List (List Unbuilt × List ℕ)). EachPart (RuleFileAt (ConvertMeans backend limits ps (Some given)) limits) files convert.world is.others) pair.1 is.answer) in
          let bytes : List ℕ = contents convert.world.files calls.rule in
          let document = file_share never list (ConvertMeans backend limits ps (Some given)) limits pair.0 calls.rule bytes calls.document.0 calls.document.1 one.0.share one.1.share in
          let whole : share_of parts ≡ one.0.share = same ∙ (is.share ∙ (ap share_of one.2 ∙ join_nothing one.0.share)) in
          let has = document_wrote as_built backend limits ps given bytes document.0 calls.rule calls.document.0 calls.document.1 one.0.share
          (sym (ap (λ (s : Share). s.refused) whole) ∙ unrefused) document.1 in
          record {
            given = given;
            schema = so;
            piped = piped;
            ps = is.ps;
            are = is.are;
            share = one.0.share;
            query = has;
            is = query_written backend limits ps given bytes (share_of parts) one.0.share (contents query.world.files calls.file)
                (gained_text convert.old.out convert.new.out calls.start (contents query.world.files calls.file) (share_of parts).output calls.stood calls.wrote gains) whole has;
          }
      piped_of piped places given so parts others same unrefused gains (inr is) =
          let some = has_cause piped limits (contents convert.world.files is.name) is.causes is.refused_so in
          absurd (true_false (sym (is_refused is.name is.causes is.reports some is.reported) ∙ (sym (ap (λ (s : Share). s.refused) (same ∙ is.share)) ∙ unrefused)))

      of : (piped : List Unbuilt) (places : List (List Unbuilt)) (parts : List Part) → UnderSchema (PipedRules (ConvertMeans backend limits) limits piped places calls.pipelines (calls.rule ∷ [])) limits (Some calls.schema) convert.world parts → (share_of parts).refused ≡ false
          → Appends convert.old.out convert.new.out (share_of parts).output
          → Wrote limits backend convert run query calls
      of piped places parts (without is each) unrefused gains = absurd (none_some calls.schema is)
      of piped places parts (refused file is code so same) unrefused gains = absurd (true_false (sym (ap (λ (ps : List Part). (share_of ps).refused) same) ∙ unrefused))
      of piped places parts (under file is given so others answer same) unrefused gains =
          let here : file ≡ calls.schema = some_is file calls.schema (sym is) in
          piped_of piped places given (subst (λ (n : List ℕ). schema_of limits (contents convert.world.files n) ≡ Ok given) here so) parts others (ap share_of same) unrefused gains
          (under_piped (λ ps. RulesAt (ConvertMeans backend limits) limits places (calls.rule ∷ []) ps (Some given)) limits piped calls.pipelines convert.world others answer)

-- ---- why a rule isn't run that is a single one, and of which the pipelines make one, where all regular expressions are built

-- what refuses a regular expression that isn't built: nothing where there are no such places, else 48, and its place is among them
abbrev pub AllBuilt : Type 0
AllBuilt = (es : List Expression) → unbuilt_refusal [] es ≡ None

abbrev pub IsUnbuilt : Type 0
IsUnbuilt = (unbuilt : List Place) (es : List Expression) (r : Refusal) → unbuilt_refusal unbuilt es ≡ Some r → r ≡ refusal_at 48 r.place

abbrev pub IsAmongUnbuilt : Type 0
IsAmongUnbuilt = (unbuilt : List Place) (es : List Expression) (r : Refusal) → unbuilt_refusal unbuilt es ≡ Some r → SomeOf (λ place. place ≡ r.place) unbuilt

module _ (never : yaml.NeverBoth) (list : yaml.OneList) (lone : OneLone) (as_built : AsBuilt) (is_unbuilt : IsUnbuilt) (among : IsAmongUnbuilt) (limits : Limits) (ps : List Pipeline) (given : Schema) (bytes : List ℕ) (rule made : PlainRule)
    (single : IsSingleRule [] limits bytes rule) (makes : Makes limits ps rule made) (fits : unfit_refusal (Some given) made ≡ None) (unbuilt : Unbuilt) (are : AreOfSingle limits ps bytes true unbuilt) where
  abbrev IsOfExpression : Refusal → Type 0
  IsOfExpression r = RefusedOf (IsOfSingle limits ps bytes) (refused_texts unbuilt) r

  of_top : (ds : List Document) → AreDocuments limits bytes ds → (top : Tree) → single_tree ds ≡ Ok top → AreUnbuilt (Makes limits ps) limits top true unbuilt
  of_top ds taken top is = subst (λ (r : Result Tree Refusal). AreOfTree limits ps r true unbuilt) is (are.tree ds taken)

  of_value : (ds : List Document) → AreDocuments limits bytes ds → (top : Tree) → single_tree ds ≡ Ok top → (r : Refusal) → RefusedOf (IsOneOf (document_expressions limits top)) unbuilt.refused_values r → IsOfExpression r
  of_value ds taken top is r e = (e.0, (ds, taken, top, is, inl e.1), e.2, some_left (λ (t : List ℕ). t ≡ e.0.text) unbuilt.refused_values unbuilt.refused_items e.3)

  of_item : (ds : List Document) → AreDocuments limits bytes ds → (top : Tree) → single_tree ds ≡ Ok top → (r : Refusal) → RefusedOf (IsOfItem (Makes limits ps) top) unbuilt.refused_items r → IsOfExpression r
  of_item ds taken top is r e = (e.0, (ds, taken, top, is, inr e.1), e.2, some_right (λ (t : List ℕ). t ≡ e.0.text) unbuilt.refused_values unbuilt.refused_items e.3)

  -- the document of these
  same_top : (ds : List Document) → AreDocuments limits bytes ds → (top : Tree) → single_tree ds ≡ Ok top → top ≡ single.only.top
  same_top ds taken top is =
      same_tree top single.only.top (sym is ∙ (ap single_tree (same_documents never list limits bytes ds single.documents taken single.taken) ∙ single.only.single))

  same_rule : (values : List Place) (other : PlainRule) → IsSingleRule values limits bytes other → other ≡ rule
  same_rule values other too =
      let top = same_top too.documents too.taken too.only.top too.only.single in
      lone values [] limits single.only.top other rule (subst (λ (t : Tree). IsLoneRule values limits t other) top too.only.lone) single.only.lone

  no_single_of : (r : Refusal) → IsNoSingleRule unbuilt.values limits bytes r → IsOfExpression r
  no_single_of r (as_one p cause is) = absurd (never limits.file_bytes limits.documents limits.yaml_depth bytes single.documents p single.taken cause)
  no_single_of r (by_document ds taken (no_tree is)) =
      absurd (no_top r single.only.top (sym is ∙ (ap single_tree (same_documents never list limits bytes ds single.documents taken single.taken) ∙ single.only.single)))
  no_single_of r (by_document ds taken (no_rule top is refused_so)) = elim ((as_built unbuilt.values limits top).refused r refused_so) as (λ _. IsOfExpression r) [
    | inl anyway ↦ absurd (none_some r (sym anyway ∙ subst (λ (t : Tree). lone_refusal [] limits t ≡ None) (sym (same_top ds taken top is)) single.only.lone.taken))
    | inr of ↦ of_value ds taken top is r (refused_of (IsOneOf (document_expressions limits top)) unbuilt.refused_values unbuilt.values r (of_top ds taken top is).values of.1 of.0)
  ]

  -- what they make of it
  same_made : (other : PlainRule) → IsMadeRule unbuilt.values limits ps bytes other → other ≡ made
  same_made other too = sym (made_same made other (sym makes ∙ subst (λ (x : PlainRule). Makes limits ps x other) (same_rule unbuilt.values too.rule too.single) too.makes))

  not_run_of : (r : Refusal) → IsNotRun unbuilt limits ps (Some given) bytes r → IsOfExpression r
  not_run_of r (no_fit (no_made (no_single is))) = no_single_of r is
  not_run_of r (no_fit (no_made (unmade other too is))) =
      absurd (never_unmade made r (sym makes ∙ subst (λ (x : PlainRule). run_pipelines limits ps x ≡ made_err r) (same_rule unbuilt.values other too) is))
  not_run_of r (no_fit (unfit other too is)) = absurd (none_some r (sym is ∙ (ap (unfit_refusal (Some given)) (same_made other too) ∙ fits)))
  not_run_of r (not_built other fit is) =
      let ds : List Document = fit.rule.single.documents in
      let top : Tree = fit.rule.single.only.top in
      of_item ds fit.rule.single.taken top fit.rule.single.only.single r
      (refused_of (IsOfItem (Makes limits ps) top) unbuilt.refused_items unbuilt.items r (of_top ds fit.rule.single.taken top fit.rule.single.only.single).items (among unbuilt.items (rule_expressions other) r is) (is_unbuilt unbuilt.items (rule_expressions other) r is))

-- ---- what `run` answered

-- the lines of the events, answered by these events
record Selected (limits : Limits) (given : Schema) (Picks : Picking) (call : Call limits) : Type 0 where
  lines : List Part
  each : EventLines (Selects given Picks) limits call.world lines
  gains : Gains (share_of lines) call.old call.new
  status : call.status ≡ status_of (share_of lines).refused

module _ (limits : Limits) (call : Call limits) (schema file : List ℕ) (given : Schema) (so : schema_of limits (contents call.world.files schema) ≡ Ok given) where
  run_answered : yaml.NeverBoth → yaml.OneList → OneLone → AsBuilt → AllBuilt → IsUnbuilt → IsAmongUnbuilt → running.OneRun → files.OnePipelines → (pipelines : Option (List ℕ)) → IsAccepted call.words (Run (Some schema) pipelines file)
      → (us : List Unbuilt) (ps : List Pipeline) → ArePiped limits us pipelines call.world ps → (rule : PlainRule) → IsSingleRule [] limits (contents call.world.files file) rule
      → (made : PlainRule) → Makes limits (by_priority ps) rule made → unfit_refusal (Some given) made ≡ None
      → Selected limits given (λ row. Matches given.fields row made) call ⊎ (RefusesExpression pipelines file call ⊎ RefusesPipelines pipelines call)
  run_answered never list lone as_built built is_unbuilt among one one_pipelines pipelines words us ps taken rule single made makes fits =
      let w = call.serves.answer call.answered call.world call.told in
      let a = answered_as limits w.0 call.words call.world call.status w.2 (Run (Some schema) pipelines file) words w.3 in
      let u = under_given (PipedRun limits w.0.pipelines w.0.rule pipelines file) limits schema call.world w.2 given so a.0 in
      of w.0.pipelines w.0.rule ((w.1 (Run (Some schema) pipelines file) words).0 (given, so)) w.2 u.0 (ap share_of u.2) w.4 a.1
      (under_piped (λ qs. RanUnder limits w.0.rule file qs (Some given)) limits w.0.pipelines pipelines call.world u.0 u.1)
    where
      is_run : IsRun none_unbuilt limits (by_priority ps) (Some given) (contents call.world.files file) made
      is_run = record { fit = record { rule = record { rule = rule; single = single; makes = makes }; fits = fits }; built = built (rule_expressions made) }

      ran : (piped : List Unbuilt) (qs : List Pipeline) → ArePiped limits piped pipelines call.world qs → qs ≡ ps → (unbuilt : Unbuilt) (middle : List (List ℕ)) → middle ≡ call.texts.before ++ file_texts piped
          → call.texts.after ≡ middle ++ refused_texts unbuilt → AreOfSingle limits (by_priority ps) (contents call.world.files file) true unbuilt → (parts others : List Part) → share_of parts ≡ share_of others
          → Gains (share_of parts) call.old call.new → call.status ≡ status_of (share_of parts).refused → RanUnder limits unbuilt file (by_priority ps) (Some given) call.world others
          → Selected limits given (λ row. Matches given.fields row made) call ⊎ (RefusesExpression pipelines file call ⊎ RefusesPipelines pipelines call)
      ran piped qs are_piped same_ps unbuilt middle follows behind are parts others whole gains ends (runs other is lines each same) =
          let here : other ≡ made = one unbuilt none_unbuilt limits (by_priority ps) (Some given) (contents call.world.files file) other made is is_run in
          let all : share_of parts ≡ share_of lines = whole ∙ ap share_of same in
          inl (record {
            lines = lines;
            each = subst (λ (r : PlainRule). EventLines (RunGives given r) limits call.world lines) here each;
            gains = subst (λ (s : Share). Gains s call.old call.new) all gains;
            status = ends ∙ ap (λ (s : Share). status_of s.refused) all;
          })
      ran piped qs are_piped same_ps unbuilt middle follows behind are parts others whole gains ends (isnt_run r is same) =
          let all : share_of parts ≡ refusal_share file r = whole ∙ (ap share_of same ∙ join_nothing (refusal_share file r)) in
          let why = not_run_of never list lone as_built is_unbuilt among limits (by_priority ps) given (contents call.world.files file) rule made single makes fits unbuilt are r is in
          let wrote : Gains (refusal_share file r) call.old call.new = subst (λ (s : Share). Gains s call.old call.new) all gains in
          inr (inl (record {
            piped = piped;
            ps = ps;
            are = subst (λ (l : List Pipeline). ArePiped limits piped pipelines call.world l) same_ps are_piped;
            expression = why.0;
            of = why.1;
            gained = file_texts piped ++ refused_texts unbuilt;
            follows = behind ∙ (ap (λ (l : List (List ℕ)). l ++ refused_texts unbuilt) follows ∙ append_assoc call.texts.before (file_texts piped) (refused_texts unbuilt));
            among = some_right (λ (t : List ℕ). t ≡ why.0.text) (file_texts piped) (refused_texts unbuilt) why.3;
            wrote = subst (λ (x : Refusal). Gains (refusal_share file x) call.old call.new) why.2 wrote;
            status = ends ∙ ap (λ (s : Share). status_of s.refused) all;
          }))

      of : (piped : List Unbuilt) (unbuilt : Unbuilt) (places : PipedPlaces (λ qs before after. (after ≡ before ++ refused_texts unbuilt) × AreOfSingle limits qs (contents call.world.files file) true unbuilt)
          limits pipelines call.texts.before call.texts.after true call.world piped) (parts others : List Part) → share_of parts ≡ share_of others
          → Gains (share_of parts) call.old call.new → call.status ≡ status_of (share_of parts).refused
          → IsPiped (λ qs. RanUnder limits unbuilt file qs (Some given)) limits piped pipelines call.world others ⊎ IsReported limits piped pipelines call.world others
          → Selected limits given (λ row. Matches given.fields row made) call ⊎ (RefusesExpression pipelines file call ⊎ RefusesPipelines pipelines call)
      of piped unbuilt places parts others whole gains ends (inl is) =
          let same_ps : is.ps ≡ ps = one_piped one_pipelines limits piped us pipelines call.world is.ps ps is.are taken in
          let behind = places.behind is.ps is.are in
          ran piped is.ps is.are same_ps unbuilt places.middle places.follows behind.0
          (subst (λ (l : List Pipeline). AreOfSingle limits (by_priority l) (contents call.world.files file) true unbuilt) same_ps behind.1) parts is.others (whole ∙ is.share) gains ends
          (subst (λ (l : List Pipeline). RanUnder limits unbuilt file (by_priority l) (Some given) call.world is.others) same_ps is.answer)
      of piped unbuilt places parts others whole gains ends (inr is) =
          let all : share_of parts ≡ is.reports = whole ∙ is.share in
          let some = has_cause piped limits (contents call.world.files is.name) is.causes is.refused_so in
          let are : AreOfPipelines limits (contents call.world.files is.name) true piped =
          subst (λ (o : Option (List ℕ)). ArePipedPlaces limits o true call.world piped) is.named places.are in
          let taken_so : ArePipelines us limits (contents call.world.files is.name) ps =
          subst (λ (o : Option (List ℕ)). ArePiped limits us o call.world ps) is.named taken in
          let unpiped_so : IsUnpiped limits piped pipelines call.world =
          subst (λ (o : Option (List ℕ)). IsUnpiped limits piped o call.world) (sym is.named) (is.causes, is.refused_so) in
          inr (inr (record {
            file = is.name;
            named = is.named;
            gained = file_texts piped;
            follows = places.still unpiped_so ∙ places.follows;
            causes = is.causes;
            some = some;
            of = pipelines_refused never list limits (contents call.world.files is.name) us piped ps taken_so are is.causes is.refused_so;
            share = is.reports;
            reported = is.reported;
            wrote = subst (λ (s : Share). Gains s call.old call.new) all gains;
            status = ends ∙ (ap (λ (s : Share). status_of s.refused) all ∙ ap status_of (is_refused is.name is.causes is.reports some is.reported));
          }))

  -- ---- what `query` answered

  module _ (backend : BackendName) (words : IsAccepted call.words (Query backend schema file)) (q : QueryOf backend) (reads : is_query backend given (contents call.world.files file) q)
      (within : is_within backend limits given (contents call.world.files file) q) (short : length (contents call.world.files file) ≤ most_bytes limits) where
    query_answered : RefusedForPatterns (is_within backend) (refuses backend)
        → ((schema : Schema) (bytes : List ℕ) (p q : QueryOf backend) → is_query backend schema bytes p → is_query backend schema bytes q → p ≡ q)
        → Selected limits given (picks backend q) call ⊎ RefusesPattern backend file call
    query_answered only one =
        let w = call.serves.answer call.answered call.world call.told in
        let a = answered_as limits w.0 call.words call.world call.status w.2 (Query backend schema file) words w.3 in
        let u = under_given (AskedAt backend limits file w.0.query) limits schema call.world w.2 given so a.0 in
        of w.0.query ((w.1 (Query backend schema file) words).0 given so) w.2 u.0 u.1 u.2 w.4 a.1
      where
        of : (places : List CodeAt) → AreOfQuery backend limits file call.texts.before call.texts.after true given call.world places → (parts others : List Part)
            → AskedAt backend limits file places (Some given) call.world others → parts ≡ file_part schema no_share ∷ others → Gains (share_of parts) call.old call.new
            → call.status ≡ status_of (share_of parts).refused → Selected limits given (picks backend q) call ⊎ RefusesPattern backend file call
        of places built parts others (asks other asked lines each same) whole gains ends =
            let here : other ≡ q = one given (contents call.world.files file) other q asked.reads reads in
            let all : parts ≡ file_part schema no_share ∷ file_part file no_share ∷ lines = whole ∙ ap (λ (ps : List Part). file_part schema no_share ∷ ps) same in
            inl (record {
              lines = lines;
              each = subst (λ (x : QueryOf backend). EventLines (Selects given (picks backend x)) limits call.world lines) here each;
              gains = subst (λ (ps : List Part). Gains (share_of ps) call.old call.new) all gains;
              status = ends ∙ ap (λ (ps : List Part). status_of (share_of ps).refused) all;
            })
        of places built parts others (doesnt_ask r (too_large large is) same) whole gains ends = absurd (omega (arith, large, short))
        of places built parts others (doesnt_ask r (unread few is) same) whole gains ends =
            let all : parts ≡ file_part schema no_share ∷ file_part file (refusal_share file r) ∷ [] = whole ∙ ap (λ (ps : List Part). file_part schema no_share ∷ ps) same in
            inr (record {
              refusal = r;
              gained = built.gained;
              follows = built.follows;
              of = built.told refl r (unread few is) (only limits given (contents call.world.files file) q places r within is);
              wrote = subst (λ (ps : List Part). Gains (share_of ps) call.old call.new) all gains;
              status = ends ∙ ap (λ (ps : List Part). status_of (share_of ps).refused) all;
            })

-- ---- both

abbrev pub OneQuery : BackendName → Type 0
OneQuery backend = (schema : Schema) (bytes : List ℕ) (p q : QueryOf backend) → is_query backend schema bytes p → is_query backend schema bytes q → p ≡ q

abbrev pub Feeds : BackendName → Type 0
Feeds backend = SameWithLineFeed (is_query backend) (is_within backend)

abbrev pub OnlyPatterns : BackendName → Type 0
OnlyPatterns backend = RefusedForPatterns (is_within backend) (refuses backend)

module _ (kept : EventsKept) (lone : OneLone) (as_built : AsBuilt) (built : AllBuilt) (is_unbuilt : IsUnbuilt) (among : IsAmongUnbuilt) (mean : AnswersMean) (never : yaml.NeverBoth) (list : yaml.OneList) (one_run : running.OneRun) (one_pipelines : files.OnePipelines)
    (feeds : (backend : BackendName) → Feeds backend) (only : (backend : BackendName) → OnlyPatterns backend) (one : (backend : BackendName) → OneQuery backend) where
  pub same_lines : SameLines
  same_lines limits backend convert run query calls =
      let has = convert_wrote as_built mean never list limits backend convert run query calls in
      let made : PlainRule = has.query.made in
      let q = has.query.means.query in
      let text : List ℕ = Text backend has.given made in
      let whole : contents query.world.files calls.file ≡ with_line_feed text = has.is in
      let short : length text ≤ limits.query_bytes = query_short backend has.query.unbuilt limits (by_priority has.ps) has.given has.query.top made has.query.converted in
      let behind = feeds backend limits has.given text q has.query.means.reads has.query.means.within short in
      let ran = run_answered limits run calls.schema calls.rule has.given (subst (λ (b : List ℕ). schema_of limits b ≡ Ok has.given) (sym calls.run_schema) has.schema) never list lone as_built built is_unbuilt among one_run one_pipelines
      calls.pipelines calls.runs has.piped has.ps (piped_too limits has.piped calls.pipelines convert.world run.world has.ps calls.run_pipelines has.are)
      has.query.rule (subst (λ (b : List ℕ). IsSingleRule [] limits b has.query.rule) (sym calls.run_rule) has.query.single) made has.query.makes
      (fits_none backend has.query.unbuilt limits (by_priority has.ps) has.given has.query.top made has.query.converted) in
      let asked = query_answered limits query calls.schema calls.file has.given (subst (λ (b : List ℕ). schema_of limits b ≡ Ok has.given) (sym calls.query_schema) has.schema) backend calls.asks q
      (subst (λ (b : List ℕ). is_query backend has.given b q) (sym whole) behind.0) (subst (λ (b : List ℕ). is_within backend limits has.given b q) (sym whole) behind.1)
      (subst (λ (b : List ℕ). length b ≤ most_bytes limits) (sym whole) (one_more text limits.query_bytes short)) (only backend) (one backend) in
      both has.given (λ row. Matches has.given.fields row made) (picks backend q) (λ row is. ((has.query.means.selects row is).1, (has.query.means.selects row is).0)) ran asked
    where
      alike : (given : Schema) (Picks Others : Picking) → ((row : List (List Value)) → IsEvent given.fields row → (Picks row ↔ Others row)) → Selected limits given Picks run → Selected limits given Others query
          → AnswersAlike run query
      alike given Picks Others same ran found =
          let lines : ran.lines ≡ found.lines = lines_same kept given Picks Others same limits run.world query.world ran.lines found.lines calls.query_events ran.each found.each in
          record {
            share = share_of ran.lines;
            run_wrote = ran.gains;
            query_wrote = subst (λ (ps : List Part). Gains (share_of ps) query.old query.new) (sym lines) found.gains;
            status = found.status ∙ (ap (λ (ps : List Part). status_of (share_of ps).refused) (sym lines) ∙ sym ran.status);
          }

      both : (given : Schema) (Picks Others : Picking) → ((row : List (List Value)) → IsEvent given.fields row → (Picks row ↔ Others row))
          → Selected limits given Picks run ⊎ (RefusesExpression calls.pipelines calls.rule run ⊎ RefusesPipelines calls.pipelines run) → Selected limits given Others query ⊎ RefusesPattern backend calls.file query
          → AnswersAlike run query ⊎ (RefusesPattern backend calls.file query ⊎ (RefusesExpression calls.pipelines calls.rule run ⊎ RefusesPipelines calls.pipelines run))
      both given Picks Others same (inl ran) (inl found) = inl (alike given Picks Others same ran found)
      both given Picks Others same (inl ran) (inr pattern) = inr (inl pattern)
      both given Picks Others same (inr expression) found = inr (inr expression)

-- ---- without refusals

nothing_gained : {A : Type 0} (xs ys : List A) → xs ++ ys ≡ xs → ys ≡ []
nothing_gained xs ys same = append_cancel_left xs ys [] (same ∙ sym (append-nil xs))

none_of_builder : (all : List PatternAt) (r : Refusal) → IsOfBuilder all [] r → ⊥
none_of_builder [] r is = is
none_of_builder (p ∷ all) r (inl is) = is.1
none_of_builder (p ∷ all) r (inr is) = none_of_builder all r is

-- where the builder refused nothing, `run` refuses no regular expression of the rule, and none of the file of pipelines
none_refused : {limits : Limits} (pipelines : Option (List ℕ)) (rule : List ℕ) (run : Call limits) → run.texts.after ≡ run.texts.before → RefusesExpression pipelines rule run ⊎ RefusesPipelines pipelines run → ⊥
none_refused pipelines rule run none (inl e) =
    subst (λ (g : List (List ℕ)). IsAmong e.expression.text g) (nothing_gained run.texts.before e.gained (sym e.follows ∙ none)) e.among
none_refused {limits} pipelines rule run none (inr e) =
    first_of e.causes e.some (subst (λ (g : List (List ℕ)). EachOf (IsOfRefused limits (contents run.world.files e.file) g) e.causes) (nothing_gained run.texts.before e.gained (sym e.follows ∙ none)) e.of)
  where
    first_of : (causes : List Refusal) → HasElement causes → EachOf (IsOfRefused limits (contents run.world.files e.file) []) causes → ⊥
    first_of [] some each = some
    first_of (r ∷ rs) some each = each.0.3

pub same_without_refusals : SameLines → SameWithoutRefusals
same_without_refusals same limits backend convert run query calls none none_too = elim (same limits backend convert run query calls) [
  | inl alike ↦ alike
  | inr (inl p) ↦ absurd (none_of_builder (patterns backend (contents query.world.files calls.file)) p.refusal
      (subst (λ (g : List (List ℕ)). IsOfBuilder (patterns backend (contents query.world.files calls.file)) g p.refusal)
      (nothing_gained query.texts.before p.gained (sym p.follows ∙ none_too)) p.of))
  | inr (inr e) ↦ absurd (none_refused calls.pipelines calls.rule run none e)
]

pub same_by_lucene : SameLines → SameByLucene
same_by_lucene same limits convert run query calls none = elim (same limits backends.Lucene convert run query calls) [
  | inl alike ↦ alike
  | inr (inl p) ↦ absurd p.of
  | inr (inr e) ↦ absurd (none_refused calls.pipelines calls.rule run none e)
]
