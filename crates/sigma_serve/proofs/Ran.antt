-- What running the rule of a file leaves, and that there is exactly one answer.
use Rattle.std.proofs.Common.{◌≡◌, ℕ, ◌+◌, Bool, true, false, List, [], ◌∷◌, ◌++◌, refl, ap, sym, ◌∙◌, subst, arith, append_assoc, append-nil, Option, Some, None, Result, Ok, Err, inl, inr}
use Rattle.std.specs.Prelude.{◌⊎◌, Contains}
use Rattle.answer_writer.proofs.Behind.{ends_behind}
use Rattle.answer_writer.proofs.Ending.{ends_written}
use Rattle.answer_writer.proofs.Lined.{each_answer, lines_one}
use Rattle.answer_writer.proofs.Shares.{cut_nothing}
use Rattle.answer_writer.proofs.Unread.{Begins, ends_unread}
use Rattle.answer_writer.specs.EventLines.{ByLine, EventLines}
use Rattle.answer_writer.specs.Input.{World, Needs, File, Events}
use Rattle.answer_writer.specs.Parts.{Share, Part, share_of, no_share, NoneOfEvents}
use Rattle.answer_writer.specs.Stands.{Writes, Ends, StopsBefore}
use Rattle.answer_writer.specs.State.{State}
use Rattle.answer_writer.specs.declared.stop.Stop.{Stop}
use Rattle.answer_writer.specs.declared.stop.Stop.TheVariants.{Memory}
use Rattle.detection_eval.specs.declared.ready.Ready.{Ready}
use Rattle.event_read.specs.SchemaOf.{schema_of}
use Rattle.event_schema.specs.declared.schema.Schema.{Schema}
use Rattle.pipeline_run.specs.Chained.{Makes}
use Rattle.pipeline_files.specs.Laws as pipelined
use Rattle.pipeline_files.specs.Outcomes.{AreCauses}
use Rattle.pipeline_model.specs.declared.pipeline.Pipeline.{Pipeline}
use Rattle.rule_regex.proofs.BuiltRows.{built_at, none_refused}
use Rattle.rule_regex.proofs.Lists.{zip_map}
use Rattle.rule_regex.specs.Building.{Builds}
use Rattle.rule_regex.specs.Unbuilt.{Unbuilt, none_unbuilt, of_values, refused_texts, AreUnbuilt, ArePlacesOf, IsOneOf, IsOfItem}
use Rattle.rule_model.specs.Expressions.{rule_expressions}
use Rattle.rule_model.specs.Plain.{PlainRule, rule_view, rule_with}
use Rattle.rule_model.specs.declared.rule.Rule.{Rule}
use Rattle.rule_run.proofs.Fronts.{single_places_front, run_front, not_run_front}
use Rattle.rule_run.proofs.Runs.{none_of_single, single_later}
use Rattle.rule_run.specs.Answers.{ForValues, IsBare}
use Rattle.rule_run.specs.Files.{single_tree}
use Rattle.rule_run.specs.Laws as files
use Rattle.rule_run.specs.Runs.{IsFit, IsUnfit, IsRun, IsNotRun, no_fit, not_built, AreOfTree, AreOfSingle}
use Rattle.rule_schema.specs.Inferred.{schema_for}
use Rattle.sig_base.specs.Files.{file_start, IsFront}
use Rattle.sig_base.specs.Judged.{refusal}
use Rattle.sig_base.specs.declared.limits.Limits.{Limits}
use Rattle.sig_base.specs.declared.refusal.Fault.TheVariants as fault
use Rattle.sig_base.specs.declared.refusal.Place.{Place}
use Rattle.sig_base.specs.declared.refusal.Refusal.{Refusal}
use Rattle.sigma_serve.proofs.Fronts.{file_is}
use Rattle.sigma_serve.proofs.Trees.{cut}
use Rattle.sigma_serve.specs.Laws.{AsksUnlessUnrun, AsksNoneUnschemed, AsksNoneUnpiped, EachRan, EachSelected, EachUnder, OneUnder}
use Rattle.sigma_serve.specs.Ran.{RunGives, RanUnder, runs, isnt_run, RanBySome}
use Rattle.sigma_serve.specs.Reports.{refusal_share}
use Rattle.sigma_serve.specs.RuleFiles.{contents}
use Rattle.sigma_serve.specs.UnderPipelines.{unpiped, piped_by, not_piped}
use Rattle.sigma_serve.specs.UnderSchema.{file_part, is_ended, without, under, refused}
use Rattle.yaml_documents.specs.Verdicts as yaml
use Rattle.yaml_tree.specs.Tree.{Member, Tree, Answer}

-- each line is answered in one way
abbrev pub OneLine : ByLine → Type 0
OneLine by = (number : ℕ) (line : List ℕ) (a b : Share) → by number line a → by number line b → a ≡ b

-- ---- exactly one answer

pub each_ran : files.EachRun → EachSelected → EachRan
each_ran each lines limits unbuilt file ps given world = by (each unbuilt limits ps given (contents world.files file))
  where
    by : ((made : PlainRule) × IsRun unbuilt limits ps given (contents world.files file) made) ⊎ ((r : Refusal) × IsNotRun unbuilt limits ps given (contents world.files file) r)
        → (parts : List Part) × RanUnder limits unbuilt file ps given world parts
    by (inl (made, run)) =
        let all = each_answer (RunGives (schema_for given made) made) limits (lines (schema_for given made) made) world in
        (file_part file no_share ∷ all.0, runs made run all.0 all.1 refl)
    by (inr (r, is)) = (file_part file (refusal_share file r) ∷ [], isnt_run r is refl)

pub one_ran : files.NeverBoth → files.OneRun → files.OneCause → ((schema : Schema) (rule : PlainRule) → OneLine (RunGives schema rule)) → (limits : Limits) (unbuilt : Unbuilt) (file : List ℕ) (ps : List Pipeline)
    → OneUnder (RanUnder limits unbuilt file ps)
one_ran never one cause line limits unbuilt file ps given world a b (runs made run lines each same) (runs other other_run other_lines other_each same_too) =
    let is : other ≡ made = one unbuilt unbuilt limits ps given (contents world.files file) other made other_run run in
    let lines_same : lines ≡ other_lines = lines_one (RunGives (schema_for given made) made) limits (line (schema_for given made) made) world lines other_lines each
    (subst (λ (r : PlainRule). EventLines (RunGives (schema_for given r) r) limits world other_lines) is other_each) in
    same ∙ (ap (λ (l : List Part). file_part file no_share ∷ l) lines_same ∙ sym same_too)
one_ran never one cause line limits unbuilt file ps given world a b (runs made run lines each same) (isnt_run r is same_too) =
    absurd (never unbuilt limits ps given (contents world.files file) made r run is)
one_ran never one cause line limits unbuilt file ps given world a b (isnt_run r is same) (runs made run lines each same_too) =
    absurd (never unbuilt limits ps given (contents world.files file) made r run is)
one_ran never one cause line limits unbuilt file ps given world a b (isnt_run r is same) (isnt_run s too same_too) =
    same ∙ (ap (λ (x : Refusal). file_part file (refusal_share file x) ∷ []) (cause unbuilt limits ps given (contents world.files file) r s is too) ∙ sym same_too)

-- there is an answer that is cut off before anything is built
pub each_ran_cut : EachRan → (limits : Limits) (file : List ℕ) (ps : List Pipeline) (texts : List (List ℕ)) → EachUnder (RanBySome limits file ps texts texts false)
each_ran_cut each limits file ps texts given world =
    let all = each limits none_unbuilt file ps given world in
    (all.0, record { unbuilt = none_unbuilt; follows = sym (append-nil texts); are = none_of_single limits ps (contents world.files file); ran = all.1 })

-- ---- which answers ask for events

not_of_events : (file : List ℕ) → Some (File file) ≡ Some Events → ⊥
not_of_events file is = cc

quiet : (file : List ℕ) (share : Share) → NoneOfEvents (file_part file share ∷ [])
quiet file share = (not_of_events file, tt)

pub asks_unless_unrun : files.NeverBoth → AsksUnlessUnrun
asks_unless_unrun never limits unbuilt file ps given world parts (runs made run lines each same) = (
  (λ none. absurd ((subst NoneOfEvents (same ∙ ap (λ (l : List Part). file_part file no_share ∷ l) each.2) none).1.0 refl)),
  (λ is. absurd (never unbuilt limits ps given (contents world.files file) made is.0 run is.1)),
)
asks_unless_unrun never limits unbuilt file ps given world parts (isnt_run r is same) =
    ((λ none. (r, is)), (λ other. subst NoneOfEvents (sym same) (quiet file (refusal_share file r))))

not_named : (name : List ℕ) → Some name ≡ None → ⊥
not_named name same = cc

named : (a b : List ℕ) → Some a ≡ Some b → a ≡ b
named a b both = cc

pub asks_none_unschemed : AsksNoneUnschemed
asks_none_unschemed limits piped unbuilt schema file pipelines world parts code refused_so (without is other) = absurd (not_named schema is)
asks_none_unschemed limits piped unbuilt schema file pipelines world parts code refused_so (under name is given so others other same) =
    absurd (not_both (sym (subst (λ (n : List ℕ). schema_of limits (contents world.files n) ≡ Err code) (named schema name is) refused_so) ∙ so))
  where
    not_both : Err code ≡ Ok given → ⊥
    not_both both = cc
asks_none_unschemed limits piped unbuilt schema file pipelines world parts code refused_so (refused name is other_code so same) =
    subst NoneOfEvents (sym same) (quiet name (refusal_share name (refusal other_code file_start)))

pub asks_none_unpiped : pipelined.NeverBoth → AsksNoneUnpiped
asks_none_unpiped never limits piped unbuilt pipelines file given world parts causes refused_so (unpiped is other) = absurd (not_named pipelines is)
asks_none_unpiped never limits piped unbuilt pipelines file given world parts causes refused_so (piped_by name is ps are others other same) =
    absurd (never piped limits (contents world.files name) ps causes are
    (subst (λ (n : List ℕ). AreCauses piped limits (contents world.files n) causes) (named pipelines name is) refused_so))
asks_none_unpiped never limits piped unbuilt pipelines file given world parts causes refused_so (not_piped name is others are share reported same) =
    subst NoneOfEvents (sym same) (quiet name share)

-- ---- the rule of a file, and its places

-- places of values alone are places whatever is made of rules
pub values_alone : (limits : Limits) (ps : List Pipeline) (bytes : List ℕ) (ended : Bool) (values : List Place) (earlier : List (List ℕ)) → AreOfSingle limits [] bytes ended (of_values values earlier)
    → AreOfSingle limits ps bytes ended (of_values values earlier)
values_alone limits ps bytes ended values earlier are = record { tree = λ documents taken. by (single_tree documents) (are.tree documents taken); whole = are.whole }
  where
    by : (r : Result Tree Refusal) → AreOfTree limits [] r ended (of_values values earlier) → AreOfTree limits ps r ended (of_values values earlier)
    by (Ok top) read = record { values = read.values; items = tt; ill = read.ill }
    by (Err r) none = none

-- the rule and these places of a file's bytes, and why there is none that fits
abbrev FitsAt : Limits → List Pipeline → Option Schema → List Place → List (List ℕ) → PlainRule → List ℕ → Type 0
FitsAt limits ps given values earlier made bytes = AreOfSingle limits [] bytes true (of_values values earlier) × IsFit values limits ps given bytes made

abbrev RunsAt : Limits → List Pipeline → Option Schema → Bool → Unbuilt → PlainRule → List ℕ → Type 0
RunsAt limits ps given ended unbuilt made bytes = AreOfSingle limits ps bytes ended unbuilt × IsRun unbuilt limits ps given bytes made

abbrev RunsNone : Limits → List Pipeline → Option Schema → Bool → Unbuilt → Refusal → List ℕ → Type 0
RunsNone limits ps given ended unbuilt r bytes = AreOfSingle limits ps bytes ended unbuilt × IsNotRun unbuilt limits ps given bytes r

-- and the places of its items at which regular expressions aren't built when it's made ready
fit_places : yaml.NeverBoth → yaml.OneList → (limits : Limits) (ps : List Pipeline) (given : Option Schema) (bytes : List ℕ) (values items : List Place) (earlier more : List (List ℕ)) (made : PlainRule)
    → FitsAt limits ps given values earlier made bytes → ArePlacesOf (IsOneOf (rule_expressions made)) more items
    → AreOfSingle limits ps bytes true (record { values = values; refused_values = earlier; items = items; refused_items = more })
fit_places never list limits ps given bytes values items earlier more made (are, fit) of =
    let documents : List Answer = fit.rule.single.documents in
    let top : Tree = fit.rule.single.only.top in
    let all : Unbuilt = record { values = values; refused_values = earlier; items = items; refused_items = more } in
    let read : AreUnbuilt (Makes limits []) limits top true (of_values values earlier) =
    subst (λ (r : Result Tree Refusal). AreOfTree limits [] r true (of_values values earlier)) fit.rule.single.only.single (are.tree documents fit.rule.single.taken) in
    let here : AreUnbuilt (Makes limits ps) limits top true all = record {
      values = read.values;
      items = zip_map (λ text place. IsOneOf (rule_expressions made) (record { place = place; text = text })) (λ text place. IsOfItem (Makes limits ps) top (record { place = place; text = text }))
          (λ text place one. (fit.rule.rule, fit.rule.single.only.lone.is, made, fit.rule.makes, one)) more items of;
      ill = read.ill;
    } in
    record {
      tree = λ others taken. subst (λ (ds : List Answer). AreOfTree limits ps (single_tree ds) true all)
          (list limits.file_bytes limits.documents limits.yaml_depth bytes documents others fit.rule.single.taken taken)
          (subst (λ (r : Result Tree Refusal). AreOfTree limits ps r true all) (sym fit.rule.single.only.single) here);
      whole = λ p is. absurd (never limits.file_bytes limits.documents limits.yaml_depth bytes documents p fit.rule.single.taken is);
    }

-- the entries of its head decide nothing of the schema that is made of it
made_with : (given : Option Schema) (rest : List Member) (rule : PlainRule) → schema_for given rule ≡ schema_for given (rule_with rest rule)
made_with None rest rule = refl
made_with (Some schema) rest rule = refl

-- ---- what running a file leaves

module _ (limits : Limits) (file : List ℕ) (ps : List Pipeline) (given : Option Schema) where
  abbrev needs : Needs
  needs = record { names = file ∷ []; events = true }

  there : Contains (file ∷ []) file
  there = (0, omega arith, refl)

  none_there : (n : List ℕ) → Contains [] n → Contains (file ∷ []) n
  none_there n (i, below, is) = absurd (omega (arith, below))

  begins : (unbuilt : Unbuilt) (world : World) (parts : List Part) → RanUnder limits unbuilt file ps given world parts → Begins file parts
  begins unbuilt world parts (runs rule run lines each same) = (file_part file no_share, lines, same, refl)
  begins unbuilt world parts (isnt_run r is same) = (file_part file (refusal_share file r), [], same, refl)

  -- the file couldn't be read
  pub run_unread : (texts : List (List ℕ)) → EachUnder (RanBySome limits file ps texts texts false) → (stop : Stop) (old new : State) → StopsBefore file stop old new
      → Ends needs (RanBySome limits file ps texts texts false given) (Err stop) old new
  run_unread texts each stop old new stops =
      ends_unread needs (RanBySome limits file ps texts texts false given) file old new there stop (λ world. let a = each given world in (a.0, a.1, begins a.1.unbuilt world a.0 a.1.ran)) stops

  -- the places of a file's bytes are those of the file that is told, also where the answer may have been cut off
  placed : (ended later : Bool) → (later ≡ true → ended ≡ true) → (unbuilt : Unbuilt) (bytes : List ℕ) (s : State) → IsFront s.inputs.files file (limits.file_bytes + 1) bytes → AreOfSingle limits ps bytes ended unbuilt
      → (world : World) → s.inputs.files ≡ Some world.files → AreOfSingle limits ps (contents world.files file) later unbuilt
  placed ended later so unbuilt bytes s front are world told =
      single_later limits ps ended later so unbuilt (contents world.files file)
      (file_is (limits.file_bytes + 1) (λ bs. AreOfSingle limits ps bs ended unbuilt) file (λ bs so_front. single_places_front limits bs ps ended unbuilt so_front) s.inputs.files world.files bytes told front are)

  -- memory was missing
  pub run_memory : EachRan → (before after : List (List ℕ)) (bytes : List ℕ) (s : State) → IsFront s.inputs.files file (limits.file_bytes + 1) bytes → (unbuilt : Unbuilt)
      → after ≡ before ++ refused_texts unbuilt → (ended : Bool) → AreOfSingle limits ps bytes ended unbuilt → Ends needs (RanBySome limits file ps before after false given) (Err Memory) s s
  run_memory each before after bytes s front unbuilt follows ended are = record {
    unread = None;
    cause = refl;
    stands = λ world told. let a = each limits unbuilt file ps given world in (
      a.0,
      record { unbuilt = unbuilt; follows = follows; are = placed ended false cut unbuilt bytes s front are world (told.files file there); ran = a.1 },
      cut_nothing (share_of a.0) s.streams,
      λ _. (refl, refl),
    );
    files = refl;
    apart = λ _. (refl, refl);
    kept = refl;
  }

  module _ (before after : List (List ℕ)) (bytes : List ℕ) (old new : State) (front : IsFront old.inputs.files file (limits.file_bytes + 1) bytes) (unbuilt : Unbuilt) (follows : after ≡ before ++ refused_texts unbuilt) where
    -- the file isn't run
    pub run_refused : (r : Refusal) (result : Result Bool Stop) → RunsNone limits ps given true unbuilt r bytes
        → Writes (λ share. share ≡ refusal_share file r) result old new → Ends needs (RanBySome limits file ps before after (is_ended result) given) result old new
    run_refused r result is wrote =
        ends_written needs (RanBySome limits file ps before after (is_ended result) given) (λ share. share ≡ refusal_share file r) (Some (File file)) result old new
        (λ world told share same. record {
          unbuilt = unbuilt;
          follows = follows;
          are = placed true (is_ended result) (λ _. refl) unbuilt bytes old front is.0 world (told.files file there);
          ran = isnt_run r (file_is (limits.file_bytes + 1) (λ bs. IsNotRun unbuilt limits ps given bs r) file (λ bs so. not_run_front limits bs ps unbuilt given r so) old.inputs.files world.files bytes (told.files file there) front is.1)
              (ap (λ (s : Share). file_part file s ∷ []) same);
        }) wrote

    -- the file is run, and the lines of events are answered
    pub run_answered : (rule : PlainRule) (result : Result Bool Stop) → RunsAt limits ps given true unbuilt rule bytes
        → Ends (record { names = []; events = true }) (EventLines (RunGives (schema_for given rule) rule) limits) result old new
        → Ends needs (RanBySome limits file ps before after (is_ended result) given) result old new
    run_answered rule result is e =
        ends_behind needs (record { names = []; events = true }) (file_part file no_share ∷ []) refl none_there refl
        (EventLines (RunGives (schema_for given rule) rule) limits) (RanBySome limits file ps before after (is_ended result) given) result old new
        (λ world told parts lines. record {
          unbuilt = unbuilt;
          follows = follows;
          are = placed true (is_ended result) (λ _. refl) unbuilt bytes old front is.0 world (told.files file there);
          ran = runs rule (file_is (limits.file_bytes + 1) (λ bs. IsRun unbuilt limits ps given bs rule) file (λ bs so. run_front limits bs ps unbuilt given rule so) old.inputs.files world.files bytes (told.files file there) front is.1)
              parts lines refl;
        }) e

  -- of values alone
  pub values_follow : (before after : List (List ℕ)) (values : List Place) (refused_so : List (List ℕ)) → after ≡ before ++ refused_so → after ≡ before ++ refused_texts (of_values values refused_so)
  values_follow before after values refused_so follows = follows ∙ ap (λ (l : List (List ℕ)). before ++ l) (sym (append-nil refused_so))

  module _ (before middle after : List (List ℕ)) (bytes : List ℕ) (old new : State) (front : IsFront old.inputs.files file (limits.file_bytes + 1) bytes) where
    -- there is no rule that fits
    pub run_unfit : (r : Refusal) (result : Result Bool Stop) → ForValues limits bytes before after true (λ values. IsUnfit values limits ps given bytes r)
        → Writes (λ share. share ≡ refusal_share file r) result old new → Ends needs (RanBySome limits file ps before after (is_ended result) given) result old new
    run_unfit r result some wrote =
        run_refused before after bytes old new front (of_values some.values some.refused) (values_follow before after some.values some.refused some.follows) r result (values_alone limits ps bytes true some.values some.refused some.are, no_fit some.says) wrote

    module _ (rule : Rule) (some : ForValues limits bytes before middle true (λ values. IsBare (IsFit values limits ps given bytes) rule)) where
      abbrev whole : PlainRule
      whole = rule_with some.says.0 (rule_view rule)

      abbrev read : Unbuilt
      read = of_values some.values some.refused

      -- a regular expression of the rule isn't built
      pub run_unbuilt : yaml.NeverBoth → yaml.OneList → (r : Refusal) (result : Result Bool Stop) → Builds {X = Ready} (λ ready. Unit {0}) (rule_expressions (rule_view rule)) middle after (Err (fault.Refused r))
          → Writes (λ share. share ≡ refusal_share file r) result old new → Ends needs (RanBySome limits file ps before after (is_ended result) given) result old new
      run_unbuilt never list r result built wrote =
          let at = built_at {X = Ready} (λ ready. Unit {0}) (rule_expressions (rule_view rule)) middle after (Err (fault.Refused r)) built in
          run_refused before after bytes old new front (record { values = some.values; refused_values = some.refused; items = at.items; refused_items = at.refused })
          (at.follows ∙ (ap (λ (l : List (List ℕ)). l ++ at.refused) some.follows ∙ append_assoc before some.refused at.refused)) r result
          (fit_places never list limits ps given bytes some.values at.items some.refused at.refused whole (some.are, some.says.1) at.places, not_built whole some.says.1 at.judged) wrote

      -- all are built, and the lines of events are answered
      pub run_ready : (schema : Schema) (result : Result Bool Stop) → after ≡ middle → schema ≡ schema_for given (rule_view rule)
          → Ends (record { names = []; events = true }) (EventLines (RunGives schema (rule_view rule)) limits) result old new
          → Ends needs (RanBySome limits file ps before after (is_ended result) given) result old new
      run_ready schema result same is e =
          run_answered before after bytes old new front read (values_follow before after some.values some.refused (same ∙ some.follows)) whole result
          (values_alone limits ps bytes true some.values some.refused some.are, record { fit = some.says.1; built = none_refused (rule_expressions (rule_view rule)) })
          (subst (λ (s : Schema). Ends (record { names = []; events = true }) (EventLines (RunGives s (rule_view rule)) limits) result old new) (is ∙ made_with given some.says.0 (rule_view rule)) e)

      -- memory was missing for them
      pub run_unready : EachRan → after ≡ middle → Ends needs (RanBySome limits file ps before after false given) (Err Memory) old old
      run_unready each same = run_memory each before after bytes old front read (values_follow before after some.values some.refused (same ∙ some.follows)) true (values_alone limits ps bytes true some.values some.refused some.are)
