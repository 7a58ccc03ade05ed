-- The places of a request: what is answered under a schema for some places is the answer to the request for these.
use Rattle.std.proofs.Common.{◌≡◌, ℕ, Bool, true, false, List, [], refl, sym, ◌∙◌, subst, ◌∷◌, Option, Some, None, Result, Ok, Err, inl, inr}
use Rattle.answer_writer.proofs.Ending.{ends_as}
use Rattle.answer_writer.specs.Input.{World, Needs}
use Rattle.answer_writer.specs.Parts.{Part, no_share}
use Rattle.answer_writer.specs.Stands.{Ends}
use Rattle.answer_writer.specs.State.{State}
use Rattle.answer_writer.specs.declared.stop.Stop.{Stop}
use Rattle.event_read.specs.SchemaOf.{schema_of}
use Rattle.event_schema.specs.declared.schema.Schema.{Schema}
use Rattle.event_schema.specs.declared.schema.Time.{Time}
use Rattle.pipeline_run.specs.Priorities.{by_priority}
use Rattle.pipeline_files.specs.Laws as files
use Rattle.pipeline_files.specs.Outcomes.{ArePipelines, AreCauses}
use Rattle.pipeline_model.specs.declared.pipeline.Pipeline.{Pipeline}
use Rattle.rule_regex.specs.Unbuilt.{Unbuilt, none_unbuilt}
use Rattle.rule_convert.specs.declared.backend_name.BackendName.{BackendName}
use Rattle.rule_run.proofs.Runs.{single_later}
use Rattle.sig_base.specs.declared.limits.Limits.{Limits}
use Rattle.sig_base.specs.declared.refusal.Refusal.{Refusal}
use Rattle.sigma_serve.proofs.Filed.{files_placed}
use Rattle.sigma_serve.proofs.Piped.{piped_later}
use Rattle.sigma_serve.proofs.Placed.{files_later}
use Rattle.sigma_serve.proofs.Trees.{cut}
use Rattle.sigma_serve.specs.Answers.{Places, IsSchemed, IsTimed, IsUntimed, AreChecked, AreRun, ArePlaces, Answers}
use Rattle.sigma_serve.specs.Check.{CheckGives}
use Rattle.sigma_serve.specs.Convert.{ConvertGives}
use Rattle.sigma_serve.specs.Converted.{RulesAt, RulesBySome, PipedRules}
use Rattle.sigma_serve.specs.Correlated.{CorrelatedUnder, Timed, untimed, timed, PipedCorrelated, FilesCorrelated, TimedBySome, TimedBy}
use Rattle.sigma_serve.specs.Generate.{Generated}
use Rattle.sigma_serve.specs.Languages.{AskedBy, AreOfQuery}
use Rattle.sigma_serve.specs.Ran.{RanUnder, RanBySome, PipedRun}
use Rattle.sigma_serve.specs.RuleFiles.{FilesBySome, contents}
use Rattle.sigma_serve.specs.UnderPipelines.{UnderPipelines, unpiped, piped_by, not_piped, ArePiped, ByPipelines, PipedBuilder, PipedPlaces}
use Rattle.sigma_serve.specs.UnderSchema.{UnderSchema, without, under, refused, file_part, IsUnschemed, UnderBuilder}
use Rattle.sigma_serve.specs.declared.request.Request.{Request}
use Rattle.sigma_serve.specs.declared.request.Request.TheVariants.{Check, Convert, Run, Query, Correlate, Generate}
use Rattle.query_tokens.specs.Places.{CodeAt}

-- ---- places of one kind

abbrev pub nowhere : Places
nowhere = record { pipelines = []; documents = []; rule = none_unbuilt; query = [] }

abbrev pub in_documents : List Unbuilt → List (List Unbuilt) → Places
in_documents pipelines documents = record { pipelines = pipelines; documents = documents; rule = none_unbuilt; query = [] }

abbrev pub in_rule : List Unbuilt → Unbuilt → Places
in_rule pipelines rule = record { pipelines = pipelines; documents = []; rule = rule; query = [] }

abbrev pub in_query : List CodeAt → Places
in_query query = record { pipelines = []; documents = []; rule = none_unbuilt; query = query }

-- ---- rule files that are checked

pub check_answers : (limits : Limits) (rules : List (List ℕ)) (before after : List (List ℕ)) (ended : Bool) (needs : Needs) (result : Result Bool Stop) (old new : State)
    → Ends needs (FilesBySome (CheckGives limits) limits [] before after ended rules) result old new → Ends needs (Answers limits before after ended (Check rules)) result old new
check_answers limits rules before after ended needs result old new e =
    ends_as needs (FilesBySome (CheckGives limits) limits [] before after ended rules) (Answers limits before after ended (Check rules)) result old new
    (λ w ps some. let placed = files_placed (CheckGives limits) limits [] before after ended rules w ps some in (in_documents [] placed.0, placed.1, placed.2)) e

-- ---- a schema's file

abbrev taken : Schema → Result Schema ℕ
taken s = Ok s

ok_is : (r : Result Schema ℕ) (a b : Schema) → r ≡ Ok a → r ≡ Ok b → a ≡ b
ok_is r a b first second = by (sym first ∙ second)
  where
    by : taken a ≡ taken b → a ≡ b
    by same = cc

not_both : (r : Result Schema ℕ) (a : Schema) (code : ℕ) → r ≡ Ok a → r ≡ Err code → ⊥
not_both r a code first second = apart (sym first ∙ second)
  where
    apart : Ok a ≡ Err code → ⊥
    apart same = cc

none_some : (schema file : List ℕ) → Some schema ≡ None → ⊥
none_some schema file same = cc

some_is : (schema file : List ℕ) → Some schema ≡ Some file → file ≡ schema
some_is schema file same = cc

-- the schema is refused
not_schemed : (limits : Limits) (schema : Option (List ℕ)) (file : List ℕ) (world : World) (code : ℕ) → schema ≡ Some file → schema_of limits (contents world.files file) ≡ Err code
    → IsSchemed limits schema world → ⊥
not_schemed limits schema file world code is so schemed =
    let given = subst (λ (s : Option (List ℕ)). IsSchemed limits s world) is schemed in not_both (schema_of limits (contents world.files file)) given.0 code given.1 so

-- ---- a file of pipelines

pipelines_is : (name other : List ℕ) → Some name ≡ Some other → other ≡ name
pipelines_is name other same = cc

-- the pipelines of the file are these, or there are none where no file is named
same_piped : files.OnePipelines → (limits : Limits) (piped : List Unbuilt) (file : Option (List ℕ)) (name : List ℕ) (world : World) (ps qs : List Pipeline) → file ≡ Some name
    → ArePipelines piped limits (contents world.files name) ps → ArePiped limits piped file world qs → ps ≡ qs
same_piped one limits piped None name world ps qs is are piped_so = absurd cc
same_piped one limits piped (Some other) name world ps qs is are piped_so =
    one piped piped limits (contents world.files other) ps qs (subst (λ (n : List ℕ). ArePipelines piped limits (contents world.files n) ps) (pipelines_is other name is) are) piped_so

none_piped_so : (limits : Limits) (piped : List Unbuilt) (file : Option (List ℕ)) (world : World) (qs : List Pipeline) → file ≡ None → ArePiped limits piped file world qs → qs ≡ []
none_piped_so limits piped None world qs is none = none
none_piped_so limits piped (Some name) world qs is are = absurd cc

not_piped_so : files.NeverBoth → (limits : Limits) (piped : List Unbuilt) (file : Option (List ℕ)) (name : List ℕ) (world : World) (causes : List Refusal) (qs : List Pipeline) → file ≡ Some name
    → AreCauses piped limits (contents world.files name) causes → ArePiped limits piped file world qs → ⊥
not_piped_so never limits piped None name world causes qs is refused_so piped_too = absurd cc
not_piped_so never limits piped (Some other) name world causes qs is refused_so piped_too =
    never piped limits (contents world.files other) qs causes piped_too (subst (λ (n : List ℕ). AreCauses piped limits (contents world.files n) causes) (pipelines_is other name is) refused_so)

-- What is answered by pipelines for some places is the answer for these: `At` says what is answered for places of one kind, and `Are` what
-- these are.
module _ (one : files.OnePipelines) (never : files.NeverBoth) (limits : Limits) (file : Option (List ℕ)) (before after : List (List ℕ)) (ended : Bool) (given : Option Schema) (world : World)
    {Kind : Type 0} (nothing : Kind) (by : ByPipelines) (At : Kind → List Pipeline → World → List Part → Type 0) (Are : Kind → List Pipeline → List (List ℕ) → List (List ℕ) → Type 0)
    (placed : (ps : List Pipeline) (middle : List (List ℕ)) (parts : List Part) → by ps middle after ended given world parts → (kind : Kind) × Are kind ps middle after × At kind ps world parts) where
  pub piped_places : (parts : List Part) → PipedBuilder by limits file before after ended given world parts
      → (piped : List Unbuilt) × (kind : Kind) × PipedPlaces (Are kind) limits file before after ended world piped × UnderPipelines (At kind) limits piped file world parts
  piped_places parts b = of b.answer
    where
      some : (kind : Kind) → ((ps : List Pipeline) → ArePiped limits b.piped file world ps → Are kind (by_priority ps) b.middle after) → PipedPlaces (Are kind) limits file before after ended world b.piped
      some kind behind = record { middle = b.middle; follows = b.follows; are = b.are; behind = behind; still = b.still }

      of : UnderPipelines (λ ps. by ps b.middle after ended given) limits b.piped file world parts
          → (piped : List Unbuilt) × (kind : Kind) × PipedPlaces (Are kind) limits file before after ended world piped × UnderPipelines (At kind) limits piped file world parts
      of (unpiped is other) =
          let at = placed [] b.middle parts other in (
            b.piped,
            at.0,
            some at.0 (λ qs piped_so. subst (λ (l : List Pipeline). Are at.0 (by_priority l) b.middle after) (sym (none_piped_so limits b.piped file world qs is piped_so)) at.1),
            unpiped is at.2,
          )
      of (piped_by name is ps are others other same) =
          let at = placed (by_priority ps) b.middle others other in (
            b.piped,
            at.0,
            some at.0 (λ qs piped_so. subst (λ (l : List Pipeline). Are at.0 (by_priority l) b.middle after) (same_piped one limits b.piped file name world ps qs is are piped_so) at.1),
            piped_by name is ps are others at.2 same,
          )
      of (not_piped name is causes are share reported same) = (
        b.piped,
        nothing,
        some nothing (λ qs piped_so. absurd (not_piped_so never limits b.piped file name world causes qs is are piped_so)),
        not_piped name is causes are share reported same,
      )

-- ---- rule files that are converted, and one that is run

module _ (one : files.OnePipelines) (never : files.NeverBoth) (limits : Limits) (before after : List (List ℕ)) (ended : Bool) (schema pipelines : Option (List ℕ)) where
  module _ (backend : BackendName) (rules : List (List ℕ)) (world : World) where
    converted_places : (given : Option Schema) (parts : List Part) → PipedBuilder (RulesBySome (ConvertGives backend limits) limits rules) limits pipelines before after ended given world parts
        → (piped : List Unbuilt) × (documents : List (List Unbuilt))
        × PipedPlaces (AreChecked limits ended rules world (in_documents piped documents)) limits pipelines before after ended world piped
        × PipedRules (ConvertGives backend limits) limits piped documents pipelines rules given world parts
    converted_places given parts b =
        let all = piped_places one never limits pipelines before after ended given world [] (RulesBySome (ConvertGives backend limits) limits rules)
        (λ documents ps. RulesAt (ConvertGives backend limits) limits documents rules ps given) (λ documents. AreChecked limits ended rules world (in_documents [] documents))
        (λ ps middle parts_too some. files_placed (ConvertGives backend limits ps given) limits ps middle after ended rules world parts_too some) parts b in
        (all.0, all.1, record { middle = all.2.middle; follows = all.2.follows; are = all.2.are; behind = all.2.behind; still = all.2.still }, all.3)

    pub convert_places : (parts : List Part) → (IsUnschemed limits schema world → after ≡ before)
        → UnderSchema (PipedBuilder (RulesBySome (ConvertGives backend limits) limits rules) limits pipelines before after ended) limits schema world parts
        → Answers limits before after ended (Convert backend schema pipelines rules) world parts
    convert_places parts still (without is some) =
        let placed = converted_places None parts some in (in_documents placed.0 placed.1, ((λ _. placed.2), still), without is placed.3)
    convert_places parts still (under file is given so others some same) =
        let placed = converted_places (Some given) others some in (in_documents placed.0 placed.1, ((λ _. placed.2), still), under file is given so others placed.3 same)
    convert_places parts still (refused file is code so same) =
        (nowhere, ((λ schemed. absurd (not_schemed limits schema file world code is so schemed)), still), refused file is code so same)

  module _ (rule : List ℕ) (world : World) where
    ran_places : (given : Option Schema) (parts : List Part) → PipedBuilder (RanBySome limits rule) limits pipelines before after ended given world parts
        → (piped : List Unbuilt) × (unbuilt : Unbuilt)
        × PipedPlaces (AreRun limits ended rule world (in_rule piped unbuilt)) limits pipelines before after ended world piped
        × PipedRun limits piped unbuilt pipelines rule given world parts
    ran_places given parts b =
        let all = piped_places one never limits pipelines before after ended given world none_unbuilt (RanBySome limits rule)
        (λ unbuilt ps. RanUnder limits unbuilt rule ps given) (λ unbuilt. AreRun limits ended rule world (in_rule [] unbuilt))
        (λ ps middle parts_too some. (some.unbuilt, (some.follows, some.are), some.ran)) parts b in
        (all.0, all.1, record { middle = all.2.middle; follows = all.2.follows; are = all.2.are; behind = all.2.behind; still = all.2.still }, all.3)

    pub run_places : (parts : List Part) → (IsUnschemed limits schema world → after ≡ before)
        → UnderSchema (PipedBuilder (RanBySome limits rule) limits pipelines before after ended) limits schema world parts → Answers limits before after ended (Run schema pipelines rule) world parts
    run_places parts still (without is some) = let placed = ran_places None parts some in (in_rule placed.0 placed.1, ((λ _. placed.2), still), without is placed.3)
    run_places parts still (under file is given so others some same) =
        let placed = ran_places (Some given) others some in (in_rule placed.0 placed.1, ((λ _. placed.2), still), under file is given so others placed.3 same)
    run_places parts still (refused file is code so same) =
        (nowhere, ((λ schemed. absurd (not_schemed limits schema file world code is so schemed)), still), refused file is code so same)

  module _ (needs : Needs) (result : Result Bool Stop) (old new : State) where
    pub convert_answers : (backend : BackendName) (rules : List (List ℕ))
        → Ends needs (UnderBuilder (PipedBuilder (RulesBySome (ConvertGives backend limits) limits rules) limits pipelines) limits schema before after ended) result old new
        → Ends needs (Answers limits before after ended (Convert backend schema pipelines rules)) result old new
    convert_answers backend rules e =
        ends_as needs (UnderBuilder (PipedBuilder (RulesBySome (ConvertGives backend limits) limits rules) limits pipelines) limits schema before after ended)
        (Answers limits before after ended (Convert backend schema pipelines rules)) result old new
        (λ w ps u. convert_places backend rules w ps u.still u.answer) e

    pub run_answers : (rule : List ℕ) → Ends needs (UnderBuilder (PipedBuilder (RanBySome limits rule) limits pipelines) limits schema before after ended) result old new
        → Ends needs (Answers limits before after ended (Run schema pipelines rule)) result old new
    run_answers rule e =
        ends_as needs (UnderBuilder (PipedBuilder (RanBySome limits rule) limits pipelines) limits schema before after ended) (Answers limits before after ended (Run schema pipelines rule)) result old new
        (λ w ps u. run_places rule w ps u.still u.answer) e

-- ---- rule files that are correlated, under a schema

no_time : (o : Option Time) (t : Time) → o ≡ Some t → o ≡ None → ⊥
no_time o t some none = apart (sym some ∙ none)
  where
    apart : Some t ≡ None → ⊥
    apart same = cc

module _ (one : files.OnePipelines) (never : files.NeverBoth) (limits : Limits) (before after : List (List ℕ)) (ended : Bool) (schema : List ℕ) (pipelines : Option (List ℕ)) (rules : List (List ℕ)) where
  abbrev Correlated : ByPipelines
  Correlated = FilesCorrelated limits rules

  module _ (world : World) where
    correlated_places : (given : Schema) (parts : List Part) → PipedBuilder Correlated limits pipelines before after ended (Some given) world parts
        → (piped : List Unbuilt) × (documents : List (List Unbuilt))
        × PipedPlaces (AreChecked limits ended rules world (in_documents piped documents)) limits pipelines before after ended world piped
        × PipedCorrelated limits piped documents pipelines rules given world parts
    correlated_places given parts b =
        let all = piped_places one never limits pipelines before after ended (Some given) world [] Correlated
        (λ documents ps. CorrelatedUnder limits given documents rules ps) (λ documents. AreChecked limits ended rules world (in_documents [] documents))
        (λ ps middle parts_too some. (some.unbuilt, (some.follows, some.are), some.correlated)) parts b in
        (all.0, all.1, record { middle = all.2.middle; follows = all.2.follows; are = all.2.are; behind = all.2.behind; still = all.2.still }, all.3)

    module _ (file : List ℕ) (is : Some schema ≡ Some file) where
      -- what the schema's file is, said by its other name
      named_so : (r : Result Schema ℕ) → schema_of limits (contents world.files schema) ≡ r → schema_of limits (contents world.files file) ≡ r
      named_so r so = subst (λ (n : List ℕ). schema_of limits (contents world.files n) ≡ r) (sym (some_is schema file is)) so

      module _ (given : Schema) (so : schema_of limits (contents world.files file) ≡ Ok given) where
        never_timed : given.time ≡ None → IsTimed limits schema world → ⊥
        never_timed none (other, so_too, time, has) =
            no_time given.time time (subst (λ (g : Schema). g.time ≡ Some time) (ok_is (schema_of limits (contents world.files file)) other given (named_so (Ok other) so_too) so) has) none

        never_untimed : (time : Time) → given.time ≡ Some time → IsUntimed limits schema world → ⊥
        never_untimed time has (inl (code, refused_so)) = not_both (schema_of limits (contents world.files file)) given code so (named_so (Err code) refused_so)
        never_untimed time has (inr (other, so_too, none)) =
            no_time given.time time has (subst (λ (g : Schema). g.time ≡ None) (ok_is (schema_of limits (contents world.files file)) other given (named_so (Ok other) so_too) so) none)

        given_places : (parts others : List Part) → parts ≡ file_part file no_share ∷ others → TimedBySome (PipedBuilder Correlated limits pipelines) schema before after ended given world others
            → Answers limits before after ended (Correlate schema pipelines rules) world parts
        given_places parts others same some = by some.answer
          where
            by : Timed (λ (s : Schema). PipedBuilder Correlated limits pipelines before after ended (Some s)) schema given world others
                → Answers limits before after ended (Correlate schema pipelines rules) world parts
            by (untimed none note) = (nowhere, ((λ has. absurd (never_timed none has)), (λ _. some.still none)), under file is given so others (untimed none note) same)
            by (timed time has answer) =
                let placed = correlated_places given others answer in
                (in_documents placed.0 placed.1, ((λ _. placed.2), (λ none. absurd (never_untimed time has none))), under file is given so others (timed time has placed.3) same)

      never_given : (code : ℕ) → schema_of limits (contents world.files file) ≡ Err code → IsTimed limits schema world → ⊥
      never_given code so (given, so_too, time, has) = not_both (schema_of limits (contents world.files file)) given code (named_so (Ok given) so_too) so

    pub correlate_places : (parts : List Part) → (IsUnschemed limits (Some schema) world → after ≡ before)
        → UnderSchema (TimedBy (PipedBuilder Correlated limits pipelines) schema before after ended) limits (Some schema) world parts → Answers limits before after ended (Correlate schema pipelines rules) world parts
    correlate_places parts still (without is none) = absurd (none_some schema schema is)
    correlate_places parts still (under file is given so others some same) = given_places file is given so parts others same some
    correlate_places parts still (refused file is code so same) = (
      nowhere,
      (
        (λ has. absurd (never_given file is code so has)),
        (λ _. still (code, subst (λ (n : List ℕ). schema_of limits (contents world.files n) ≡ Err code) (some_is schema file is) so)),
      ),
      refused file is code so same,
    )

  pub correlate_answers : (needs : Needs) (result : Result Bool Stop) (old new : State)
      → Ends needs (UnderBuilder (TimedBy (PipedBuilder Correlated limits pipelines) schema) limits (Some schema) before after ended) result old new
      → Ends needs (Answers limits before after ended (Correlate schema pipelines rules)) result old new
  correlate_answers needs result old new e =
      ends_as needs (UnderBuilder (TimedBy (PipedBuilder Correlated limits pipelines) schema) limits (Some schema) before after ended) (Answers limits before after ended (Correlate schema pipelines rules)) result old new
      (λ w ps u. correlate_places w ps u.still u.answer) e

-- ---- the query that is asked, under a schema

pub query_places : (backend : BackendName) (limits : Limits) (schema file : List ℕ) (before after : List (List ℕ)) (ended : Bool) (world : World) (parts : List Part)
    → (IsUnschemed limits (Some schema) world → after ≡ before) → UnderSchema (AskedBy backend limits file before after ended) limits (Some schema) world parts → Answers limits before after ended (Query backend schema file) world parts
query_places backend limits schema file before after ended world parts still (without is other) = absurd (none_some schema file is)
query_places backend limits schema file before after ended world parts still (under name is given so others other same) = (
  in_query other.0,
  (
    (λ given_too so_too. subst (λ (g : Schema). AreOfQuery backend limits file before after ended g world other.0)
        (ok_is (schema_of limits (contents world.files name)) given given_too so (subst (λ (n : List ℕ). schema_of limits (contents world.files n) ≡ Ok given_too) (sym (some_is schema name is)) so_too)) other.1),
    still,
  ),
  under name is given so others other.2 same,
)
query_places backend limits schema file before after ended world parts still (refused name is code so same) = (
  nowhere,
  (
    (λ given so_too. absurd (not_both (schema_of limits (contents world.files name)) given code
        (subst (λ (n : List ℕ). schema_of limits (contents world.files n) ≡ Ok given) (sym (some_is schema name is)) so_too) so)),
    still,
  ),
  refused name is code so same,
)

pub query_answers : (backend : BackendName) (limits : Limits) (schema file : List ℕ) (before after : List (List ℕ)) (ended : Bool) (needs : Needs) (result : Result Bool Stop) (old new : State)
    → Ends needs (UnderBuilder (AskedBy backend limits file) limits (Some schema) before after ended) result old new
    → Ends needs (Answers limits before after ended (Query backend schema file)) result old new
query_answers backend limits schema file before after ended needs result old new e =
    ends_as needs (UnderBuilder (AskedBy backend limits file) limits (Some schema) before after ended) (Answers limits before after ended (Query backend schema file)) result old new
    (λ w ps u. query_places backend limits schema file before after ended w ps u.still u.answer) e

-- ---- what is generated

abbrev pub IsMadeLine : ℕ → ℕ → World → List Part → Type 0
IsMadeLine seed events world parts = Generated seed events parts

pub generate_answers : (limits : Limits) (seed events : ℕ) (texts : List (List ℕ)) (ended : Bool) (needs : Needs) (result : Result Bool Stop) (old new : State) → Ends needs (IsMadeLine seed events) result old new
    → Ends needs (Answers limits texts texts ended (Generate seed events)) result old new
generate_answers limits seed events texts ended needs result old new e =
    ends_as needs (IsMadeLine seed events) (Answers limits texts texts ended (Generate seed events)) result old new (λ w ps is. (nowhere, refl, is)) e

-- ---- an answer that came to its end is one that may have been cut off

not_ended : false ≡ true → ⊥
not_ended h = cc

checked_cut : (limits : Limits) (ended : Bool) (rules : List (List ℕ)) (world : World) (places : Places) (ps : List Pipeline) (before after : List (List ℕ))
    → AreChecked limits ended rules world places ps before after → AreChecked limits false rules world places ps before after
checked_cut limits ended rules world places ps before after are = (are.0, files_later limits ps ended false cut world places.documents rules are.1)

run_cut : (limits : Limits) (ended : Bool) (rule : List ℕ) (world : World) (places : Places) (ps : List Pipeline) (before after : List (List ℕ))
    → AreRun limits ended rule world places ps before after → AreRun limits false rule world places ps before after
run_cut limits ended rule world places ps before after are = (are.0, single_later limits ps ended false cut places.rule (contents world.files rule) are.1)

piped_cut : (limits : Limits) (file : Option (List ℕ)) (before after : List (List ℕ)) (ended : Bool) (world : World) (piped : List Unbuilt)
    (Are Cut : List Pipeline → List (List ℕ) → List (List ℕ) → Type 0) → ((ps : List Pipeline) (before after : List (List ℕ)) → Are ps before after → Cut ps before after)
    → PipedPlaces Are limits file before after ended world piped → PipedPlaces Cut limits file before after false world piped
piped_cut limits file before after ended world piped Are Cut f places = record {
  middle = places.middle;
  follows = places.follows;
  are = piped_later limits ended false cut file world piped places.are;
  behind = λ ps so. f (by_priority ps) places.middle after (places.behind ps so);
  still = places.still;
}

query_cut : (backend : BackendName) (limits : Limits) (file : List ℕ) (before after : List (List ℕ)) (ended : Bool) (given : Schema) (world : World) (places : List CodeAt)
    → AreOfQuery backend limits file before after ended given world places → AreOfQuery backend limits file before after false given world places
query_cut backend limits file before after ended given world places b = record { gained = b.gained; follows = b.follows; own = b.own; are = b.are; told = λ is. absurd (not_ended is) }

pub places_cut : (limits : Limits) (before after : List (List ℕ)) (ended : Bool) (request : Request) (world : World) (places : Places)
    → ArePlaces limits before after ended request world places → ArePlaces limits before after false request world places
places_cut limits before after ended (Check rules) world places are = checked_cut limits ended rules world places [] before after are
places_cut limits before after ended (Convert backend schema pipelines rules) world places are = (
  (λ schemed. piped_cut limits pipelines before after ended world places.pipelines (AreChecked limits ended rules world places) (AreChecked limits false rules world places)
      (checked_cut limits ended rules world places) (are.0 schemed)),
  are.1,
)
places_cut limits before after ended (Run schema pipelines rule) world places are = (
  (λ schemed. piped_cut limits pipelines before after ended world places.pipelines (AreRun limits ended rule world places) (AreRun limits false rule world places)
      (run_cut limits ended rule world places) (are.0 schemed)),
  are.1,
)
places_cut limits before after ended (Query backend schema query) world places are = ((λ given so. query_cut backend limits query before after ended given world places.query (are.0 given so)), are.1)
places_cut limits before after ended (Correlate schema pipelines rules) world places are = (
  (λ has. piped_cut limits pipelines before after ended world places.pipelines (AreChecked limits ended rules world places) (AreChecked limits false rules world places)
      (checked_cut limits ended rules world places) (are.0 has)),
  are.1,
)
places_cut limits before after ended (Generate seed events) world places are = are
