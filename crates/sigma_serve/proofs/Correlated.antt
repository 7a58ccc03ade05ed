-- What correlating the rules of files leaves, and that there is exactly one answer.
use Rattle.std.proofs.Common.{◌≡◌, ℕ, ◌≤◌, Bool, true, false, List, [], ◌∷◌, ◌++◌, length, map, refl, ap, sym, ◌∙◌, subst, arith, Option, Some, None, Result, Ok, Err}
use Rattle.std.specs.Prelude.{⊤, ◌||◌, Contains}
use Rattle.answer_writer.proofs.Behind.{ends_behind}
use Rattle.answer_writer.proofs.Ending.{Kind, Then, ends_as, ends_both, ends_later, ends_nothing, ends_written}
use Rattle.answer_writer.proofs.Rows.{all_one, parts_one}
use Rattle.answer_writer.specs.Each.{EachPart}
use Rattle.answer_writer.specs.Input.{Input, World, Needs}
use Rattle.answer_writer.specs.Parts.{Share, Part}
use Rattle.answer_writer.specs.Stands.{Writes, Ends}
use Rattle.answer_writer.specs.State.{State}
use Rattle.answer_writer.specs.declared.stop.Stop.{Stop}
use Rattle.correlation_files.specs.Found.{StandsFor}
use Rattle.correlation_files.specs.Laws as files
use Rattle.correlation_files.specs.Outcomes.{Outcome, AreOutcomes, refusals_in}
use Rattle.correlation_files.specs.Places.{AreOfFile}
use Rattle.correlation_files.specs.declared.found.Found.{Found}
use Rattle.correlation_run.specs.Laws as runs
use Rattle.event_schema.specs.Lists.{EachOf}
use Rattle.event_schema.specs.declared.schema.Schema.{Schema}
use Rattle.event_schema.specs.declared.schema.Time.{Time}
use Rattle.pipeline_files.specs.Laws as pipelined
use Rattle.pipeline_files.specs.Paired.{paired}
use Rattle.pipeline_model.specs.declared.pipeline.Pipeline.{Pipeline}
use Rattle.rule_regex.specs.Unbuilt.{Unbuilt}
use Rattle.sig_base.specs.Files.{file_start}
use Rattle.sig_base.specs.Judged.{refusal}
use Rattle.sig_base.specs.declared.limits.Limits.{Limits}
use Rattle.sig_base.specs.declared.refusal.Refusal.{Refusal}
use Rattle.sigma_serve.proofs.Correlating.{events_alone, one_correlated, same_found}
use Rattle.sigma_serve.proofs.Ended.{ends_longer}
use Rattle.sigma_serve.proofs.Once.{one_piped}
use Rattle.sigma_serve.proofs.Placed.{paired_of, no_more, firsts, seconds, files_later}
use Rattle.sigma_serve.proofs.Sourced.{Sources, sources_aside, sources_left}
use Rattle.sigma_serve.proofs.Trees.{cut}
use Rattle.sigma_serve.specs.Correlated.{SourceFile, SourcePart, rules_of, correlations_of, note_part, CorrelatedBy, CorrelatedUnder, Timed, untimed, timed, PipedCorrelated, CorrelatedAt, CorrelatedBySome, FilesCorrelated, TimedBySome, TimedBy}
use Rattle.sigma_serve.specs.Laws.{EachCorrelated, EachUnder, OneUnder}
use Rattle.sigma_serve.specs.Reports.{refusal_share}
use Rattle.sigma_serve.specs.RuleFiles.{contents}
use Rattle.sigma_serve.specs.Sourced.{GrowsBy, IsFound}
use Rattle.sigma_serve.specs.UnderSchema.{ByBuilder}

-- ---- the places of files beside their names

abbrev pair_of : SourceFile → List Unbuilt × List ℕ
pair_of f = (f.unbuilt, f.name)

abbrev unbuilt_of : List SourceFile → List (List Unbuilt)
unbuilt_of fs = map (λ f. f.unbuilt) fs

firsts_of : (fs : List SourceFile) → firsts (map pair_of fs) ≡ unbuilt_of fs
firsts_of [] = refl
firsts_of (f ∷ fs) = ap (λ (l : List (List Unbuilt)). f.unbuilt ∷ l) (firsts_of fs)

seconds_of : (fs : List SourceFile) → seconds (map pair_of fs) ≡ map (λ f. f.name) fs
seconds_of [] = refl
seconds_of (f ∷ fs) = ap (λ (l : List (List ℕ)). f.name ∷ l) (seconds_of fs)

paired_files : (fs : List SourceFile) (names : List (List ℕ)) → map (λ f. f.name) fs ≡ names → paired [] (unbuilt_of fs) names ≡ map pair_of fs
paired_files fs names of = ap (λ (us : List (List Unbuilt)). paired [] us names) (sym (firsts_of fs)) ∙ paired_of [] (map pair_of fs) names (seconds_of fs ∙ of)

module _ (limits : Limits) (ps : List Pipeline) (schema : Schema) where
  abbrev IsPlaced : Bool → World → List Unbuilt × List ℕ → Type 0
  IsPlaced ended world file = AreOfFile limits ps (contents world.files file.1) ended file.0

  each_paired : (ended : Bool) (world : World) (fs : List SourceFile) → EachOf (λ f. AreOfFile limits ps (contents world.files f.name) ended f.unbuilt) fs → EachOf (IsPlaced ended world) (map pair_of fs)
  each_paired ended world [] are = tt
  each_paired ended world (f ∷ fs) are = (are.0, each_paired ended world fs are.1)

  -- files, and then what is answered by their rules and correlations
  files_then : (before after : List (List ℕ)) (ended : Bool) (names : List (List ℕ)) (K : List SourceFile → Type 0) (world : World) (own behind parts : List Part)
      → (s : Sources limits ps schema before after ended names K world own) → CorrelatedBy limits schema (rules_of s.files) (correlations_of s.files) world behind → parts ≡ own ++ behind
      → CorrelatedBySome limits names ps before after ended schema world parts
  files_then before after ended names K world own behind parts s by is =
      let same : paired [] (unbuilt_of s.files) names ≡ map pair_of s.files = paired_files s.files names s.of in
      record {
        unbuilt = unbuilt_of s.files;
        follows = s.follows;
        are = (
          subst (EachOf (IsPlaced ended world)) (sym same) (each_paired ended world s.files s.are),
          subst (λ (us : List (List Unbuilt)). length us ≤ length names) (firsts_of s.files) (no_more (map pair_of s.files) names (seconds_of s.files ∙ s.of)),
        );
        correlated = record { files = s.files; of = sym same; before = own; each = s.each; behind = behind; correlated = by; all = is };
      }

  -- reading the files stopped
  pub files_stop : EachCorrelated → (before after : List (List ℕ)) (names : List (List ℕ)) (stop : Stop) (old new : State)
      → Ends (record { names = names; events = false }) (Sources limits ps schema before after false names (λ fs. ⊤)) (Err stop) old new
      → Ends (record { names = names; events = true }) (CorrelatedBySome limits names ps before after false schema) (Err stop) old new
  files_stop each before after names stop old new e =
      ends_longer (record { names = names; events = true }) (Sources limits ps schema before after false names (λ fs. ⊤)) (CorrelatedBySome limits names ps before after false schema)
      (λ world own s. let more = each limits schema (rules_of s.files) (correlations_of s.files) world in
      (more.0, files_then before after false names (λ fs. ⊤) world own more.0 (own ++ more.0) s more.1 refl)) stop old new e

  -- they were read
  module _ (before after : List (List ℕ)) (names : List (List ℕ)) (none found : Found) (stands : StandsFor schema [] [] none) (kept : IsFound schema found) where
    abbrev needs : Needs
    needs = record { names = names; events = true }

    abbrev Read : Kind
    Read = Sources limits ps schema before after true names (λ fs. GrowsBy schema fs none found)

    abbrev By : Kind
    By = CorrelatedBy limits schema kept.0 kept.1

    none_there : (n : List ℕ) → Contains [] n → Contains names n
    none_there n (i, below, is) = absurd (omega (arith, below))

    lifted : (result : Result Bool Stop) (mid new : State) → Ends events_alone By result mid new → Ends needs By result mid new
    lifted result mid new e = ends_behind needs events_alone [] refl none_there refl By By result mid new (λ world told parts by. by) e

    read_then : (world : World) (parts : List Part) → Then Read By world parts → CorrelatedBySome limits names ps before after true schema world parts
    read_then world parts (a, b, s, by, is) =
        files_then before after true names (λ fs. GrowsBy schema fs none found) world a b parts s
        (same_found limits schema found kept.0 (rules_of s.files) kept.1 (correlations_of s.files) kept.2 (s.keeps [] [] stands) world b by) is

    read_then_cut : (world : World) (parts : List Part) → Then Read By world parts → CorrelatedBySome limits names ps before after false schema world parts
    read_then_cut world parts both =
        let some = read_then world parts both in
        record { unbuilt = some.unbuilt; follows = some.follows; are = files_later limits ps true false cut world some.unbuilt names some.are; correlated = some.correlated }

    -- and then it stopped
    pub read_stop : (first : Bool) (stop : Stop) (old mid new : State) → Ends (record { names = names; events = false }) Read (Ok first) old mid → Ends events_alone By (Err stop) mid new
        → Ends needs (CorrelatedBySome limits names ps before after false schema) (Err stop) old new
    read_stop first stop old mid new e more =
        ends_as needs (Then Read By) (CorrelatedBySome limits names ps before after false schema) (Err stop) old new read_then_cut
        (ends_later needs Read By first stop old mid new (sources_aside limits ps schema before after true names (λ fs. GrowsBy schema fs none found)) e (lifted (Err stop) mid new more))

    -- and all was answered
    pub read_whole : (first second both : Bool) (old mid new : State) → both ≡ (first || second) → Ends (record { names = names; events = false }) Read (Ok first) old mid
        → Ends events_alone By (Ok second) mid new → Ends needs (CorrelatedBySome limits names ps before after true schema) (Ok both) old new
    read_whole first second both old mid new is e more =
        subst (λ (f : Bool). Ends needs (CorrelatedBySome limits names ps before after true schema) (Ok f) old new) (sym is)
        (ends_as needs (Then Read By) (CorrelatedBySome limits names ps before after true schema) (Ok (first || second)) old new read_then
        (ends_both needs Read By first second old mid new e (lifted (Ok second) mid new more)))

-- ---- under a schema

pub nothing_correlated : (needs : Needs) (limits : Limits) (rules : List (List ℕ)) (ps : List Pipeline) (before after : List (List ℕ)) (s : State)
    → Ends needs (FilesCorrelated limits rules ps before after true None) (Ok false) s s
nothing_correlated needs limits rules ps before after s = ends_nothing needs (FilesCorrelated limits rules ps before after true None) s (λ world. refl)

pub nothing_timed : (needs : Needs) (by : ByBuilder) (name : List ℕ) (before after : List (List ℕ)) (s : State) → Ends needs (TimedBy by name before after true None) (Ok false) s s
nothing_timed needs by name before after s = ends_nothing needs (TimedBy by name before after true None) s (λ world. refl)

none_some : (o : Option Time) (t : Time) → o ≡ Some t → o ≡ None → ⊥
none_some o t some none = apart (sym some ∙ none)
  where
    apart : Some t ≡ None → ⊥
    apart is = cc

-- with a time
pub timed_answer : (needs : Needs) (by : ByBuilder) (name : List ℕ) (before after : List (List ℕ)) (ended : Bool) (schema : Schema) (time : Time) (result : Result Bool Stop) (old new : State)
    → schema.time ≡ Some time → Ends needs (by before after ended (Some schema)) result old new → Ends needs (TimedBySome by name before after ended schema) result old new
timed_answer needs by name before after ended schema time result old new is e =
    ends_as needs (by before after ended (Some schema)) (TimedBySome by name before after ended schema) result old new
    (λ world parts some. record { answer = timed time is some; still = λ none. absurd (none_some schema.time time is none) }) e

-- without one
pub untimed_answer : (needs : Needs) (by : ByBuilder) (name : List ℕ) (texts : List (List ℕ)) (ended : Bool) (schema : Schema) (result : Result Bool Stop) (old new : State)
    → schema.time ≡ None → Writes (λ share. share ≡ refusal_share name (refusal 24 file_start)) result old new → Ends needs (TimedBySome by name texts texts ended schema) result old new
untimed_answer needs by name texts ended schema result old new is wrote =
    ends_written needs (TimedBySome by name texts texts ended schema) (λ share. share ≡ refusal_share name (refusal 24 file_start)) None result old new
    (λ world told share same. record { answer = untimed is (ap (λ (s : Share). note_part s ∷ []) same); still = λ _. refl }) wrote

-- ---- exactly one answer

-- there is an answer that is cut off before anything is built
pub each_files_cut : EachCorrelated → files.EachFile → (limits : Limits) (rules : List (List ℕ)) (ps : List Pipeline) (texts : List (List ℕ)) → EachUnder (FilesCorrelated limits rules ps texts texts false)
each_files_cut each file limits rules ps texts None world = ([], refl)
each_files_cut each file limits rules ps texts (Some given) world =
    let some = sources_left limits ps given file texts rules world in
    let more = each limits given (rules_of some.1.files) (correlations_of some.1.files) world in
    (some.0 ++ more.0, files_then limits ps given texts texts false rules (λ fs. ⊤) world some.0 more.0 (some.0 ++ more.0) some.1 more.1 refl)

pub each_timed_cut : (by : ByBuilder) (name : List ℕ) (texts : List (List ℕ)) → EachUnder (by texts texts false) → EachUnder (TimedBy by name texts texts false)
each_timed_cut by name texts each None world = ([], refl)
each_timed_cut by name texts each (Some given) world = judged given.time refl
  where
    judged : (time : Option Time) → given.time ≡ time → (parts : List Part) × TimedBySome by name texts texts false given world parts
    judged None is = (note_part (refusal_share name (refusal 24 file_start)) ∷ [], record { answer = untimed is refl; still = λ _. refl })
    judged (Some time) is = let one = each (Some given) world in (one.0, record { answer = timed time is one.1; still = λ _. refl })

same_file : (f g : SourceFile) → f.name ≡ g.name → f.unbuilt ≡ g.unbuilt → f.outcomes ≡ g.outcomes → f ≡ g
same_file f g name unbuilt outcomes =
    ap (λ (n : List ℕ). record { name = n; unbuilt = f.unbuilt; outcomes = f.outcomes }) name
    ∙ (ap (λ (u : List Unbuilt). record { name = g.name; unbuilt = u; outcomes = f.outcomes }) unbuilt
    ∙ ap (λ (o : List Outcome). record { name = g.name; unbuilt = g.unbuilt; outcomes = o }) outcomes)

head_is : (x y : List Unbuilt × List ℕ) (xs ys : List (List Unbuilt × List ℕ)) → x ∷ xs ≡ y ∷ ys → x ≡ y
head_is x y xs ys is = cc

tail_is : (x y : List Unbuilt × List ℕ) (xs ys : List (List Unbuilt × List ℕ)) → x ∷ xs ≡ y ∷ ys → xs ≡ ys
tail_is x y xs ys is = cc

no_cons : (x : List Unbuilt × List ℕ) (xs : List (List Unbuilt × List ℕ)) → [] ≡ x ∷ xs → ⊥
no_cons x xs is = cc

module _ (file : files.OneFile) (limits : Limits) (ps : List Pipeline) (schema : Schema) (world : World) where
  one_source : (f g : SourceFile) (p q : Part) → pair_of f ≡ pair_of g → SourcePart limits ps schema f world p → SourcePart limits ps schema g world q → f ≡ g
  one_source f g p q is first second =
      let unbuilt : f.unbuilt ≡ g.unbuilt = ap (λ (x : List Unbuilt × List ℕ). x.0) is in
      let name : f.name ≡ g.name = ap (λ (x : List Unbuilt × List ℕ). x.1) is in
      same_file f g name unbuilt
      (file limits ps schema g.unbuilt (contents world.files g.name) f.outcomes g.outcomes
      (subst (λ (x : List Unbuilt × List ℕ). AreOutcomes limits ps schema x.0 (contents world.files x.1) f.outcomes) is first.outcomes) second.outcomes)

  one_sources : (fs gs : List SourceFile) (a b : List Part) → map pair_of fs ≡ map pair_of gs → EachPart (SourcePart limits ps schema) fs world a → EachPart (SourcePart limits ps schema) gs world b → fs ≡ gs
  one_sources [] [] a b is first second = refl
  one_sources [] (g ∷ gs) a b is first second = absurd (no_cons (pair_of g) (map pair_of gs) is)
  one_sources (f ∷ fs) [] a b is first second = absurd (no_cons (pair_of f) (map pair_of fs) (sym is))
  one_sources (f ∷ fs) (g ∷ gs) [] b is first second = absurd first
  one_sources (f ∷ fs) (g ∷ gs) (p ∷ a) [] is first second = absurd second
  one_sources (f ∷ fs) (g ∷ gs) (p ∷ a) (q ∷ b) is first second =
      ap (λ (h : SourceFile). h ∷ fs) (one_source f g p q (head_is (pair_of f) (pair_of g) (map pair_of fs) (map pair_of gs) is) first.0 second.0)
      ∙ ap (λ (l : List SourceFile). g ∷ l) (one_sources fs gs a b (tail_is (pair_of f) (pair_of g) (map pair_of fs) (map pair_of gs) is) first.1 second.1)

  same_part : (p q : Part) → p.input ≡ q.input → p.share ≡ q.share → p ≡ q
  same_part p q input share = ap (λ (i : Option Input). record { input = i; share = p.share }) input ∙ ap (λ (s : Share). record { input = q.input; share = s }) share

  one_part : (f : SourceFile) (w : World) (p q : Part) → SourcePart limits ps schema f w p → SourcePart limits ps schema f w q → p ≡ q
  one_part f w p q first second =
      same_part p q (first.input ∙ sym second.input)
      (all_one (λ (r : Refusal) one. one ≡ refusal_share f.name r) (λ r x y one two. one ∙ sym two) (refusals_in f.outcomes) p.share q.share first.share second.share)

pub one_correlated_files : files.OneFile → files.OneJudged → runs.OneFollowed → (limits : Limits) (given : Schema) (unbuilt : List (List Unbuilt)) (rules : List (List ℕ)) (ps : List Pipeline) (world : World) (a b : List Part)
    → CorrelatedUnder limits given unbuilt rules ps world a → CorrelatedUnder limits given unbuilt rules ps world b → a ≡ b
one_correlated_files file judge follow limits given unbuilt rules ps world a b first second =
    let same : second.files ≡ first.files = one_sources file limits ps given world second.files first.files second.before first.before (second.of ∙ sym first.of) second.each first.each in
    let own : first.before ≡ second.before = parts_one (SourcePart limits ps given) (one_part file limits ps given world) first.files world first.before second.before first.each
    (subst (λ (fs : List SourceFile). EachPart (SourcePart limits ps given) fs world second.before) same second.each) in
    let more : first.behind ≡ second.behind = one_correlated judge follow limits given (rules_of first.files) (correlations_of first.files) world first.behind second.behind first.correlated
    (subst (λ (fs : List SourceFile). CorrelatedBy limits given (rules_of fs) (correlations_of fs) world second.behind) same second.correlated) in
    first.all ∙ (ap (λ (l : List Part). l ++ first.behind) own ∙ (ap (λ (l : List Part). second.before ++ l) more ∙ sym second.all))

one_timed : (by : Schema → World → List Part → Type 0) (name : List ℕ) (given : Schema) (world : World) → ((a b : List Part) → by given world a → by given world b → a ≡ b) → (a b : List Part)
    → Timed by name given world a → Timed by name given world b → a ≡ b
one_timed by name given world one a b (untimed is same) (untimed too same_too) = same ∙ sym same_too
one_timed by name given world one a b (untimed is same) (timed time too some) = absurd (none_some given.time time too is)
one_timed by name given world one a b (timed time is some) (untimed too same) = absurd (none_some given.time time is too)
one_timed by name given world one a b (timed time is some) (timed other too some_too) = one a b some some_too

pub one_correlate : pipelined.OnePipelines → pipelined.OneCauses → pipelined.NeverBoth → files.OneFile → files.OneJudged → runs.OneFollowed
    → (limits : Limits) (piped : List Unbuilt) (unbuilt : List (List Unbuilt)) (name : List ℕ) (pipelines : Option (List ℕ)) (rules : List (List ℕ))
    → OneUnder (CorrelatedAt limits piped unbuilt name pipelines rules)
one_correlate one causes never file judge follow limits piped unbuilt name pipelines rules None world a b first second = first ∙ sym second
one_correlate one causes never file judge follow limits piped unbuilt name pipelines rules (Some given) world a b first second =
    one_timed (PipedCorrelated limits piped unbuilt pipelines rules) name given world
    (λ x y. one_piped one causes never (λ ps. CorrelatedUnder limits given unbuilt rules ps)
    (λ ps w c d. one_correlated_files file judge follow limits given unbuilt rules ps w c d) limits piped pipelines world x y) a b first second
