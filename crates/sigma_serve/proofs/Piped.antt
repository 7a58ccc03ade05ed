-- What answering under the pipelines of a file leaves.
use Rattle.std.proofs.Common.{◌≡◌, ℕ, suc, ◌+◌, ◌<◌, Bool, true, false, List, [], ◌∷◌, ◌++◌, length, take, refl, ap, sym, subst, cond, arith, append-nil, Option, None, Some, Result, Err, inl, inr}
use Rattle.std.specs.Prelude.{◌⊎◌, Contains, int_le}
use Rattle.std.proofs.lemmas.Bool.{cases_lt}
use Rattle.std.proofs.lemmas.List.{take_all, length-take-le}
use Rattle.answer_writer.proofs.Behind.{ends_behind}
use Rattle.answer_writer.proofs.Ending.{ends_as, ends_written}
use Rattle.answer_writer.proofs.Rows.{each_all}
use Rattle.answer_writer.proofs.Shares.{cut_nothing}
use Rattle.answer_writer.proofs.Unread.{Begins, ends_unread}
use Rattle.answer_writer.specs.Input.{Needs, World, File}
use Rattle.answer_writer.specs.Parts.{Share, Part, share_of, no_share}
use Rattle.answer_writer.specs.Stands.{Ends, StopsBefore, Writes}
use Rattle.answer_writer.specs.State.{State}
use Rattle.answer_writer.specs.declared.stop.Stop.{Stop}
use Rattle.answer_writer.specs.declared.stop.Stop.TheVariants.{Memory}
use Rattle.event_schema.specs.Lists.{EachOf}
use Rattle.event_schema.specs.declared.schema.Schema.{Schema}
use Rattle.pipeline_run.specs.Priorities.{placed_among, by_priority}
use Rattle.pipeline_files.specs.Laws as files
use Rattle.pipeline_files.specs.Outcomes.{ArePipelines, AreCauses, as_one, by_document}
use Rattle.pipeline_files.specs.Paired.{paired}
use Rattle.pipeline_files.specs.Places.{AreOfDocument, AreOfPipelines, file_texts}
use Rattle.pipeline_model.specs.declared.pipeline.Pipeline.{Pipeline}
use Rattle.rule_regex.specs.Unbuilt.{Unbuilt, none_unbuilt}
use Rattle.sig_base.specs.Files.{IsFront}
use Rattle.sig_base.specs.declared.limits.Limits.{Limits}
use Rattle.sig_base.specs.declared.refusal.Refusal.{Refusal}
use Rattle.sigma_serve.proofs.Fronts.{file_is}
use Rattle.sigma_serve.proofs.Trees.{cut}
use Rattle.sigma_serve.specs.Answers.{names_with}
use Rattle.sigma_serve.specs.Laws.{EachUnder}
use Rattle.sigma_serve.specs.Reports.{refusal_share}
use Rattle.sigma_serve.specs.RuleFiles.{contents}
use Rattle.sigma_serve.specs.UnderPipelines.{AreReported, UnderPipelines, unpiped, piped_by, not_piped, ByPipelines, PipedBuilder, ArePipedPlaces}
use Rattle.sigma_serve.specs.UnderSchema.{file_part, is_ended}
use Rattle.yaml_documents.specs.Call.{IsCallRefusal}
use Rattle.yaml_tree.specs.Tree.{At, Answer, tree, refusal}

-- ---- by their priority

each_among : (P : Pipeline → Type 0) (p : Pipeline) (ps : List Pipeline) → P p → EachOf P ps → EachOf P (placed_among p ps)
each_among P p [] is each = (is, tt)
each_among P p (q ∷ qs) is each = by (int_le p.priority q.priority) (each_among P p qs is each.1)
  where
    by : (b : Bool) → EachOf P (placed_among p qs) → EachOf P (cond b (p ∷ q ∷ qs) (q ∷ placed_among p qs))
    by true others = (is, each)
    by false others = (each.0, others)

pub each_ordered : (P : Pipeline → Type 0) (ps : List Pipeline) → EachOf P ps → EachOf P (by_priority ps)
each_ordered P [] each = tt
each_ordered P (p ∷ ps) each = each_among P p (by_priority ps) each.0 (each_ordered P ps each.1)

-- ---- a file's first bytes, up to one past the limit, are as pipelines what the file is

module _ (limits : Limits) (all : List ℕ) where
  abbrev front : List ℕ
  front = take (limits.file_bytes + 1) all

  past : limits.file_bytes < length all → limits.file_bytes < length front
  past large = omega (arith, large, length-take-le (limits.file_bytes + 1) all (omega (arith, large)))

  moved : (Q : List ℕ → Type 0) → (limits.file_bytes < length all → Q front → Q all) → Q front → Q all
  moved Q large_so is = elim (cases_lt limits.file_bytes (length all)) as (λ _. Q all) [
    | inl large ↦ large_so large is
    | inr small ↦ subst Q (take_all (limits.file_bytes + 1) all (omega (arith, small))) is
  ]

  refused_first : (y : ℕ × At) → IsCallRefusal limits.file_bytes limits.documents all y → limits.file_bytes < length all → IsCallRefusal limits.file_bytes limits.documents front y
  refused_first y (inl (inl (_, is))) large = inl (inl (past large, is))
  refused_first y (inl (inr (small, _, _, _))) large = absurd (omega (arith, large, small))
  refused_first y (inr (small, _, _, _)) large = absurd (omega (arith, large, small))

  refused_too : (y : ℕ × At) → IsCallRefusal limits.file_bytes limits.documents front y → limits.file_bytes < length all → IsCallRefusal limits.file_bytes limits.documents all y
  refused_too y (inl (inl (_, is))) large = inl (inl (large, is))
  refused_too y (inl (inr (small, _, _, _))) large = absurd (omega (arith, past large, small))
  refused_too y (inr (small, _, _, _)) large = absurd (omega (arith, past large, small))

  pipelines_front : (piped : List Unbuilt) (ps : List Pipeline) → ArePipelines piped limits front ps → ArePipelines piped limits all ps
  pipelines_front piped ps = moved (λ bytes. ArePipelines piped limits bytes ps) too_large
    where
      too_large : limits.file_bytes < length all → ArePipelines piped limits front ps → ArePipelines piped limits all ps
      too_large large are = let small = are.read.taken.within in absurd (omega (arith, past large, small))

  causes_front : (piped : List Unbuilt) (causes : List Refusal) → AreCauses piped limits front causes → AreCauses piped limits all causes
  causes_front piped causes = moved (λ bytes. AreCauses piped limits bytes causes) too_large
    where
      too_large : limits.file_bytes < length all → AreCauses piped limits front causes → AreCauses piped limits all causes
      too_large large (as_one y is same) = as_one y (refused_too y is large) same
      too_large large (by_document outcomes read same some) = let small = read.taken.within in absurd (omega (arith, past large, small))

  places_front : (ended : Bool) (piped : List Unbuilt) → AreOfPipelines limits front ended piped → AreOfPipelines limits all ended piped
  places_front ended piped = moved (λ bytes. AreOfPipelines limits bytes ended piped) too_large
    where
      too_large : limits.file_bytes < length all → AreOfPipelines limits front ended piped → AreOfPipelines limits all ended piped
      too_large large are = record {
        each = λ documents taken. let small = taken.within in absurd (omega (arith, large, small));
        whole = λ y is. are.whole y (refused_first y is large);
      }

-- ---- places

not_ended : false ≡ true → ⊥
not_ended same = cc

-- of an answer that is cut off, there may be none
none_reached : (limits : Limits) (documents : List Answer) → EachOf (AreOfDocument limits false) (paired none_unbuilt [] documents)
none_reached limits [] = tt
none_reached limits (tree t ∷ documents) = (record { only = refl; places = tt; ill = λ e. absurd (not_ended e) }, none_reached limits documents)
none_reached limits (refusal y ∷ documents) = (refl, none_reached limits documents)

none_of_pipelines : (limits : Limits) (bytes : List ℕ) → AreOfPipelines limits bytes false []
none_of_pipelines limits bytes = record {
  each = λ documents taken. (none_reached limits documents, omega arith);
  whole = λ y is. refl;
}

-- what came to its end may also have been cut off
module _ (limits : Limits) (ended later : Bool) (so : later ≡ true → ended ≡ true) where
  documents_later : (documents : List (Unbuilt × Answer)) → EachOf (AreOfDocument limits ended) documents → EachOf (AreOfDocument limits later) documents
  documents_later [] are = tt
  documents_later ((unbuilt, tree t) ∷ documents) are = (record { only = are.0.only; places = are.0.places; ill = λ e. are.0.ill (so e) }, documents_later documents are.1)
  documents_later ((unbuilt, refusal y) ∷ documents) are = (are.0, documents_later documents are.1)

  pipelines_later : (bytes : List ℕ) (piped : List Unbuilt) → AreOfPipelines limits bytes ended piped → AreOfPipelines limits bytes later piped
  pipelines_later bytes piped are = record {
    each = λ documents taken. let each = are.each documents taken in (documents_later (paired none_unbuilt piped documents) each.0, each.1);
    whole = are.whole;
  }

  pub piped_later : (file : Option (List ℕ)) (world : World) (piped : List Unbuilt) → ArePipedPlaces limits file ended world piped → ArePipedPlaces limits file later world piped
  piped_later None world piped none = none
  piped_later (Some name) world piped are = pipelines_later (contents world.files name) piped are

-- ---- the answer in each world

-- the share of all causes
pub each_reported : (name : List ℕ) (causes : List Refusal) → (share : Share) × AreReported name causes share
each_reported name causes = each_all (λ (r : Refusal) one. one ≡ refusal_share name r) (λ r. (refusal_share name r, refl)) causes

pub each_under : (by : List Pipeline → World → List Part → Type 0) (limits : Limits) (piped : List Unbuilt) (file : Option (List ℕ)) (world : World) → files.EachFile
    → ((ps : List Pipeline) → (parts : List Part) × by ps world parts) → (parts : List Part) × UnderPipelines by limits piped file world parts
each_under by limits piped None world outcome each = let a = each [] in (a.0, unpiped refl a.1)
each_under by limits piped (Some name) world outcome each = judged (outcome piped limits (contents world.files name))
  where
    judged : ((ps : List Pipeline) × ArePipelines piped limits (contents world.files name) ps) ⊎ ((causes : List Refusal) × AreCauses piped limits (contents world.files name) causes)
        → (parts : List Part) × UnderPipelines by limits piped (Some name) world parts
    judged (inl (ps, are)) = let a = each (by_priority ps) in (file_part name no_share ∷ a.0, piped_by name refl ps are a.0 a.1 refl)
    judged (inr (causes, are)) = let share = each_reported name causes in (file_part name share.0 ∷ [], not_piped name refl causes are share.0 share.1 refl)

-- also of one that is cut off before anything is built
none_of_places : (limits : Limits) (file : Option (List ℕ)) (world : World) → ArePipedPlaces limits file false world []
none_of_places limits None world = refl
none_of_places limits (Some name) world = none_of_pipelines limits (contents world.files name)

pub each_piped : (by : ByPipelines) (limits : Limits) (file : Option (List ℕ)) (texts : List (List ℕ)) → ((ps : List Pipeline) → EachUnder (by ps texts texts false)) → files.EachFile
    → EachUnder (PipedBuilder by limits file texts texts false)
each_piped by limits file texts each outcome given world =
    let a = each_under (λ ps. by ps texts texts false given) limits [] file world outcome (λ ps. each ps given world) in
    (a.0, record { piped = []; middle = texts; follows = sym (append-nil texts); are = none_of_places limits file world; answer = a.1; still = λ _. refl })

-- ---- what answering leaves

-- no file of pipelines is named
pub none_piped : (by : ByPipelines) (limits : Limits) (file : Option (List ℕ)) (before after : List (List ℕ)) (ended : Bool) (given : Option Schema) (names : List (List ℕ)) (events : Bool) (result : Result Bool Stop) (old new : State)
    → file ≡ None → Ends (record { names = names; events = events }) (by [] before after ended given) result old new
    → Ends (record { names = names_with file names; events = events }) (PipedBuilder by limits file before after ended given) result old new
none_piped by limits None before after ended given names events result old new is e =
    ends_as (record { names = names; events = events }) (by [] before after ended given) (PipedBuilder by limits None before after ended given) result old new
    (λ w ps other. record { piped = []; middle = before; follows = sym (append-nil before); are = refl; answer = unpiped refl other; still = λ none. absurd none }) e
none_piped by limits (Some name) before after ended given names events result old new is e = absurd cc

module _ (by : ByPipelines) (limits : Limits) (name : List ℕ) (given : Option Schema) (names : List (List ℕ)) (events : Bool) where
  abbrev needs : Needs
  needs = record { names = name ∷ names; events = events }

  abbrev Piped : List (List ℕ) → List (List ℕ) → Bool → World → List Part → Type 0
  Piped before after ended = PipedBuilder by limits (Some name) before after ended given

  there : Contains (name ∷ names) name
  there = (0, omega arith, refl)

  later_there : (n : List ℕ) → Contains names n → Contains (name ∷ names) n
  later_there n (i, below, is) = (suc i, omega (arith, below), is)

  some_is : (other : List ℕ) → Some name ≡ Some other → other ≡ name
  some_is other is = cc

  not_none : Some name ≡ None → ⊥
  not_none is = cc

  begins : (under_it : List Pipeline → World → List Part → Type 0) (piped : List Unbuilt) (world : World) (parts : List Part) → UnderPipelines under_it limits piped (Some name) world parts → Begins name parts
  begins under_it piped world parts (unpiped is other) = absurd (not_none is)
  begins under_it piped world parts (piped_by other is ps are others by_them same) = (file_part other no_share, others, same, ap (λ (f : List ℕ). Some (File f)) (some_is other is))
  begins under_it piped world parts (not_piped other is causes are share reported same) = (file_part other share, [], same, ap (λ (f : List ℕ). Some (File f)) (some_is other is))

  -- the file couldn't be read
  pub pipelines_unread : files.EachFile → (texts : List (List ℕ)) → ((ps : List Pipeline) → EachUnder (by ps texts texts false)) → (stop : Stop) (old new : State) → StopsBefore name stop old new
      → Ends needs (Piped texts texts false) (Err stop) old new
  pipelines_unread outcome texts each stop old new stops =
      ends_unread needs (Piped texts texts false) name old new there stop
      (λ world. let a = each_piped by limits (Some name) texts each outcome given world in
      (a.0, a.1, begins (λ ps. by ps a.1.middle texts false given) a.1.piped world a.0 a.1.answer)) stops

  module _ (bytes : List ℕ) (before middle : List (List ℕ)) (piped : List Unbuilt) (follows : middle ≡ before ++ file_texts piped) where
    -- memory was missing, before the answer or within it
    pub pipelines_memory : files.EachFile → (ended : Bool) → ((ps : List Pipeline) → EachUnder (by ps middle middle false)) → (s : State)
        → IsFront s.inputs.files name (limits.file_bytes + 1) bytes → AreOfPipelines limits bytes ended piped → Ends needs (Piped before middle false) (Err Memory) s s
    pipelines_memory outcome ended each s is_front are = record {
      unread = None;
      cause = refl;
      stands = λ world told.
          let a = each_under (λ ps. by ps middle middle false given) limits piped (Some name) world outcome (λ ps. each ps given world) in (
            a.0,
            record {
              piped = piped;
              middle = middle;
              follows = follows;
              are = pipelines_later limits ended false cut (contents world.files name) piped
                  (file_is (limits.file_bytes + 1) (λ bs. AreOfPipelines limits bs ended piped) name (λ bs so. places_front limits bs ended piped so) s.inputs.files world.files bytes (told.files name there) is_front are);
              answer = a.1;
              still = λ _. refl;
            },
            cut_nothing (share_of a.0) s.streams,
            λ _. (refl, refl),
          );
      files = refl;
      apart = λ _. (refl, refl);
      kept = refl;
    }

  module _ (bytes : List ℕ) (before middle : List (List ℕ)) (piped : List Unbuilt) (follows : middle ≡ before ++ file_texts piped) (old : State)
      (is_front : IsFront old.inputs.files name (limits.file_bytes + 1) bytes) (are : AreOfPipelines limits bytes true piped) where
    places : (ended : Bool) (world : World) → old.inputs.files ≡ Some world.files → AreOfPipelines limits (contents world.files name) ended piped
    places ended world told =
        pipelines_later limits true ended (λ _. refl) (contents world.files name) piped
        (file_is (limits.file_bytes + 1) (λ bs. AreOfPipelines limits bs true piped) name (λ bs so. places_front limits bs true piped so) old.inputs.files world.files bytes told is_front are)

    -- the file is refused
    pub pipelines_refused : files.NeverBoth → (causes : List Refusal) (result : Result Bool Stop) (new : State) → AreCauses piped limits bytes causes → Writes (AreReported name causes) result old new
        → Ends needs (Piped before middle (is_ended result)) result old new
    pipelines_refused never causes result new refused_so wrote =
        ends_written needs (Piped before middle (is_ended result)) (AreReported name causes) (Some (File name)) result old new
        (λ world told share reported.
        let so = file_is (limits.file_bytes + 1) (λ bs. AreCauses piped limits bs causes) name (λ bs is. causes_front limits bs piped causes is) old.inputs.files world.files bytes (told.files name there) is_front refused_so in
        record {
          piped = piped;
          middle = middle;
          follows = follows;
          are = places (is_ended result) world (told.files name there);
          answer = not_piped name refl causes so share reported refl;
          still = λ _. refl;
        }) wrote

    -- the file is pipelines, and the command answered under them
    pub pipelines_given : files.NeverBoth → (ps : List Pipeline) (after : List (List ℕ)) (result : Result Bool Stop) (new : State) → ArePipelines piped limits bytes ps
        → Ends (record { names = names; events = events }) (by (by_priority ps) middle after (is_ended result) given) result old new → Ends needs (Piped before after (is_ended result)) result old new
    pipelines_given never ps after result new taken e =
        ends_behind needs (record { names = names; events = events }) (file_part name no_share ∷ []) refl later_there refl (by (by_priority ps) middle after (is_ended result) given)
        (Piped before after (is_ended result)) result old new
        (λ world told others other.
        let so = file_is (limits.file_bytes + 1) (λ bs. ArePipelines piped limits bs ps) name (λ bs is. pipelines_front limits bs piped ps is) old.inputs.files world.files bytes (told.files name there) is_front taken in
        record {
          piped = piped;
          middle = middle;
          follows = follows;
          are = places (is_ended result) world (told.files name there);
          answer = piped_by name refl ps so others other refl;
          still = λ refused_so. absurd (never piped limits (contents world.files name) ps refused_so.0 so refused_so.1);
        }) e
