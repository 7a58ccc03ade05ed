-- What asking the query of a file leaves, and that there is exactly one answer for each list of refused places.
use Rattle.std.proofs.Common.{◌≡◌, ℕ, ◌+◌, ◌<◌, Bool, true, false, List, [], ◌∷◌, ◌++◌, length, take, refl, ap, sym, ◌∙◌, subst, arith, append-nil, Option, Some, None, Result, Ok, Err, inl, inr}
use Rattle.std.specs.Prelude.{◌⊎◌, Contains}
use Rattle.std.proofs.lemmas.Bool.{cases_lt}
use Rattle.std.proofs.lemmas.List.{take_all, length-take-le, append_cancel_left}
use Rattle.answer_writer.proofs.Behind.{ends_behind}
use Rattle.answer_writer.proofs.Ending.{ends_nothing, ends_written}
use Rattle.answer_writer.proofs.Lined.{each_answer, lines_one}
use Rattle.answer_writer.proofs.Shares.{cut_nothing}
use Rattle.answer_writer.proofs.Unread.{Begins, ends_unread}
use Rattle.answer_writer.specs.EventLines.{EventLines}
use Rattle.answer_writer.specs.Input.{World, Needs, File}
use Rattle.answer_writer.specs.Parts.{Share, Part, share_of, no_share}
use Rattle.answer_writer.specs.Stands.{Writes, Ends, StopsBefore}
use Rattle.answer_writer.specs.State.{State}
use Rattle.answer_writer.specs.declared.stop.Stop.{Stop}
use Rattle.answer_writer.specs.declared.stop.Stop.TheVariants.{Memory}
use Rattle.event_schema.specs.declared.schema.Schema.{Schema}
use Rattle.event_schema.specs.declared.value.Value.{Value}
use Rattle.query_lang.specs.RefusedPlaces.{PatternAt, is_of_pattern, AreOfPatterns}
use Rattle.query_read.specs.Answers.{AtPlaces}
use Rattle.query_read.specs.Asked.{IsAsked, IsNotAsked, too_large, unread, most_bytes}
use Rattle.query_read.specs.Laws as asking
use Rattle.answer_writer.proofs.Selected.{each_selected, one_selected}
use Rattle.answer_writer.specs.Selected.{Selects, IsDecided}
use Rattle.sig_base.specs.Files.{file_start, IsFront}
use Rattle.sig_base.specs.Judged.{refusal}
use Rattle.sig_base.specs.declared.limits.Limits.{Limits}
use Rattle.sig_base.specs.declared.refusal.Refusal.{Refusal}
use Rattle.sigma_serve.proofs.Fronts.{file_is}
use Rattle.sigma_serve.specs.Laws.{EachUnder, OneUnder}
use Rattle.sigma_serve.specs.Queried.{IsOfBuilder, AskedUnder, asks, doesnt_ask, AreOfQuery, AskedBy, AskedAt}
use Rattle.sigma_serve.specs.Reports.{refusal_share}
use Rattle.sigma_serve.specs.RuleFiles.{contents}
use Rattle.sigma_serve.specs.UnderSchema.{file_part, is_ended}
use Rattle.query_tokens.specs.Places.{CodeAt}

not_ended : false ≡ true → ⊥
not_ended h = cc

pub none_gained : (before gained : List (List ℕ)) → before ++ gained ≡ before → gained ≡ []
none_gained before gained same = append_cancel_left before gained [] (same ∙ sym (append-nil before))

module _ {Query : Type 0} (is_query : Schema → List ℕ → Query → Type 0) (is_within : Limits → Schema → List ℕ → Query → Type 0)
    (picks : Query → List (List Value) → Type 0) (patterns : List ℕ → List PatternAt) (refuses : Limits → Schema → List ℕ → List CodeAt → Refusal → Type 0) where
  abbrev Asked : Limits → Schema → List CodeAt → List ℕ → Query → Type 0
  Asked = IsAsked is_query is_within refuses

  abbrev NotAsked : Limits → Schema → List CodeAt → List ℕ → Refusal → Type 0
  NotAsked = IsNotAsked is_query is_within refuses

  abbrev By : Limits → List ℕ → List (List ℕ) → List (List ℕ) → Bool → Option Schema → World → List Part → Type 0
  By = AskedBy is_query is_within picks patterns refuses

  -- ---- exactly one answer

  module _ (places_are : asking.SomePlaces) (each : asking.EachAsked is_query is_within refuses) (decided : (q : Query) → IsDecided (picks q)) where
    -- whichever regular expressions the builder refused, there is an answer that is cut off
    pub each_queried : (limits : Limits) (file : List ℕ) (before after gained : List (List ℕ)) → after ≡ before ++ gained → (given : Option Schema) (world : World)
        → AreOfPatterns (patterns (contents world.files file)) gained → (parts : List Part) × By limits file before after false given world parts
    each_queried limits file before after gained follows None world own = ([], refl)
    each_queried limits file before after gained follows (Some given) world own =
        let some = places_are (patterns (contents world.files file)) gained in
        by some.0 (record { gained = gained; follows = follows; own = own; are = some.1; told = λ ended. absurd (not_ended ended) }) (each limits given some.0 (contents world.files file))
      where
        by : (places : List CodeAt) → AreOfQuery is_query is_within picks patterns refuses limits file before after false given world places
            → ((q : Query) × Asked limits given places (contents world.files file) q) ⊎ ((r : Refusal) × NotAsked limits given places (contents world.files file) r)
            → (parts : List Part) × By limits file before after false (Some given) world parts
        by places built (inl (q, asked)) =
            let all = each_answer (Selects given (picks q)) limits (each_selected given (picks q) (decided q)) world in
            (file_part file no_share ∷ all.0, (places, built, asks q asked all.0 all.1 refl))
        by places built (inr (r, is)) = (file_part file (refusal_share file r) ∷ [], (places, built, doesnt_ask r is refl))

  module _ (never : asking.NeverBoth is_query is_within refuses) (one : asking.OneQuery is_query is_within refuses) (cause : asking.OneCause is_query is_within refuses) where
    pub one_queried : (limits : Limits) (file : List ℕ) (places : List CodeAt) → OneUnder (AskedAt is_query is_within picks patterns refuses limits file places)
    one_queried limits file places None world a b first second = first ∙ sym second
    one_queried limits file places (Some given) world a b first second = both first second
      where
        both : AskedUnder is_query is_within picks patterns refuses limits file given places world a → AskedUnder is_query is_within picks patterns refuses limits file given places world b → a ≡ b
        both (asks q asked lines each same) (asks p asked_too lines_too each_too same_too) =
            let is : p ≡ q = one limits given places (contents world.files file) p q asked_too asked in
            let lines_same : lines ≡ lines_too = lines_one (Selects given (picks q)) limits (one_selected given (picks q)) world lines lines_too each
            (subst (λ (x : Query). EventLines (Selects given (picks x)) limits world lines_too) is each_too) in
            same ∙ (ap (λ (l : List Part). file_part file no_share ∷ l) lines_same ∙ sym same_too)
        both (asks q asked lines each same) (doesnt_ask r is same_too) = absurd (never limits given places (contents world.files file) q r asked is)
        both (doesnt_ask r is same) (asks q asked lines each same_too) = absurd (never limits given places (contents world.files file) q r asked is)
        both (doesnt_ask r is same) (doesnt_ask s too same_too) =
            same ∙ (ap (λ (x : Refusal). file_part file (refusal_share file x) ∷ []) (cause limits given places (contents world.files file) r s is too) ∙ sym same_too)

  -- ---- what asking a file leaves

  module _ (limits : Limits) (file : List ℕ) where
    abbrev needs : Needs
    needs = record { names = file ∷ []; events = true }

    there : Contains (file ∷ []) file
    there = (0, omega arith, refl)

    none_there : (n : List ℕ) → Contains [] n → Contains (file ∷ []) n
    none_there n (i, below, is) = absurd (omega (arith, below))

    -- no schema is given
    pub nothing_asked : (before after : List (List ℕ)) (s : State) → Ends needs (By limits file before after true None) (Ok false) s s
    nothing_asked before after s = ends_nothing needs (By limits file before after true None) s (λ world. refl)

    begins : (before after : List (List ℕ)) (ended : Bool) (given : Schema) (world : World) (parts : List Part) → By limits file before after ended (Some given) world parts → Begins file parts
    begins before after ended given world parts (places, built, asks q asked lines each same) = (file_part file no_share, lines, same, refl)
    begins before after ended given world parts (places, built, doesnt_ask r is same) = (file_part file (refusal_share file r), [], same, refl)

    -- the file couldn't be read
    pub query_unread : (given : Schema) (refused : List (List ℕ)) → EachUnder (By limits file refused refused false) → (stop : Stop) (old new : State) → StopsBefore file stop old new
        → Ends needs (By limits file refused refused false (Some given)) (Err stop) old new
    query_unread given refused each stop old new stops =
        ends_unread needs (By limits file refused refused false (Some given)) file old new there stop
        (λ world. let a = each (Some given) world in (a.0, a.1, begins refused refused false given world a.0 a.1)) stops

    -- memory was missing
    pub query_memory : (given : Schema) (before after : List (List ℕ)) → EachUnder (By limits file before after false) → (s : State) → Ends needs (By limits file before after false (Some given)) (Err Memory) s s
    query_memory given before after each s = record {
      unread = None;
      cause = refl;
      stands = λ world told. let a = each (Some given) world in (a.0, a.1, cut_nothing (share_of a.0) s.streams, λ _. (refl, refl));
      files = refl;
      apart = λ _. (refl, refl);
      kept = refl;
    }

    -- ---- the first bytes of the file, up to one past the limit, are asked as the file is

    abbrev front : List ℕ → List ℕ
    front all = take (most_bytes limits + 1) all

    same_or_large : (all : List ℕ) → (front all ≡ all) ⊎ ((most_bytes limits < length all) × (most_bytes limits < length (front all)))
    same_or_large all = elim (cases_lt (most_bytes limits) (length all)) [
      | inl large ↦ inr (large, omega (arith, large, length-take-le (most_bytes limits + 1) all (omega (arith, large))))
      | inr small ↦ inl (take_all (most_bytes limits + 1) all (omega (arith, small)))
    ]

    module _ (given : Schema) (gained : List (List ℕ)) (some : asking.SomePlaces) where
      -- a query that is asked, of the first bytes and of all
      abbrev pub AsksQuery : Query → List ℕ → Type 0
      AsksQuery q bytes = AtPlaces (patterns bytes) gained (λ places. Asked limits given places bytes q)

      -- what the builder refused are regular expressions of these bytes, and where there are too many it refused nothing
      abbrev pub AreOwn : List ℕ → Type 0
      AreOwn bytes = AreOfPatterns (patterns bytes) gained × (most_bytes limits < length bytes → gained ≡ [])

      all_own : (all : List ℕ) → AreOwn (front all) → AreOwn all
      all_own all own = elim (same_or_large all) [
        | inl same ↦ subst AreOwn same own
        | inr large ↦ (let none = own.1 large.1 in (subst (AreOfPatterns (patterns all)) (sym none) tt, λ more. none))
      ]

      all_asked : (q : Query) (all : List ℕ) → AsksQuery q (front all) → AsksQuery q all
      all_asked q all asked = elim (same_or_large all) [
        | inl same ↦ subst (AsksQuery q) same asked
        | inr large ↦ (let few = asked.2.short in absurd (omega (arith, few, large.1)))
      ]

      -- a cause for which none is asked, with the regular expression that the builder refused, if it's of one
      abbrev pub AsksNone : Refusal → List ℕ → Type 0
      AsksNone r bytes = AtPlaces (patterns bytes) gained (λ places. NotAsked limits given places bytes r)
          × (is_of_pattern r.code ≡ true → IsOfBuilder (patterns bytes) gained r)

      no_pattern : (r : Refusal) → r ≡ refusal 2 file_start → is_of_pattern r.code ≡ true → ⊥
      no_pattern r is pattern = bad (subst (λ (x : Refusal). is_of_pattern x.code ≡ true) is pattern)
        where
          bad : false ≡ true → ⊥
          bad h = cc

      all_not_asked : (r : Refusal) (all : List ℕ) → AsksNone r (front all) → AsksNone r all
      all_not_asked r all is = elim (same_or_large all) [
        | inl same ↦ subst (AsksNone r) same is
        | inr large ↦ (let p = some (patterns all) gained in let two = by is.0.2 large.1 in ((p.0, p.1, too_large large.0 two), λ pattern. absurd (no_pattern r two pattern)))
      ]
        where
          by : NotAsked limits given is.0.0 (front all) r → most_bytes limits < length (front all) → r ≡ refusal 2 file_start
          by (too_large large is_so) more = is_so
          by (unread few refused) more = absurd (omega (arith, few, more))

      module _ (before after : List (List ℕ)) (follows : after ≡ before ++ gained) (bytes : List ℕ) (old new : State) (is_front : IsFront old.inputs.files file (most_bytes limits + 1) bytes) where
        -- the file isn't asked
        pub query_refused : asking.OneCause is_query is_within refuses → (r : Refusal) (result : Result Bool Stop) → AsksNone r bytes → AreOwn bytes
            → Writes (λ share. share ≡ refusal_share file r) result old new → Ends needs (By limits file before after (is_ended result) (Some given)) result old new
        query_refused cause r result is own wrote =
            ends_written needs (By limits file before after (is_ended result) (Some given)) (λ share. share ≡ refusal_share file r) (Some (File file)) result old new
            (λ world told share same.
            let found = file_is (most_bytes limits + 1) (AsksNone r) file (all_not_asked r) old.inputs.files world.files bytes (told.files file there) is_front is in (
              found.0.0,
              record {
                gained = gained;
                follows = follows;
                own = (file_is (most_bytes limits + 1) AreOwn file all_own old.inputs.files world.files bytes (told.files file there) is_front own).0;
                are = found.0.1;
                told = λ ended other other_is. subst (λ (x : Refusal). is_of_pattern x.code ≡ true → IsOfBuilder (patterns (contents world.files file)) gained x)
                    (cause limits given found.0.0 (contents world.files file) r other found.0.2 other_is) found.1;
              },
              doesnt_ask r found.0.2 (ap (λ (s : Share). file_part file s ∷ []) same),
            )) wrote

        -- the query is asked, and the lines of events are answered
        pub query_answered : asking.NeverBoth is_query is_within refuses → (q : Query) (result : Result Bool Stop) → AsksQuery q bytes → gained ≡ []
            → Ends (record { names = []; events = true }) (EventLines (Selects given (picks q)) limits) result old new
            → Ends needs (By limits file before after (is_ended result) (Some given)) result old new
        query_answered never q result asked none e =
            ends_behind needs (record { names = []; events = true }) (file_part file no_share ∷ []) refl none_there refl
            (EventLines (Selects given (picks q)) limits) (By limits file before after (is_ended result) (Some given)) result old new
            (λ world told ps lines.
            let found = file_is (most_bytes limits + 1) (AsksQuery q) file (all_asked q) old.inputs.files world.files bytes (told.files file there) is_front asked in (
              found.0,
              record {
                gained = gained;
                follows = follows;
                own = subst (AreOfPatterns (patterns (contents world.files file))) (sym none) tt;
                are = found.1;
                told = λ ended other other_is pattern. absurd (never limits given found.0 (contents world.files file) q other found.2 other_is);
              },
              asks q found.2 ps lines refl,
            )) e
