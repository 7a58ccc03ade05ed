-- Lines of the events that are answered one after the other, each by the history of those before it.
use Rattle.std.proofs.Common.{◌≡◌, ℕ, Bool, true, false, List, [], ◌∷◌, ◌++◌, refl, ap, sym, ◌∙◌, subst, append_assoc, append-nil, arith, Option, None, Some, Result, Ok, Err, inl, inr}
use Rattle.std.specs.Prelude.{◌||◌, ◌⊎◌, OnOk}
use Rattle.std.specs.Io.KnownBytes.{Appends}
use Rattle.std.proofs.lemmas.Grind.{flat_map-append}
use Rattle.sig_base.proofs.Puts.{Appends-then}
use Rattle.sig_base.specs.Causes.{Rose}
use Rattle.sig_base.specs.declared.faults.LineFault.{LineFault}
use Rattle.sig_base.specs.declared.faults.LineFault.TheVariants.{Read}
use Rattle.sig_base.specs.declared.faults.LineStep.{LineStep}
use Rattle.sig_base.specs.declared.faults.LineStep.TheVariants.{Line, TooLong, TooMuch, End}
use Rattle.sig_base.specs.declared.limits.Limits.{Limits}
use Rattle.event_lines.proofs.Coming.{last_bytes}
use Rattle.event_lines.specs.Lines.{lines_of}
use Rattle.event_lines.specs.Reading.{Reading, coming, IsNext}
use Rattle.answer_writer.proofs.Asked.{answer, no_feed, Asks, Came, none_comes, Failed, failed, Whole, At, at_next, came_at}
use Rattle.answer_writer.proofs.Ending.{Kind, ends_as}
use Rattle.answer_writer.proofs.Shares.{gains_nothing, gains_then, cut_longer, cut_then, cut_nothing, join_nothing, share_append}
use Rattle.answer_writer.proofs.Wrote.{badly_since, well_then, writes_as, writes_nothing}
use Rattle.answer_writer.specs.Cut.{Cut}
use Rattle.answer_writer.specs.EventLines.{events_part, is_blank, is_end, line_refused}
use Rattle.answer_writer.specs.FollowedLines.{ByHistory, EachFollows, FollowsWithin, UnlessBlankFollows, StepFollows, FollowParts, FollowedLines}
use Rattle.answer_writer.specs.Input.{Input, File, Events, World, Needs, IsTold, EventsStay, unread_diagnostic}
use Rattle.answer_writer.specs.Lines.{ended, diagnostics_text}
use Rattle.answer_writer.specs.Parts.{Share, Part, no_share, join, share_of, NoneOfEvents, Gains}
use Rattle.answer_writer.specs.Stands.{Outcome, Writes, Cause, GivenWhole, IsHere, StopsAt, Stands, Ends, ToldUnread}
use Rattle.answer_writer.specs.State.{State, Inputs, Streams, NoReadFailed, NoWriteFailed, SomeWriteFailed}
use Rattle.answer_writer.specs.declared.stop.Stop.{Stop}
use Rattle.answer_writer.specs.declared.stop.Stop.TheVariants.{Unread, Unwritten, Memory}

-- a step's answer by the one is an answer by the other, with the same history behind it
pub step_follows_within : {H : Type 0} (by other : ByHistory H) → FollowsWithin by other → (history : H) (step : LineStep) (share : Share) (after : H) → StepFollows by history step share after
    → StepFollows other history step share after
step_follows_within {H} by other within history (Line number line) share after is = unless (is_blank line) is
  where
    unless : (b : Bool) → UnlessBlankFollows b (by history number line) history share after → UnlessBlankFollows b (other history number line) history share after
    unless true nothing = nothing
    unless false given = within history number line share after given
step_follows_within by other within history (TooLong number) share after is = is
step_follows_within by other within history (TooMuch number) share after is = is
step_follows_within by other within history End share after is = is

module _ {H : Type 0} (follows : ByHistory H) (limits : Limits) (start : H) where
  -- ---- parts

  followed_append : (xs ys : List LineStep) (a b c : H) (ps qs : List Part) → FollowParts follows xs a ps b → FollowParts follows ys b qs c → FollowParts follows (xs ++ ys) a (ps ++ qs) c
  followed_append [] ys a b c [] qs first second = subst (λ (h : H). FollowParts follows ys h qs c) first second
  followed_append [] ys a b c (p ∷ ps) qs first second = absurd first
  followed_append (x ∷ xs) ys a b c [] qs first second = absurd first
  followed_append (x ∷ xs) ys a b c (p ∷ ps) qs (next, part, more) second = (next, part, followed_append xs ys next b c ps qs more second)

  abbrev part_of : Share → Part
  part_of share = record { input = Some Events; share = share }

  each_step : EachFollows follows → (history : H) (step : LineStep) → (share : Share) × (after : H) × StepFollows follows history step share after
  each_step each history step = shared step
    where
      unless : (b : Bool) (P : Share → H → Type 0) → (share : Share) × (after : H) × P share after → (share : Share) × (after : H) × UnlessBlankFollows b P history share after
      unless true P some = (no_share, history, (refl, refl))
      unless false P some = some

      shared : (s : LineStep) → (share : Share) × (after : H) × StepFollows follows history s share after
      shared (Line number line) = unless (is_blank line) (follows history number line) (each history number line)
      shared (TooLong number) = (line_refused number 30, history, (refl, refl))
      shared (TooMuch number) = (line_refused number 31, history, (refl, refl))
      shared End = (no_share, history, (refl, refl))

  -- each list of steps has parts, and a history behind them
  each_followed : EachFollows follows → (steps : List LineStep) (history : H) → (ps : List Part) × (after : H) × FollowParts follows steps history ps after
  each_followed each [] history = ([], history, refl)
  each_followed each (step ∷ steps) history =
      let one = each_step each history step in
      let more = each_followed each steps one.1 in
      (part_of one.0 ∷ more.0, more.1, (one.1, record { input = refl; share = one.2 }, more.2))

  -- ---- what is answered so far

  -- what the steps through the events are answered, and that with the part before them, where `T` holds of the history behind them
  abbrev Steps : (H → Type 0) → Kind
  Steps T world parts = (after : H) × FollowParts follows (lines_of limits world.events) start parts after × T after

  abbrev pub Lines : (H → Type 0) → Kind
  Lines T world parts = (after : H) × FollowedLines follows limits start world parts after × T after

  abbrev events_alone : Needs
  events_alone = record { names = []; events = true }

  -- the steps so far are answered whole
  pub record Answered (history : H) (r : Reading) (refused : Bool) (old now : State) (world : World) : Type 0 where
    pub done : List LineStep
    pub parts : List Part
    pub at : At limits r now.inputs.left world.events done
    pub each : FollowParts follows done start parts history
    pub found : refused ≡ (share_of parts).refused
    pub gains : Gains (share_of parts) old.streams now.streams

  -- this history is behind them
  pub record Going (history : H) (r : Reading) (refused : Bool) (old now : State) : Type 0 where
    pub reads : NoReadFailed old.inputs now.inputs
    pub writes : NoWriteFailed old.streams now.streams
    pub files : now.inputs.files ≡ old.inputs.files
    pub kept : now.references ≡ old.references
    pub answered : (world : World) → old.inputs.left ≡ Some world.events → Answered history r refused old now world

  -- ---- the start

  abbrev pub begun : Reading
  begun = record { ahead = []; room = limits.events_bytes; number = 1; line_bytes = limits.line_bytes; ended = false }

  starts : (s : State) → Going start begun false s s
  starts s = record {
    reads = (refl, refl);
    writes = (refl, refl);
    files = refl;
    kept = refl;
    answered = λ world told. record {
      done = [];
      parts = [];
      at = record {
        rest = world.events;
        stays = told;
        come = refl;
        stands = inr (record { whole = []; number = 1; divide = refl; are = inl refl; more = λ more. refl });
      };
      each = refl;
      found = refl;
      gains = gains_nothing s.streams;
    };
  }

  pub lines_start : (r : Reading) (s : State) → r ≡ begun → Going start r false s s
  lines_start r s is = subst (λ (x : Reading). Going start x false s s) (sym is) (starts s)

  -- ---- a step, answered whole

  steps_are : (T : H → Type 0) (xs ys : List LineStep) (world : World) → lines_of limits world.events ≡ xs ++ ys → (history after : H) (ps qs : List Part) → FollowParts follows xs start ps history
      → FollowParts follows ys history qs after → T after → Steps T world (ps ++ qs)
  steps_are T xs ys world come history after ps qs first second t =
      (after, subst (λ (l : List LineStep). FollowParts follows l start (ps ++ qs) after) (sym come) (followed_append xs ys start history after ps qs first second), t)

  -- what a step is answered behind a history, where `S` holds of the history behind it
  abbrev pub StepTo : (H → Type 0) → H → LineStep → Share → Type 0
  StepTo S history step share = (after : H) × StepFollows follows history step share after × S after

  step_part : (history : H) (step : LineStep) (share : Share) (after : H) → StepFollows follows history step share after → FollowParts follows (step ∷ []) history (part_of share ∷ []) after
  step_part history step share after is = (after, record { input = refl; share = is }, refl)

  pub lines_next : (S : H → Type 0) (history : H) (r later : Reading) (step : LineStep) (first second both : Bool) (old now mid new : State) → is_end step ≡ false → both ≡ (first || second)
      → Asks r later now mid (Ok step) → Going history r first old now → (wrote : Writes (StepTo S history step) (Ok second) mid new) → Going wrote.is.0 later both old new
  lines_next S history r later step first second both old now mid new some is asks going wrote = record {
    reads = (ap (λ (i : Inputs). i.failed) wrote.inputs ∙ (asks.failed ∙ going.reads.0), ap (λ (i : Inputs). i.faults) wrote.inputs ∙ (asks.cause.same ∙ going.reads.1));
    writes = well_then old.streams now.streams new.streams going.writes (subst (λ (s : Streams). NoWriteFailed s new.streams) asks.streams wrote.outcome.2);
    files = ap (λ (i : Inputs). i.files) wrote.inputs ∙ (asks.files ∙ going.files);
    kept = wrote.kept ∙ (asks.kept ∙ going.kept);
    answered = λ world told. turn world (going.answered world told);
  }
    where
      turn : (world : World) → Answered history r first old now world → Answered wrote.is.0 later both old new world
      turn world a =
          let c : Came r later a.at.rest mid.inputs.left step = came_at limits r later step now mid world.events a.done a.at some asks in
          record {
            done = a.done ++ step ∷ [];
            parts = a.parts ++ part_of wrote.share ∷ [];
            at = subst (λ (l : Option (List ℕ)). At limits later l world.events (a.done ++ step ∷ [])) (sym (ap (λ (i : Inputs). i.left) wrote.inputs))
                (at_next limits r later now.inputs.left mid.inputs.left world.events a.done step a.at c);
            each = followed_append a.done (step ∷ []) start history wrote.is.0 a.parts (part_of wrote.share ∷ []) a.each (step_part history step wrote.share wrote.is.0 wrote.is.1);
            found = is ∙ (ap (λ (f : Bool). f || second) a.found
                ∙ (ap (λ (f : Bool). (share_of a.parts).refused || f) (wrote.outcome.0 ∙ ap (λ (s : Share). s.refused) (sym (join_nothing wrote.share)))
                ∙ ap (λ (s : Share). s.refused) (sym (share_append a.parts (part_of wrote.share ∷ [])))));
            gains = subst (λ (s : Share). Gains s old.streams new.streams) (sym (share_append a.parts (part_of wrote.share ∷ [])))
                (gains_then (share_of a.parts) (share_of (part_of wrote.share ∷ [])) old.streams now.streams new.streams a.gains
                (subst (λ (s : Share). Gains s now.streams new.streams) (sym (join_nothing wrote.share))
                (subst (λ (s : Streams). Gains wrote.share s new.streams) asks.streams wrote.outcome.1)));
          }

  not_quiet : true ≡ false → ⊥
  not_quiet same = cc

  -- ---- the part before the steps

  opened : (T : H → Type 0) (result : Result Bool Stop) (unread : Option Input) (old new : State) (world : World)
      → (ps : List Part) × Steps T world ps × Stands (Steps T) world result unread ps old new
      → (ps : List Part) × Lines T world ps × Stands (Lines T) world result unread ps old new × (NoneOfEvents ps → EventsStay old.inputs new.inputs)
  opened T result unread old new world (ps, steps, s) = (events_part ∷ ps, lined world ps steps, stand result unread s, λ none. absurd (none.0 refl))
    where
      lined : (w : World) (qs : List Part) → Steps T w qs → Lines T w (events_part ∷ qs)
      lined w qs (after, parts, t) = (after, (qs, parts, refl), t)

      here : (input : Input) (before behind : List Part) → IsHere (Steps T) world input before behind new.inputs.left → IsHere (Lines T) world input (events_part ∷ before) behind new.inputs.left
      here (File name) before behind is = is
      here Events before behind (whole, given, is) = (whole, given, lined (record { files = world.files; events = whole }) before is)

      stops : (stop : Stop) (input : Input) → StopsAt (Steps T) world stop input ps new.inputs.left old.streams new.streams
          → StopsAt (Lines T) world stop input (events_part ∷ ps) new.inputs.left old.streams new.streams
      stops stop input at = record {
        before = events_part ∷ at.before;
        behind = at.behind;
        divide = ap (λ (l : List Part). events_part ∷ l) at.divide;
        here = here input at.before at.behind at.here;
        out = at.out;
        err = at.err;
      }

      stand : (r : Result Bool Stop) (u : Option Input) → Stands (Steps T) world r u ps old new → Stands (Lines T) world r u (events_part ∷ ps) old new
      stand (Ok found) u st = st
      stand (Err Unread) None st = st
      stand (Err Unread) (Some input) st = stops Unread input st
      stand (Err Unwritten) None st = st
      stand (Err Unwritten) (Some input) st = stops Unwritten input st
      stand (Err Memory) u st = st

  -- ---- the end of the events

  pub lines_end : (T : H → Type 0) (history : H) → T history → (r later : Reading) (step : LineStep) (refused : Bool) (old now mid : State) → is_end step ≡ true → Asks r later now mid (Ok step)
      → Going history r refused old now → Ends events_alone (Lines T) (Ok refused) old mid
  lines_end T history t r later step refused old now mid last asks going = record {
    unread = None;
    cause = (refl, (asks.failed ∙ going.reads.0, asks.cause.same ∙ going.reads.1), subst (λ (s : Streams). NoWriteFailed old.streams s) (sym asks.streams) going.writes);
    stands = λ world told. opened T (Ok refused) None old mid world (whole world (going.answered world (told.events refl)));
    files = asks.files ∙ going.files;
    apart = λ quiet. absurd (not_quiet quiet);
    kept = asks.kept ∙ going.kept;
  }
    where
      all : (world : World) (a : Answered history r refused old now world) → lines_of limits world.events ≡ a.done ++ []
      all world a = a.at.come ∙ ap (λ (l : List LineStep). a.done ++ l)
          (none_comes r later a.at.rest mid.inputs.left step last (subst (λ (l : Option (List ℕ)). IsNext r l later mid.inputs.left (Ok step)) a.at.stays asks.next))

      whole : (world : World) → Answered history r refused old now world → (ps : List Part) × Steps T world ps × Stands (Steps T) world (Ok refused) None ps old mid
      whole world a = (
        a.parts,
        (history, subst (λ (l : List LineStep). FollowParts follows l start a.parts history) (sym (all world a ∙ append-nil a.done)) a.each, t),
        (a.found, subst (λ (s : Streams). Gains (share_of a.parts) old.streams s) (sym asks.streams) a.gains),
      )

  pub each_followed_lines : EachFollows follows → (T : H → Type 0) → ((history : H) → T history) → (world : World) → (ps : List Part) × Lines T world ps
  each_followed_lines each T any world =
      let steps = each_followed each (lines_of limits world.events) start in
      (events_part ∷ steps.0, (steps.1, (steps.0, steps.2, refl), any steps.1))

  -- ---- where each line has one answer, and one history behind it, so have all

  module _ (one : (history : H) (number : ℕ) (line : List ℕ) (a b : Share) (x y : H) → follows history number line a x → follows history number line b y → (a ≡ b) × (x ≡ y)) where
    one_step : (history : H) (step : LineStep) (a b : Share) (x y : H) → StepFollows follows history step a x → StepFollows follows history step b y → (a ≡ b) × (x ≡ y)
    one_step history (Line number line) a b x y first second = unless (is_blank line) first second
      where
        unless : (blank : Bool) → UnlessBlankFollows blank (follows history number line) history a x → UnlessBlankFollows blank (follows history number line) history b y → (a ≡ b) × (x ≡ y)
        unless true p q = (p.0 ∙ sym q.0, p.1 ∙ sym q.1)
        unless false p q = one history number line a b x y p q
    one_step history (TooLong number) a b x y first second = (first.0 ∙ sym second.0, first.1 ∙ sym second.1)
    one_step history (TooMuch number) a b x y first second = (first.0 ∙ sym second.0, first.1 ∙ sym second.1)
    one_step history End a b x y first second = (first.0 ∙ sym second.0, first.1 ∙ sym second.1)

    one_parts : (steps : List LineStep) (history : H) (ps qs : List Part) (x y : H) → FollowParts follows steps history ps x → FollowParts follows steps history qs y → (ps ≡ qs) × (x ≡ y)
    one_parts [] history [] [] x y first second = (refl, first ∙ sym second)
    one_parts [] history [] (q ∷ qs) x y first second = absurd second
    one_parts [] history (p ∷ ps) qs x y first second = absurd first
    one_parts (step ∷ steps) history [] qs x y first second = absurd first
    one_parts (step ∷ steps) history (p ∷ ps) [] x y first second = absurd second
    one_parts (step ∷ steps) history (p ∷ ps) (q ∷ qs) x y (next, part, more) (later, other, others) =
        let same = one_step history step p.share q.share next later part.share other.share in
        let rest = one_parts steps next ps qs x y more (subst (λ (h : H). FollowParts follows steps h qs y) (sym same.1) others) in (
          ap (λ (i : Option Input). record { input = i; share = p.share } ∷ ps) (part.input ∙ sym other.input)
              ∙ (ap (λ (s : Share). record { input = q.input; share = s } ∷ ps) same.0 ∙ ap (λ (l : List Part). q ∷ l) rest.0),
          rest.1,
        )

    pub followed_one : (world : World) (ps qs : List Part) (x y : H) → FollowedLines follows limits start world ps x → FollowedLines follows limits start world qs y → (ps ≡ qs) × (x ≡ y)
    followed_one world ps qs x y (first, parts, is) (second, others, is_too) =
        let same = one_parts (lines_of limits world.events) start first second x y parts others in
        (is ∙ (ap (λ (l : List Part). events_part ∷ l) same.0 ∙ sym is_too), same.1)

  -- ---- a line's answer is cut off

  module _ (T : H → Type 0) (any : (history : H) → T history) (each : EachFollows follows) (history : H) where
    pub lines_stop : (S : H → Type 0) (r later : Reading) (step : LineStep) (refused : Bool) (stop : Stop) (old now mid new : State) → is_end step ≡ false → Asks r later now mid (Ok step)
        → Going history r refused old now → Writes (StepTo S history step) (Err stop) mid new → Ends events_alone (Lines T) (Err stop) old new
    lines_stop S r later step refused stop old now mid new some asks going wrote = record {
      unread = None;
      cause = caused stop wrote.outcome;
      stands = λ world told. opened T (Err stop) None old new world (stopped world (going.answered world (told.events refl)));
      files = ap (λ (i : Inputs). i.files) wrote.inputs ∙ (asks.files ∙ going.files);
      apart = λ quiet. absurd (not_quiet quiet);
      kept = wrote.kept ∙ (asks.kept ∙ going.kept);
    }
      where
        caused : (s : Stop) → Outcome wrote.share (Err s) mid.streams new.streams → Cause events_alone (Err s) None old new
        caused Unread outcome = absurd outcome
        caused Unwritten outcome = (
          (ap (λ (i : Inputs). i.failed) wrote.inputs ∙ (asks.failed ∙ going.reads.0), ap (λ (i : Inputs). i.faults) wrote.inputs ∙ (asks.cause.same ∙ going.reads.1)),
          badly_since old.streams now.streams new.streams going.writes (subst (λ (s : Streams). SomeWriteFailed s new.streams) asks.streams outcome.1),
        )
        caused Memory outcome = refl

        cut : (a : Share) (s : Stop) → Gains a old.streams now.streams → Outcome wrote.share (Err s) mid.streams new.streams → (more : Share) → Cut (join a (join wrote.share more)) old.streams new.streams
        cut a Unread gains outcome more = absurd outcome
        cut a Unwritten gains outcome more = cut_then a (join wrote.share more) old.streams now.streams new.streams gains
            (subst (λ (s : Streams). Cut (join wrote.share more) s new.streams) asks.streams (cut_longer wrote.share more mid.streams new.streams outcome.0))
        cut a Memory gains outcome more = cut_then a (join wrote.share more) old.streams now.streams new.streams gains
            (subst (λ (s : Streams). Cut (join wrote.share more) s new.streams) asks.streams (cut_longer wrote.share more mid.streams new.streams outcome))

        stand : (s : Stop) (world : World) (ps qs : List Part) → Gains (share_of ps) old.streams now.streams → Outcome wrote.share (Err s) mid.streams new.streams
            → Stands (Steps T) world (Err s) None (ps ++ part_of wrote.share ∷ qs) old new
        stand Unread world ps qs gains outcome = absurd outcome
        stand Unwritten world ps qs gains outcome =
            subst (λ (s : Share). Cut s old.streams new.streams) (sym (share_append ps (part_of wrote.share ∷ qs))) (cut (share_of ps) Unwritten gains outcome (share_of qs))
        stand Memory world ps qs gains outcome =
            subst (λ (s : Share). Cut s old.streams new.streams) (sym (share_append ps (part_of wrote.share ∷ qs))) (cut (share_of ps) Memory gains outcome (share_of qs))

        stopped : (world : World) → Answered history r refused old now world → (ps : List Part) × Steps T world ps × Stands (Steps T) world (Err stop) None ps old new
        stopped world a =
            let c : Came r later a.at.rest mid.inputs.left step = came_at limits r later step now mid world.events a.done a.at some asks in
            let behind = each_followed each (coming later c.still) wrote.is.0 in (
              a.parts ++ part_of wrote.share ∷ behind.0,
              steps_are T a.done (step ∷ coming later c.still) world (a.at.come ∙ ap (λ (l : List LineStep). a.done ++ l) c.come) history behind.1 a.parts (part_of wrote.share ∷ behind.0) a.each
                  (wrote.is.0, record { input = refl; share = wrote.is.1 }, behind.2) (any behind.1),
              stand stop world a.parts behind.0 a.gains wrote.outcome,
            )

    -- ---- memory is missing for a line

    pub lines_memory : (r later : Reading) (refused : Bool) (fault : LineFault) (old now mid : State) → Asks r later now mid (Err fault) → Going history r refused old now
        → Ends events_alone (Lines T) (Err Memory) old mid
    lines_memory r later refused fault old now mid asks going = record {
      unread = None;
      cause = refl;
      stands = λ world told. opened T (Err Memory) None old mid world (stopped world (going.answered world (told.events refl)));
      files = asks.files ∙ going.files;
      apart = λ quiet. absurd (not_quiet quiet);
      kept = asks.kept ∙ going.kept;
    }
      where
        stopped : (world : World) → Answered history r refused old now world → (ps : List Part) × Steps T world ps × Stands (Steps T) world (Err Memory) None ps old mid
        stopped world a =
            let behind = each_followed each (coming r a.at.rest) history in (
              a.parts ++ behind.0,
              steps_are T a.done (coming r a.at.rest) world a.at.come history behind.1 a.parts behind.0 a.each behind.2 (any behind.1),
              subst (λ (s : Share). Cut s old.streams mid.streams) (sym (share_append a.parts behind.0))
                  (cut_then (share_of a.parts) (share_of behind.0) old.streams now.streams mid.streams a.gains
                  (subst (λ (s : Streams). Cut (share_of behind.0) now.streams s) (sym asks.streams) (cut_nothing (share_of behind.0) now.streams))),
            )

    -- ---- the events can't be read

    abbrev unread_at : Stop → Option Input
    unread_at Unread = Some Events
    unread_at Unwritten = Some Events
    unread_at Memory = None

    pub lines_unread : (r later : Reading) (refused : Bool) (stop : Stop) (old now mid new : State) → Asks r later now mid (Err Read) → Going history r refused old now
        → ToldUnread Events stop mid new → new.inputs ≡ mid.inputs → new.references ≡ mid.references → Ends events_alone (Lines T) (Err stop) old new
    lines_unread r later refused stop old now mid new asks going told inputs kept = record {
      unread = unread_at stop;
      cause = caused stop told;
      stands = λ world is. opened T (Err stop) (unread_at stop) old new world (stopped world (going.answered world (is.events refl)));
      files = ap (λ (i : Inputs). i.files) inputs ∙ (asks.files ∙ going.files);
      apart = λ quiet. absurd (not_quiet quiet);
      kept = kept ∙ (asks.kept ∙ going.kept);
    }
      where
        rose : Rose old.inputs.faults new.inputs.faults
        rose = subst (λ (n : ℕ). Rose n new.inputs.faults) going.reads.1
            (subst (λ (i : Inputs). Rose now.inputs.faults i.faults) (sym inputs) (asks.cause.failed refl))

        -- and no file did
        alone : new.inputs.failed ≡ old.inputs.failed
        alone = ap (λ (i : Inputs). i.failed) inputs ∙ (asks.failed ∙ going.reads.0)

        caused : (s : Stop) → ToldUnread Events s mid new → Cause events_alone (Err s) (unread_at s) old new
        caused Unread t =
            (refl, (rose, alone), well_then old.streams now.streams new.streams going.writes (subst (λ (s : Streams). NoWriteFailed s new.streams) asks.streams t.1))
        caused Unwritten t = (refl, (rose, alone), badly_since old.streams now.streams new.streams going.writes (subst (λ (s : Streams). SomeWriteFailed s new.streams) asks.streams t.1))
        caused Memory t = refl

        lined : (xs ys : List (List ℕ)) → diagnostics_text xs ++ diagnostics_text ys ≡ diagnostics_text (xs ++ ys)
        lined xs ys = sym (flat_map-append ended xs ys)

        not_end : Err Read ≡ answer End → ⊥
        not_end is = cc

        -- the output is as it was
        out_still : (share : Share) → Gains share old.streams now.streams → new.streams.out ≡ mid.streams.out → Appends old.streams.out new.streams.out share.output
        out_still share gains same = subst (λ (o : Option (List ℕ)). Appends old.streams.out o share.output) (sym (same ∙ ap (λ (s : Streams). s.out) asks.streams)) gains.0

        err_since : (bytes : List ℕ) → Appends mid.streams.err new.streams.err bytes → Appends now.streams.err new.streams.err bytes
        err_since bytes grown = subst (λ (s : Streams). Appends s.err new.streams.err bytes) asks.streams grown

        -- what stands behind whole lines
        here : (world : World) (done : List LineStep) (parts behind : List Part) (rest : List ℕ) → FollowParts follows done start parts history → Whole limits r rest world.events done
            → Failed r rest mid.inputs.left → (whole : List ℕ) × GivenWhole world.events new.inputs.left whole × Steps T (record { files = world.files; events = whole }) parts
        here world done parts behind rest each_done w f = (
          w.whole,
          record {
            cut = r.ahead ++ f.given;
            rest = f.still;
            divide = w.divide ∙ ap (λ (l : List ℕ). w.whole ++ l) (ap (λ (l : List ℕ). r.ahead ++ l) f.gave ∙ sym (append_assoc r.ahead f.given f.still));
            stays = ap (λ (i : Inputs). i.left) inputs ∙ f.stays;
            are = w.are;
            none = no_feed (r.ahead ++ f.given) f.plain;
          },
          (history, subst (λ (l : List LineStep). FollowParts follows l start parts history) (sym all) each_done, any history),
        )
          where
            all : lines_of limits w.whole ≡ done
            all = ap (λ (l : List ℕ). lines_of limits l) (sym (append-nil w.whole)) ∙ (w.more []
                ∙ (ap (λ (l : List LineStep). done ++ l) (last_bytes limits.line_bytes r.room w.number [] refl (omega arith)) ∙ append-nil done))

        stand : (s : Stop) (world : World) (done : List LineStep) (parts behind : List Part) (rest : List ℕ) → FollowParts follows done start parts history → Whole limits r rest world.events done
            → Failed r rest mid.inputs.left → Gains (share_of parts) old.streams now.streams → ToldUnread Events s mid new → Stands (Steps T) world (Err s) (unread_at s) (parts ++ behind) old new
        stand Unread world done parts behind rest each_done w f gains t = record {
          before = parts;
          behind = behind;
          divide = refl;
          here = here world done parts behind rest each_done w f;
          out = out_still (share_of parts) gains t.2;
          err = subst (λ (l : List ℕ). Appends old.streams.err new.streams.err l) (lined (share_of parts).diagnostics (unread_diagnostic Events ∷ []))
              (Appends-then old.streams.err now.streams.err new.streams.err (diagnostics_text (share_of parts).diagnostics) (diagnostics_text (unread_diagnostic Events ∷ [])) gains.1
              (subst (λ (l : List ℕ). Appends now.streams.err new.streams.err l) (sym (append-nil (ended (unread_diagnostic Events)))) (err_since (ended (unread_diagnostic Events)) t.0)));
        }
        stand Unwritten world done parts behind rest each_done w f gains t = record {
          before = parts;
          behind = behind;
          divide = refl;
          here = here world done parts behind rest each_done w f;
          out = out_still (share_of parts) gains t.2;
          err = record {
            begun = t.0.front;
            rest = t.0.rest;
            divide = t.0.parts;
            grown = Appends-then old.streams.err now.streams.err new.streams.err (diagnostics_text (share_of parts).diagnostics) t.0.front gains.1 (err_since t.0.front t.0.grown);
          };
        }
        stand Memory world done parts behind rest each_done w f gains t =
            subst (λ (s : Share). Cut s old.streams new.streams) (sym (share_append parts behind))
            (cut_then (share_of parts) (share_of behind) old.streams now.streams new.streams gains
            (subst (λ (s : Streams). Cut (share_of behind) now.streams s) (sym (t ∙ asks.streams)) (cut_nothing (share_of behind) now.streams)))

        stopped : (world : World) → Answered history r refused old now world → (ps : List Part) × Steps T world ps × Stands (Steps T) world (Err stop) (unread_at stop) ps old new
        stopped world a = by a.at.stands
          where
            f : Failed r a.at.rest mid.inputs.left
            f = failed r later a.at.rest mid.inputs.left (subst (λ (l : Option (List ℕ)). IsNext r l later mid.inputs.left (Err Read)) a.at.stays asks.next)

            behind : (qs : List Part) × (after : H) × FollowParts follows (coming r a.at.rest) history qs after
            behind = each_followed each (coming r a.at.rest) history

            by : (r.ended ≡ true) ⊎ Whole limits r a.at.rest world.events a.done → (ps : List Part) × Steps T world ps × Stands (Steps T) world (Err stop) (unread_at stop) ps old new
            by (inl ended) = absurd (not_end (asks.ended ended))
            by (inr w) = (
              a.parts ++ behind.0,
              steps_are T a.done (coming r a.at.rest) world a.at.come history behind.1 a.parts behind.0 a.each behind.2 (any behind.1),
              stand stop world a.done a.parts behind.0 a.at.rest a.each w f a.gains told,
            )

-- ---- steps that change nothing

pub on_ok : {A E : Type 0} (result : Result A E) (P : Type 0) → P → OnOk result P
on_ok (Ok a) P is = is
on_ok (Err e) P is = tt

-- nothing is written, and the history is as it was
pub follows_nothing : {H : Type 0} (S : H → Type 0) (history : H) (s : State) → S history
    → Writes (λ share. (after : H) × ((share ≡ no_share) × (after ≡ history)) × S after) (Ok false) s s
follows_nothing {H} S history s is =
    writes_as (λ share. share ≡ no_share) (λ share. (after : H) × ((share ≡ no_share) × (after ≡ history)) × S after) (Ok false) s s (λ share none. (history, (none, refl), is)) (writes_nothing s)

-- a line is refused, and the history is as it was
pub follows_refused : {H : Type 0} (S : H → Type 0) (history : H) (number code : ℕ) (result : Result Bool Stop) (old new : State) → S history
    → Writes (λ share. share ≡ line_refused number code) result old new
    → Writes (λ share. (after : H) × ((share ≡ line_refused number code) × (after ≡ history)) × OnOk result (S after)) result old new
follows_refused {H} S history number code result old new is wrote =
    writes_as (λ share. share ≡ line_refused number code) (λ share. (after : H) × ((share ≡ line_refused number code) × (after ≡ history)) × OnOk result (S after)) result old new
    (λ share refused. (history, (refused, refl), on_ok result (S history) is)) wrote

-- ---- what is known behind the lines

-- the history is hidden
pub followed_ends : {H : Type 0} (needs : Needs) (P : H → World → List Part → Type 0) (S : H → Type 0) (result : Result Bool Stop) (old new : State)
    → Ends needs (λ world parts. (after : H) × P after world parts × OnOk result (S after)) result old new → Ends needs (λ world parts. (after : H) × P after world parts) result old new
followed_ends {H} needs P S result old new ends =
    ends_as needs (λ world parts. (after : H) × P after world parts × OnOk result (S after)) (λ world parts. (after : H) × P after world parts) result old new
    (λ world parts (after, is, s). (after, is)) ends

-- In a world that is told, the whole answer of it is written where all went well, and `S` holds of the history behind it.
pub followed_stands : {H : Type 0} (needs : Needs) (P : H → World → List Part → Type 0) (S : H → Type 0) (result : Result Bool Stop) (old new : State)
    → Ends needs (λ world parts. (after : H) × P after world parts × OnOk result (S after)) result old new → (world : World) → IsTold needs old.inputs world
    → OnOk result ((parts : List Part) × (after : H) × P after world parts × Gains (share_of parts) old.streams new.streams × S after)
followed_stands {H} needs P S (Ok found) old new ends world told =
    let s = ends.stands world told in
    (s.0, s.1.0, s.1.1, s.2.1, s.1.2)
followed_stands needs P S (Err stop) old new ends world told = tt
