-- How answers that are read and written part by part end, one behind the other.
use Rattle.std.proofs.Common.{◌≡◌, ℕ, Bool, true, false, List, [], ◌∷◌, ◌++◌, refl, ap, sym, ◌∙◌, subst, append_assoc, Option, None, Some, Result, Ok, Err}
use Rattle.std.specs.Prelude.{◌||◌}
use Rattle.std.specs.Io.KnownBytes.{Appends}
use Rattle.std.proofs.lemmas.Grind.{flat_map-append}
use Rattle.sig_base.specs.Causes.{Rose}
use Rattle.sig_base.proofs.Puts.{Appends-then}
use Rattle.answer_writer.proofs.Shares.{gains_nothing, gains_then, cut_longer, cut_nothing, cut_then, join_nothing, share_append}
use Rattle.answer_writer.proofs.Wrote.{badly_since, well_then}
use Rattle.answer_writer.specs.Cut.{Cut}
use Rattle.answer_writer.specs.Input.{Input, File, Events, World, Needs, IsNeeded, IsTold, WasUnread, EventsStay, unread_diagnostic}
use Rattle.answer_writer.specs.Lines.{ended, diagnostics_text}
use Rattle.answer_writer.specs.Parts.{Share, Part, share_of, NoneOfEvents, Gains}
use Rattle.answer_writer.specs.Stands.{Outcome, Writes, Cause, IsHere, TellsUnread, StopsAt, Stands, Ends}
use Rattle.answer_writer.specs.State.{State, Inputs, NoWriteFailed, NoReadFailed}
use Rattle.answer_writer.specs.declared.stop.Stop.{Stop}
use Rattle.answer_writer.specs.declared.stop.Stop.TheVariants.{Unread, Unwritten, Memory}

-- kinds of answers
abbrev pub Kind : Type 1
Kind = World → List Part → Type 0

-- an answer of another kind
pub ends_as : (needs : Needs) (P Q : Kind) (result : Result Bool Stop) (old new : State) → ((w : World) (ps : List Part) → P w ps → Q w ps) → Ends needs P result old new → Ends needs Q result old new
ends_as needs P Q result old new f e = record {
  unread = e.unread;
  cause = e.cause;
  stands = λ world told. let s = e.stands world told in (s.0, f world s.0 s.1, stand result e.unread world s.0 s.2, s.3);
  files = e.files;
  apart = e.apart;
  kept = e.kept;
}
  where
    here : (input : Input) (world : World) (before behind : List Part) → IsHere P world input before behind new.inputs.left → IsHere Q world input before behind new.inputs.left
    here (File name) world before behind is = is
    here Events world before behind (whole, given, is) = (whole, given, f (record { files = world.files; events = whole }) before is)

    stops : (stop : Stop) (input : Input) (world : World) (parts : List Part) → StopsAt P world stop input parts new.inputs.left old.streams new.streams
        → StopsAt Q world stop input parts new.inputs.left old.streams new.streams
    stops stop input world parts s =
        record { before = s.before; behind = s.behind; divide = s.divide; here = here input world s.before s.behind s.here; out = s.out; err = s.err }

    stand : (r : Result Bool Stop) (unread : Option Input) (world : World) (parts : List Part) → Stands P world r unread parts old new → Stands Q world r unread parts old new
    stand (Ok found) unread world parts s = s
    stand (Err Unread) None world parts s = s
    stand (Err Unread) (Some input) world parts s = stops Unread input world parts s
    stand (Err Unwritten) None world parts s = s
    stand (Err Unwritten) (Some input) world parts s = stops Unwritten input world parts s
    stand (Err Memory) unread world parts s = s

-- the files alone
abbrev pub files_of : Needs → Needs
files_of needs = record { names = needs.names; events = false }

-- one answer behind the other
abbrev pub Then : Kind → Kind → Kind
Then P Q world parts = (a : List Part) × (b : List Part) × P world a × Q world b × (parts ≡ a ++ b)

-- the events decide nothing of it
abbrev pub EventsAside : Kind → Type 0
EventsAside P = (w : World) (events : List ℕ) (ps : List Part) → P w ps → P (record { files = w.files; events = events }) ps

-- each world has an answer of this kind
abbrev pub EachHas : Kind → Type 0
EachHas P = (w : World) → (ps : List Part) × P w ps

-- ---- what was read

-- no part of those behind is one of the events either
pub none_behind : (ps qs : List Part) → NoneOfEvents (ps ++ qs) → NoneOfEvents qs
none_behind [] qs none = none
none_behind (p ∷ ps) qs none = none_behind ps qs none.1

pub stay_then : (old mid new : Inputs) → EventsStay old mid → EventsStay mid new → EventsStay old new
stay_then old mid new first second = (second.0 ∙ first.0, second.1 ∙ first.1)

-- ---- causes

needed : (needs : Needs) (input : Input) → IsNeeded (files_of needs) input → IsNeeded needs input
needed needs (File name) is = is
needed needs Events is = absurd cc

cause_more : (needs : Needs) (stop : Stop) (unread : Option Input) (old new : State) → Cause (files_of needs) (Err stop) unread old new → Cause needs (Err stop) unread old new
cause_more needs Unread None old new c = c
cause_more needs Unread (Some input) old new c = (needed needs input c.0, c.1, c.2)
cause_more needs Unwritten None old new c = c
cause_more needs Unwritten (Some input) old new c = (needed needs input c.0, c.1, c.2)
cause_more needs Memory unread old new c = c

unread_since : (input : Input) (old mid new : Inputs) → NoReadFailed old mid → EventsStay old mid → WasUnread input mid new → WasUnread input old new
unread_since (File name) old mid new well stay is = (is.0 ∙ ap (λ (l : List (List ℕ)). l ++ name ∷ []) well.0, stay_then old mid new stay is.1)
unread_since Events old mid new well stay is = (subst (λ (n : ℕ). Rose n new.faults) well.1 is.0, is.1 ∙ well.0)

still_well : (old mid new : Inputs) → NoReadFailed old mid → NoReadFailed mid new → NoReadFailed old new
still_well old mid new first second = (second.0 ∙ first.0, second.1 ∙ first.1)

cause_then : (needs : Needs) (stop : Stop) (unread : Option Input) (old mid new : State) → NoReadFailed old.inputs mid.inputs → EventsStay old.inputs mid.inputs
    → NoWriteFailed old.streams mid.streams → Cause needs (Err stop) unread mid new → Cause needs (Err stop) unread old new
cause_then needs Unread None old mid new reads stay writes c = c
cause_then needs Unread (Some input) old mid new reads stay writes c =
    (c.0, unread_since input old.inputs mid.inputs new.inputs reads stay c.1, well_then old.streams mid.streams new.streams writes c.2)
cause_then needs Unwritten None old mid new reads stay writes c =
    (still_well old.inputs mid.inputs new.inputs reads c.0, badly_since old.streams mid.streams new.streams writes c.1)
cause_then needs Unwritten (Some input) old mid new reads stay writes c =
    (c.0, unread_since input old.inputs mid.inputs new.inputs reads stay c.1, badly_since old.streams mid.streams new.streams writes c.2)
cause_then needs Memory unread old mid new reads stay writes c = c

-- ---- what is told

told_less : (needs : Needs) (inputs : Inputs) (world : World) → IsTold needs inputs world → IsTold (files_of needs) inputs world
told_less needs inputs world told = record { files = told.files; events = λ is. absurd (not_true is) }
  where
    not_true : false ≡ true → ⊥
    not_true same = cc

told_later : (needs : Needs) (old new : Inputs) (world : World) → new.files ≡ old.files → new.left ≡ old.left → IsTold needs old world → IsTold needs new world
told_later needs old new world files left told = record { files = λ name there. files ∙ told.files name there; events = λ is. left ∙ told.events is }

module _ (needs : Needs) (P Q : Kind) where
  -- ---- the first one is cut off, or its file can't be read

  stops_less : (world : World) (stop : Stop) (input : Input) (ps qs : List Part) (old new : State) → IsNeeded (files_of needs) input
      → StopsAt P world stop input ps new.inputs.left old.streams new.streams → StopsAt (Then P Q) world stop input (ps ++ qs) new.inputs.left old.streams new.streams
  stops_less world stop Events ps qs old new there s = absurd (not_true there)
    where
      not_true : false ≡ true → ⊥
      not_true same = cc
  stops_less world stop (File name) ps qs old new there s = record {
    before = s.before;
    behind = s.behind ++ qs;
    divide = ap (λ (l : List Part). l ++ qs) s.divide ∙ append_assoc s.before s.behind qs;
    here = (s.here.0, s.here.1 ++ qs, ap (λ (l : List Part). l ++ qs) s.here.2, s.here.3);
    out = s.out;
    err = s.err;
  }

  stands_less : (world : World) (stop : Stop) (unread : Option Input) (ps qs : List Part) (old new : State) → Cause (files_of needs) (Err stop) unread old new
      → Stands P world (Err stop) unread ps old new → Stands (Then P Q) world (Err stop) unread (ps ++ qs) old new
  stands_less world Unread None ps qs old new c s = s
  stands_less world Unread (Some input) ps qs old new c s = stops_less world Unread input ps qs old new c.0 s
  stands_less world Unwritten None ps qs old new c s =
      subst (λ (share : Share). Cut share old.streams new.streams) (sym (share_append ps qs)) (cut_longer (share_of ps) (share_of qs) old.streams new.streams s)
  stands_less world Unwritten (Some input) ps qs old new c s = stops_less world Unwritten input ps qs old new c.0 s
  stands_less world Memory unread ps qs old new c s =
      subst (λ (share : Share). Cut share old.streams new.streams) (sym (share_append ps qs)) (cut_longer (share_of ps) (share_of qs) old.streams new.streams s)

  pub ends_less : (stop : Stop) (old new : State) → EachHas Q → Ends (files_of needs) P (Err stop) old new → Ends needs (Then P Q) (Err stop) old new
  ends_less stop old new each e = record {
    unread = e.unread;
    cause = cause_more needs stop e.unread old new e.cause;
    stands = λ world told.
        let first = e.stands world (told_less needs old.inputs world told) in
        let second = each world in
        (first.0 ++ second.0, (first.0, second.0, first.1, second.1, refl), stands_less world stop e.unread first.0 second.0 old new e.cause first.2, λ _. e.apart refl);
    files = e.files;
    apart = λ _. e.apart refl;
    kept = e.kept;
  }

  -- ---- the first one is whole

  stands_whole : (world : World) (first second : Bool) (said other : Option Input) (ps qs : List Part) (old mid new : State)
      → Stands P world (Ok first) said ps old mid → Stands Q world (Ok second) other qs mid new → Stands (Then P Q) world (Ok (first || second)) other (ps ++ qs) old new
  stands_whole world first second said other ps qs old mid new (found, gains) (found_too, gains_too) = (
    ap (λ (f : Bool). f || second) found ∙ (ap (λ (f : Bool). (share_of ps).refused || f) found_too ∙ ap (λ (s : Share). s.refused) (sym (share_append ps qs))),
    subst (λ (s : Share). Gains s old.streams new.streams) (sym (share_append ps qs)) (gains_then (share_of ps) (share_of qs) old.streams mid.streams new.streams gains gains_too),
  )

  pub ends_both : (first second : Bool) (old mid new : State) → Ends (files_of needs) P (Ok first) old mid → Ends needs Q (Ok second) mid new → Ends needs (Then P Q) (Ok (first || second)) old new
  ends_both first second old mid new a b = record {
    unread = b.unread;
    cause = (b.cause.0, (b.cause.1.0 ∙ a.cause.1.0, b.cause.1.1 ∙ a.cause.1.1), well_then old.streams mid.streams new.streams a.cause.2 b.cause.2);
    stands = λ world told.
        let one = a.stands world (told_less needs old.inputs world told) in
        let two = b.stands world (told_later needs old.inputs mid.inputs world a.files (a.apart refl).0 told) in (
          one.0 ++ two.0,
          (one.0, two.0, one.1, two.1, refl),
          stands_whole world first second a.unread b.unread one.0 two.0 old mid new one.2 two.2,
          λ none. stay_then old.inputs mid.inputs new.inputs (a.apart refl) (two.3 (none_behind one.0 two.0 none)),
        );
    files = b.files ∙ a.files;
    apart = λ is. stay_then old.inputs mid.inputs new.inputs (a.apart refl) (b.apart is);
    kept = b.kept ∙ a.kept;
  }

  -- and then the second one is cut off, or its input can't be read
  tells_later : (stop : Stop) (input : Input) (before more : List (List ℕ)) (old mid new : Option (List ℕ)) → Appends old mid (diagnostics_text before) → TellsUnread stop input more mid new
      → TellsUnread stop input (before ++ more) old new
  tells_later Unread input before more old mid new one two =
      subst (λ (l : List ℕ). Appends old new l) (lined before more (unread_diagnostic input ∷ []))
      (Appends-then old mid new (diagnostics_text before) (diagnostics_text (more ++ unread_diagnostic input ∷ [])) one two)
    where
      lined : (xs ys zs : List (List ℕ)) → diagnostics_text xs ++ diagnostics_text (ys ++ zs) ≡ diagnostics_text ((xs ++ ys) ++ zs)
      lined xs ys zs = sym (flat_map-append ended xs (ys ++ zs)) ∙ ap diagnostics_text (sym (append_assoc xs ys zs))
  tells_later Unwritten input before more old mid new one two = record {
    begun = two.begun;
    rest = two.rest;
    divide = two.divide;
    grown = subst (λ (l : List ℕ). Appends old new l)
        (sym (append_assoc (diagnostics_text before) (diagnostics_text more) two.begun) ∙ ap (λ (l : List ℕ). l ++ two.begun) (sym (flat_map-append ended before more)))
        (Appends-then old mid new (diagnostics_text before) (diagnostics_text more ++ two.begun) one two.grown);
  }
  tells_later Memory input before more old mid new one two = absurd two

  stops_later : (world : World) (stop : Stop) (input : Input) (ps qs : List Part) (old mid new : State) → EventsAside P → P world ps
      → Gains (share_of ps) old.streams mid.streams → StopsAt Q world stop input qs new.inputs.left mid.streams new.streams
      → StopsAt (Then P Q) world stop input (ps ++ qs) new.inputs.left old.streams new.streams
  stops_later world stop input ps qs old mid new aside p gains two = record {
    before = ps ++ two.before;
    behind = two.behind;
    divide = ap (λ (l : List Part). ps ++ l) two.divide ∙ sym (append_assoc ps two.before two.behind);
    here = here input two.before two.behind two.here;
    out = subst (λ (s : Share). Appends old.streams.out new.streams.out s.output) (sym (share_append ps two.before))
        (Appends-then old.streams.out mid.streams.out new.streams.out (share_of ps).output (share_of two.before).output gains.0 two.out);
    err = subst (λ (s : Share). TellsUnread stop input s.diagnostics old.streams.err new.streams.err) (sym (share_append ps two.before))
        (tells_later stop input (share_of ps).diagnostics (share_of two.before).diagnostics old.streams.err mid.streams.err new.streams.err gains.1 two.err);
  }
    where
      here : (i : Input) (before behind : List Part) → IsHere Q world i before behind new.inputs.left → IsHere (Then P Q) world i (ps ++ before) behind new.inputs.left
      here (File name) before behind is = is
      here Events before behind (whole, given, is) = (whole, given, (ps, before, aside world whole ps p, is, refl))

  stands_later : (world : World) (first : Bool) (stop : Stop) (said unread : Option Input) (ps qs : List Part) (old mid new : State) → EventsAside P → P world ps
      → Stands P world (Ok first) said ps old mid → Stands Q world (Err stop) unread qs mid new → Stands (Then P Q) world (Err stop) unread (ps ++ qs) old new
  stands_later world first Unread said None ps qs old mid new aside p one two = two
  stands_later world first Unread said (Some input) ps qs old mid new aside p one two = stops_later world Unread input ps qs old mid new aside p one.1 two
  stands_later world first Unwritten said None ps qs old mid new aside p one two =
      subst (λ (s : Share). Cut s old.streams new.streams) (sym (share_append ps qs)) (cut_then (share_of ps) (share_of qs) old.streams mid.streams new.streams one.1 two)
  stands_later world first Unwritten said (Some input) ps qs old mid new aside p one two = stops_later world Unwritten input ps qs old mid new aside p one.1 two
  stands_later world first Memory said unread ps qs old mid new aside p one two =
      subst (λ (s : Share). Cut s old.streams new.streams) (sym (share_append ps qs)) (cut_then (share_of ps) (share_of qs) old.streams mid.streams new.streams one.1 two)

  pub ends_later : (first : Bool) (stop : Stop) (old mid new : State) → EventsAside P → Ends (files_of needs) P (Ok first) old mid → Ends needs Q (Err stop) mid new → Ends needs (Then P Q) (Err stop) old new
  ends_later first stop old mid new aside a b = record {
    unread = b.unread;
    cause = cause_then needs stop b.unread old mid new a.cause.1 (a.apart refl) a.cause.2 b.cause;
    stands = λ world told.
        let one = a.stands world (told_less needs old.inputs world told) in
        let two = b.stands world (told_later needs old.inputs mid.inputs world a.files (a.apart refl).0 told) in (
          one.0 ++ two.0,
          (one.0, two.0, one.1, two.1, refl),
          stands_later world first stop a.unread b.unread one.0 two.0 old mid new aside one.1 one.2 two.2,
          λ none. stay_then old.inputs mid.inputs new.inputs (a.apart refl) (two.3 (none_behind one.0 two.0 none)),
        );
    files = b.files ∙ a.files;
    apart = λ is. stay_then old.inputs mid.inputs new.inputs (a.apart refl) (b.apart is);
    kept = b.kept ∙ a.kept;
  }

-- ---- what is written without reading

outcome_stands : (P : Kind) (world : World) (share : Share) (part : Part) (result : Result Bool Stop) (old new : State) → part.share ≡ share
    → Outcome share result old.streams new.streams → Stands P world result None (part ∷ []) old new
outcome_stands P world share part (Ok found) old new is outcome =
    (outcome.0 ∙ ap (λ (s : Share). s.refused) whole, subst (λ (s : Share). Gains s old.streams new.streams) whole outcome.1)
  where
    whole : share ≡ share_of (part ∷ [])
    whole = sym is ∙ sym (join_nothing part.share)
outcome_stands P world share part (Err Unread) old new is outcome = outcome
outcome_stands P world share part (Err Unwritten) old new is outcome =
    subst (λ (s : Share). Cut s old.streams new.streams) (sym is ∙ sym (join_nothing part.share)) outcome.0
outcome_stands P world share part (Err Memory) old new is outcome =
    subst (λ (s : Share). Cut s old.streams new.streams) (sym is ∙ sym (join_nothing part.share)) outcome

outcome_cause : (needs : Needs) (share : Share) (result : Result Bool Stop) (old new : State) → new.inputs ≡ old.inputs → Outcome share result old.streams new.streams → Cause needs result None old new
outcome_cause needs share (Ok found) old new same outcome = (refl, (ap (λ (i : Inputs). i.failed) same, ap (λ (i : Inputs). i.faults) same), outcome.2)
outcome_cause needs share (Err Unread) old new same outcome = outcome
outcome_cause needs share (Err Unwritten) old new same outcome = ((ap (λ (i : Inputs). i.failed) same, ap (λ (i : Inputs). i.faults) same), outcome.1)
outcome_cause needs share (Err Memory) old new same outcome = refl

-- a share that is written makes one part of the answer
pub ends_written : (needs : Needs) (P : Kind) (S : Share → Type 0) (input : Option Input) (result : Result Bool Stop) (old new : State)
    → ((w : World) → IsTold needs old.inputs w → (s : Share) → S s → P w (record { input = input; share = s } ∷ [])) → Writes S result old new → Ends needs P result old new
ends_written needs P S input result old new f w = record {
  unread = None;
  cause = outcome_cause needs w.share result old new w.inputs w.outcome;
  stands = λ world told. (
    record { input = input; share = w.share } ∷ [],
    f world told w.share w.is,
    outcome_stands P world w.share (record { input = input; share = w.share }) result old new refl w.outcome,
    λ _. (ap (λ (i : Inputs). i.left) w.inputs, ap (λ (i : Inputs). i.faults) w.inputs),
  );
  files = ap (λ (i : Inputs). i.files) w.inputs;
  apart = λ _. (ap (λ (i : Inputs). i.left) w.inputs, ap (λ (i : Inputs). i.faults) w.inputs);
  kept = w.kept;
}

-- nothing yet
pub ends_nothing : (needs : Needs) (P : Kind) (s : State) → ((w : World) → P w []) → Ends needs P (Ok false) s s
ends_nothing needs P s is = record {
  unread = None;
  cause = (refl, (refl, refl), (refl, refl));
  stands = λ world told. ([], is world, (refl, gains_nothing s.streams), λ _. (refl, refl));
  files = refl;
  apart = λ _. (refl, refl);
  kept = refl;
}

-- memory was missing before anything was written
pub ends_memory : (needs : Needs) (P : Kind) (s : State) → EachHas P → Ends needs P (Err Memory) s s
ends_memory needs P s each = record {
  unread = None;
  cause = refl;
  stands = λ world told. let a = each world in (a.0, a.1, cut_nothing (share_of a.0) s.streams, λ _. (refl, refl));
  files = refl;
  apart = λ _. (refl, refl);
  kept = refl;
}
