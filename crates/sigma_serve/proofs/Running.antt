-- What a run leaves, from how answering its request ended.
use Rattle.std.proofs.Common.{◌≡◌, ℕ, Bool, true, false, List, [], ◌∷◌, refl, ap, subst, Option, Some, None, Result, Ok, Err, inl, inr}
use Rattle.std.specs.Prelude.{◌⊎◌}
use Rattle.answer_writer.proofs.Shares.{cut_nothing}
use Rattle.answer_writer.specs.Cut.{Cut}
use Rattle.answer_writer.specs.Input.{Input, World, IsTold, WasUnread, EventsStay}
use Rattle.answer_writer.specs.Parts.{Share, Part, share_of, NoneOfEvents, Gains}
use Rattle.answer_writer.specs.Stands.{Outcome, Cause, Stands, Ends, Writes}
use Rattle.answer_writer.specs.State.{State, Inputs, NoWriteFailed, SomeWriteFailed}
use Rattle.answer_writer.specs.declared.stop.Stop.{Stop}
use Rattle.answer_writer.specs.declared.stop.Stop.TheVariants as stop
use Rattle.rule_convert.specs.declared.backend_name.BackendName.{BackendName}
use Rattle.sig_base.specs.declared.limits.Limits.{Limits}
use Rattle.sigma_serve.proofs.Lifted.{nowhere, places_cut}
use Rattle.sigma_serve.proofs.Wording.{one_request, decided}
use Rattle.sigma_serve.specs.Answers.{Places, AnswersAt, ArePlaces, Answers, needs_of}
use Rattle.sigma_serve.specs.Convert.{ConvertMeans}
use Rattle.sigma_serve.specs.Converted.{Converted}
use Rattle.sigma_serve.specs.Laws.{EachAnswer, OneAnswer, AnswersMean}
use Rattle.sigma_serve.specs.Reports.{usage_share}
use Rattle.sigma_serve.specs.Served.{RefusedTexts, PlacesOf, Answer, accepted, unaccepted, status_of, Serves, Tells, Unasked, StandsCut, StandsAfter, StandsUnread, MayBeUnread, IsCutOff, IsRead, ReadsNoEvents, usage_part}
use Rattle.sigma_serve.specs.Words.{IsAccepted, IsUnaccepted}
use Rattle.sigma_serve.specs.declared.request.Request.{Request}
use Rattle.sigma_serve.specs.declared.request.Request.TheVariants.{Convert}
use Rattle.sigma_serve.specs.declared.status.Status.{Status}
use Rattle.sigma_serve.specs.declared.status.Status.TheVariants.{Usage, ReadFault, WriteFault, Memory}

-- ---- how a run of a request ends

not_usage : (found : Bool) → status_of found ≡ Usage → ⊥
not_usage true is = cc
not_usage false is = cc

not_unread : (found : Bool) → status_of found ≡ ReadFault → ⊥
not_unread true is = cc
not_unread false is = cc

not_unwritten : (found : Bool) → status_of found ≡ WriteFault → ⊥
not_unwritten true is = cc
not_unwritten false is = cc

not_cut : (found : Bool) → IsCutOff (status_of found) → ⊥
not_cut true is = is
not_cut false is = is

module _ (limits : Limits) (texts : RefusedTexts) (words : List (List ℕ)) (request : Request) (is_accepted : IsAccepted words request) (old new : State) where
  -- the answers to this request, where the run came to its end or didn't
  abbrev pub By : Bool → World → List Part → Type 0
  By ended = Answers limits texts.before texts.after ended request

  -- the places of the request are those of the words
  of_words : (ended : Bool) (world : World) (places : Places) → ArePlaces limits texts.before texts.after ended request world places → PlacesOf limits texts ended words world places
  of_words ended world places are other too = subst (λ (r : Request). ArePlaces limits texts.before texts.after ended r world places) (one_request words request other is_accepted too) are

  cut_of_words : (ended : Bool) (world : World) (places : Places) → ArePlaces limits texts.before texts.after ended request world places → PlacesOf limits texts false words world places
  cut_of_words ended world places are = of_words false world places (places_cut limits texts.before texts.after ended request world places are)

  -- where the one answer asks for no events, none were read
  stay : OneAnswer → (world : World) (own : List Part) (places : Places) → AnswersAt limits places request world own → (NoneOfEvents own → EventsStay old.inputs new.inputs)
      → (status : Status) (parts : List Part) → Answer limits places words world status parts → NoneOfEvents parts → EventsStay old.inputs new.inputs
  stay one world own places own_answer quiet status parts (accepted another too answers is) none =
      let same : parts ≡ own = one limits places request world parts own
      (subst (λ (r : Request). AnswersAt limits places r world parts) (one_request words another request too is_accepted) answers) own_answer in
      quiet (subst NoneOfEvents same none)
  stay one world own places own_answer quiet status parts (unaccepted is usage same) none = absurd (is request is_accepted)

  not_asked : OneAnswer → (ended : Bool) (result : Result Bool Stop) → Ends (needs_of request) (By ended) result old new
      → (world : World) → Tells words old.inputs world → Unasked limits texts words world old.inputs new.inputs
  not_asked one ended result e world tells =
      let s = e.stands world (tells request is_accepted) in
      (s.1.0, cut_of_words ended world s.1.0 s.1.1, λ status parts answer none. stay one world s.0 s.1.0 s.1.2 s.3 status parts answer none)

  converted : AnswersMean → (world : World) (places : Places) (parts : List Part) (backend : BackendName) (schema pipelines : Option (List ℕ)) (rules : List (List ℕ)) → AnswersAt limits places request world parts
      → IsAccepted words (Convert backend schema pipelines rules) → Converted (ConvertMeans backend limits) limits places.pipelines places.documents schema pipelines rules world parts
  converted means world places parts backend schema pipelines rules answers too =
      means backend limits places.pipelines places.documents schema pipelines rules world parts
      (subst (λ (r : Request). AnswersAt limits places r world parts) (one_request words request (Convert backend schema pipelines rules) is_accepted too) answers)

  pub serves_whole : OneAnswer → AnswersMean → (found : Bool) → Ends (needs_of request) (By true) (Ok found) old new → Serves limits texts words (status_of found) old.inputs new.inputs old.streams new.streams
  serves_whole one means found e = record {
    answer = λ _ world tells. let s = e.stands world (tells request is_accepted) in
        (s.1.0, of_words true world s.1.0 s.1.1, s.0, accepted request is_accepted s.1.2 (ap status_of s.2.0), s.2.1, s.3);
    headline = λ _ world tells backend schema pipelines rules too. let s = e.stands world (tells request is_accepted) in
        (s.1.0, of_words true world s.1.0 s.1.1, s.0, converted means world s.1.0 s.0 backend schema pipelines rules s.1.2 too, s.2.1);
    usage = λ _ other. absurd (other request is_accepted);
    unaccepted = λ is. absurd (not_usage found is);
    still = λ _. (e.cause.1, e.cause.2);
    read_fault = λ is. absurd (not_unread found is);
    write_fault = λ is. absurd (not_unwritten found is);
    after_fault = λ is. absurd (not_cut found is);
    apart = λ quiet. e.apart (quiet request is_accepted);
    unasked = not_asked one true (Ok found) e;
  }

  pub serves_as : OneAnswer → AnswersMean → (found so : Bool) → found ≡ so → Ends (needs_of request) (By true) (Ok found) old new → Serves limits texts words (status_of so) old.inputs new.inputs old.streams new.streams
  serves_as one means found so is e = subst (λ (f : Bool). Serves limits texts words (status_of f) old.inputs new.inputs old.streams new.streams) is (serves_whole one means found e)

  unread_by : (unread : Option Input) → Cause (needs_of request) (Err stop.Unread) unread old new
      → ((world : World) → IsTold (needs_of request) old.inputs world → (parts : List Part) × By false world parts × Stands (By false) world (Err stop.Unread) unread parts old new
      × (NoneOfEvents parts → EventsStay old.inputs new.inputs))
      → (input : Input) × IsRead words input × WasUnread input old.inputs new.inputs × NoWriteFailed old.streams new.streams × ((world : World) → Tells words old.inputs world → StandsUnread limits texts words world stop.Unread input old.inputs new.inputs old.streams new.streams)
  unread_by None cause stands = absurd cause
  unread_by (Some input) cause stands = (
    input,
    (request, is_accepted, cause.0),
    cause.1,
    cause.2,
    λ world tells. let s = stands world (tells request is_accepted) in (request, is_accepted, s.0, s.1, s.2, s.3),
  )

  pub serves_unread : OneAnswer → Ends (needs_of request) (By false) (Err stop.Unread) old new → Serves limits texts words ReadFault old.inputs new.inputs old.streams new.streams
  serves_unread one e = record {
    answer = λ is. absurd is;
    headline = λ is. absurd is;
    usage = λ is. absurd is;
    unaccepted = λ is. absurd (apart is);
    still = λ is. absurd is;
    read_fault = λ _. unread_by e.unread e.cause e.stands;
    write_fault = λ is. absurd (apart_too is);
    after_fault = λ is. absurd is;
    apart = λ quiet. e.apart (quiet request is_accepted);
    unasked = not_asked one false (Err stop.Unread) e;
  }
    where
      apart : ReadFault ≡ Usage → ⊥
      apart is = cc

      apart_too : ReadFault ≡ WriteFault → ⊥
      apart_too is = cc

  unwritten_by : (unread : Option Input) → Cause (needs_of request) (Err stop.Unwritten) unread old new
      → MayBeUnread words WriteFault unread old.inputs new.inputs × SomeWriteFailed old.streams new.streams
  unwritten_by None cause = ((λ _. cause.0), cause.1)
  unwritten_by (Some input) cause = (((request, is_accepted, cause.0), cause.1), cause.2)

  stands_after : (unread : Option Input) (world : World) (parts : List Part) → By false world parts
      → Stands (By false) world (Err stop.Unwritten) unread parts old new → (NoneOfEvents parts → EventsStay old.inputs new.inputs)
      → StandsAfter limits texts words world unread old.inputs new.inputs old.streams new.streams
  stands_after None world parts answers s quiet =
      (answers.0, of_words false world answers.0 answers.1, status_of (share_of parts).refused, parts, accepted request is_accepted answers.2 refl, s, quiet)
  stands_after (Some input) world parts answers s quiet = (request, is_accepted, parts, answers, s, quiet)

  pub serves_unwritten : OneAnswer → Ends (needs_of request) (By false) (Err stop.Unwritten) old new
      → Serves limits texts words WriteFault old.inputs new.inputs old.streams new.streams
  serves_unwritten one e = record {
    answer = λ is. absurd is;
    headline = λ is. absurd is;
    usage = λ is. absurd is;
    unaccepted = λ is. absurd (apart is);
    still = λ is. absurd is;
    read_fault = λ is. absurd (apart_too is);
    write_fault = λ _. (unwritten_by e.unread e.cause).1;
    after_fault = λ _. (
      e.unread,
      (λ is. absurd (apart_from_memory is)),
      (unwritten_by e.unread e.cause).0,
      λ world tells. let s = e.stands world (tells request is_accepted) in stands_after e.unread world s.0 s.1 s.2 s.3,
    );
    apart = λ quiet. e.apart (quiet request is_accepted);
    unasked = not_asked one false (Err stop.Unwritten) e;
  }
    where
      apart : WriteFault ≡ Usage → ⊥
      apart is = cc

      apart_too : WriteFault ≡ ReadFault → ⊥
      apart_too is = cc

      apart_from_memory : WriteFault ≡ Memory → ⊥
      apart_from_memory is = cc

memory_usage : Memory ≡ Usage → ⊥
memory_usage is = cc

memory_unread : Memory ≡ ReadFault → ⊥
memory_unread is = cc

memory_unwritten : Memory ≡ WriteFault → ⊥
memory_unwritten is = cc

-- memory was missing: what stands is cut off
pub serves_cut : (limits : Limits) (texts : RefusedTexts) (words : List (List ℕ)) (old new : State) → (ReadsNoEvents words → EventsStay old.inputs new.inputs)
    → ((world : World) → Tells words old.inputs world → Unasked limits texts words world old.inputs new.inputs)
    → ((world : World) → Tells words old.inputs world → StandsCut limits texts words world old.inputs new.inputs old.streams new.streams) → Serves limits texts words Memory old.inputs new.inputs old.streams new.streams
serves_cut limits texts words old new quiet unasked cut = record {
  answer = λ is. absurd is;
  headline = λ is. absurd is;
  usage = λ is. absurd is;
  unaccepted = λ is. absurd (memory_usage is);
  still = λ is. absurd is;
  read_fault = λ is. absurd (memory_unread is);
  write_fault = λ is. absurd (memory_unwritten is);
  after_fault = λ _. (None, (λ _. refl), (λ is. absurd (memory_unwritten is)), cut);
  apart = quiet;
  unasked = unasked;
}

pub serves_memory : (limits : Limits) (texts : RefusedTexts) (words : List (List ℕ)) (request : Request) → IsAccepted words request → (old new : State) → OneAnswer
    → Ends (needs_of request) (Answers limits texts.before texts.after false request) (Err stop.Memory) old new → Serves limits texts words Memory old.inputs new.inputs old.streams new.streams
serves_memory limits texts words request is_accepted old new one e =
    serves_cut limits texts words old new (λ quiet. e.apart (quiet request is_accepted)) (not_asked limits texts words request is_accepted old new one false (Err stop.Memory) e)
    (λ world tells. let s = e.stands world (tells request is_accepted) in
    (s.1.0, of_words limits texts words request is_accepted old new false world s.1.0 s.1.1, status_of (share_of s.0).refused, s.0, accepted request is_accepted s.1.2 refl, s.2, s.3))

-- memory was missing for the words
pub serves_nothing : EachAnswer → (limits : Limits) (refused : List (List ℕ)) (words : List (List ℕ)) (s : State)
    → Serves limits (record { before = refused; after = refused }) words Memory s.inputs s.inputs s.streams s.streams
serves_nothing each limits refused words s =
    serves_cut limits (record { before = refused; after = refused }) words s s (λ _. (refl, refl))
    (λ world tells. let c = some world (decided words) in (c.0, c.1, λ status parts answer none. (refl, refl))) (λ world _. some world (decided words))
  where
    some : (world : World) → ((request : Request) × IsAccepted words request) ⊎ IsUnaccepted words → StandsCut limits (record { before = refused; after = refused }) words world s.inputs s.inputs s.streams s.streams
    some world (inl (request, is_accepted)) =
        let a = each limits refused request world in
        (a.1.0, of_words limits (record { before = refused; after = refused }) words request is_accepted s s false world a.1.0 a.1.1, status_of (share_of a.0).refused, a.0, accepted request is_accepted a.1.2 refl, cut_nothing (share_of a.0) s.streams, λ none. (refl, refl))
    some world (inr other) = (nowhere, (λ request too. absurd (other request too)), Usage, usage_part ∷ [], unaccepted other refl refl, cut_nothing (share_of (usage_part ∷ [])) s.streams, λ none. (refl, refl))

-- ---- words that aren't accepted

abbrev IsUsage : Share → Type 0
IsUsage share = share ≡ usage_share

module _ (limits : Limits) (texts : RefusedTexts) (words : List (List ℕ)) (other : IsUnaccepted words) (old new : State) where
  no_places : (ended : Bool) (world : World) → PlacesOf limits texts ended words world nowhere
  no_places ended world request too = absurd (other request too)

  same_gains : (share : Share) → IsUsage share → Gains share old.streams new.streams → Gains (share_of (usage_part ∷ [])) old.streams new.streams
  same_gains share is gains = subst (λ (s : Share). Gains s old.streams new.streams) is gains

  same_cut : (share : Share) → IsUsage share → Cut share old.streams new.streams → Cut (share_of (usage_part ∷ [])) old.streams new.streams
  same_cut share is cut = subst (λ (s : Share). Cut s old.streams new.streams) is cut

  pub serves_usage : (found : Bool) → Writes IsUsage (Ok found) old new → Serves limits texts words Usage old.inputs new.inputs old.streams new.streams
  serves_usage found w = record {
    answer = λ _ world _. (nowhere, no_places true world, usage_part ∷ [], unaccepted other refl refl, same_gains w.share w.is w.outcome.1, λ none. (ap (λ (i : Inputs). i.left) w.inputs, ap (λ (i : Inputs). i.faults) w.inputs));
    headline = λ _ world _ backend schema pipelines rules too. absurd (other (Convert backend schema pipelines rules) too);
    usage = λ _ _. refl;
    unaccepted = λ _. other;
    still = λ _. ((ap (λ (i : Inputs). i.failed) w.inputs, ap (λ (i : Inputs). i.faults) w.inputs), w.outcome.2);
    read_fault = λ is. absurd (apart is);
    write_fault = λ is. absurd (apart_too is);
    after_fault = λ is. absurd is;
    apart = λ _. (ap (λ (i : Inputs). i.left) w.inputs, ap (λ (i : Inputs). i.faults) w.inputs);
    unasked = λ world tells. (nowhere, no_places false world, λ status parts answer none. (ap (λ (i : Inputs). i.left) w.inputs, ap (λ (i : Inputs). i.faults) w.inputs));
  }
    where
      apart : Usage ≡ ReadFault → ⊥
      apart is = cc

      apart_too : Usage ≡ WriteFault → ⊥
      apart_too is = cc

  pub usage_unwritten : Writes IsUsage (Err stop.Unwritten) old new → Serves limits texts words WriteFault old.inputs new.inputs old.streams new.streams
  usage_unwritten w = record {
    answer = λ is. absurd is;
    headline = λ is. absurd is;
    usage = λ is. absurd is;
    unaccepted = λ _. other;
    still = λ is. absurd is;
    read_fault = λ is. absurd (apart is);
    write_fault = λ _. w.outcome.1;
    after_fault = λ _. (
      None,
      (λ _. refl),
      (λ _. (ap (λ (i : Inputs). i.failed) w.inputs, ap (λ (i : Inputs). i.faults) w.inputs)),
      λ world _. (
        nowhere,
        no_places false world,
        Usage,
        usage_part ∷ [],
        unaccepted other refl refl,
        same_cut w.share w.is w.outcome.0,
        λ none. (ap (λ (i : Inputs). i.left) w.inputs, ap (λ (i : Inputs). i.faults) w.inputs),
      ),
    );
    apart = λ _. (ap (λ (i : Inputs). i.left) w.inputs, ap (λ (i : Inputs). i.faults) w.inputs);
    unasked = λ world tells. (nowhere, no_places false world, λ status parts answer none. (ap (λ (i : Inputs). i.left) w.inputs, ap (λ (i : Inputs). i.faults) w.inputs));
  }
    where
      apart : WriteFault ≡ ReadFault → ⊥
      apart is = cc

  pub usage_memory : (s : Stop) → Writes IsUsage (Err s) old new → Serves limits texts words Memory old.inputs new.inputs old.streams new.streams
  usage_memory s w =
      serves_cut limits texts words old new (λ _. (ap (λ (i : Inputs). i.left) w.inputs, ap (λ (i : Inputs). i.faults) w.inputs))
      (λ world tells. (nowhere, no_places false world, λ status parts answer none. (ap (λ (i : Inputs). i.left) w.inputs, ap (λ (i : Inputs). i.faults) w.inputs)))
      (λ world _. (
        nowhere,
        no_places false world,
        Usage,
        usage_part ∷ [],
        unaccepted other refl refl,
        same_cut w.share w.is (cut s w.outcome),
        λ none. (ap (λ (i : Inputs). i.left) w.inputs, ap (λ (i : Inputs). i.faults) w.inputs),
      ))
    where
      cut : (by : Stop) → Outcome w.share (Err by) old.streams new.streams → Cut w.share old.streams new.streams
      cut stop.Unread outcome = absurd outcome
      cut stop.Unwritten outcome = outcome.0
      cut stop.Memory outcome = outcome
