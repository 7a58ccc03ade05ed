-- What is written and read back is a query that means the tree, or a refusal.
use Rattle.std.proofs.Common.{◌≡◌, ◌≤◌, ◌↔◌, ℕ, Bool, true, false, List, [], ◌++◌, Option, Some, None, inl, inr, refl, sym, ap, subst, ◌∙◌, append-nil, length}
use Rattle.std.specs.Prelude.{Result, Ok, Err, IfOk, IfErr}
use Rattle.backend_core.specs.Holds.{TreeHolds}
use Rattle.backend_core.specs.Means.{Means}
use Rattle.backend_core.specs.Trees.{Plain}
use Rattle.event_schema.specs.Events.{IsEvent}
use Rattle.event_schema.specs.Lists.{EachOf}
use Rattle.event_schema.specs.Occurrence.{Occurrence}
use Rattle.event_schema.specs.declared.schema.Schema.{Schema}
use Rattle.event_schema.specs.declared.value.Value.{Value}
use Rattle.query_lang.specs.Answers as languages
use Rattle.query_lang.specs.Answers.{ReadAnswers}
use Rattle.query_lang.specs.RefusedPlaces.{PatternAt, is_of_pattern}
use Rattle.sig_base.specs.Judged.{Judged}
use Rattle.sig_base.specs.declared.limits.Limits.{Limits}
use Rattle.sig_base.specs.declared.refusal.Fault.{Fault}
use Rattle.sig_base.specs.declared.refusal.Fault.TheVariants.{Memory, Refused}
use Rattle.sig_base.specs.declared.refusal.Refusal.{Refusal}
use Rattle.query_tokens.specs.Places.{CodeAt}
use Rattle.generate_run.specs.Compared.{Flags, IsUnread, PicksAs, IsAnswer, Answers}
use Rattle.generate_run.proofs.Turns.{carried}

-- the tree isn't written
pub unwritten : {X Y : Type 0} (refusal : Option Refusal) (refuses : List CodeAt → Refusal → Type 0) (patterns : List PatternAt) (Is : X → Type 0) (IsText : Y → Type 0)
    (before : List (List ℕ)) (fault : Fault) → Judged IsText refusal (Err fault) → Answers refusal refuses patterns Is before before (Err fault)
unwritten refusal refuses patterns Is IsText before Memory judged = record { gained = []; follows = sym (append-nil before); answer = tt }
unwritten refusal refuses patterns Is IsText before (Refused r) judged =
    record { gained = []; follows = sym (append-nil before); answer = inl (judged, refl) }

-- nothing is read of what is written
pub unanswered : {X Y : Type 0} (refusal : Option Refusal) (refuses : List CodeAt → Refusal → Type 0) (patterns : List PatternAt) (Is : X → Type 0) (IsOther : Y → Type 0)
    (before after : List (List ℕ)) (fault : Fault) → Answers refusal refuses patterns IsOther before after (Err fault) → Answers refusal refuses patterns Is before after (Err fault)
unanswered refusal refuses patterns Is IsOther before after Memory a = record { gained = a.gained; follows = a.follows; answer = tt }
unanswered refusal refuses patterns Is IsOther before after (Refused r) a = record { gained = a.gained; follows = a.follows; answer = a.answer }

module _ {Query Plain' : Type 0} (plain : Query → Plain') (is_query : List ℕ → Plain' → Type 0) (is_within : List ℕ → Plain' → Type 0)
    (picks : Plain' → List (List Value) → Type 0) (refuses : List ℕ → List CodeAt → Refusal → Type 0) (patterns : List ℕ → List PatternAt)
    (refusal : Option Refusal) (schema : Schema) (t : Plain) (text : List ℕ) (before after : List (List ℕ)) where
  -- the text's query, and what its language says of it
  pub record Known : Type 0 where
    pub query : Plain'
    pub within : is_within text query
    pub only : (other : Plain') → is_query text other → other ≡ query
    pub selects : PicksAs schema t (picks query)
    pub alone : (places : List CodeAt) (r : Refusal) → refuses text places r → is_of_pattern r.code ≡ true

  abbrev IsRead : Query → Type 0
  IsRead query = PicksAs schema t (picks (plain query))

  answered : Known → refusal ≡ None → (gained : List (List ℕ)) (result : Result Query Fault)
      → languages.IsAnswer (λ query. is_query text (plain query)) (λ query. is_within text (plain query)) (refuses text) (patterns text) gained result
      → IsAnswer refusal (refuses text) (patterns text) IsRead gained result
  answered known none gained (Ok query) a =
      (none, a.built, subst (λ (q : Plain'). PicksAs schema t (picks q)) (sym (known.only (plain query) a.query)) known.selects)
  answered known none gained (Err Memory) a = tt
  answered known none gained (Err (Refused r)) a =
      let code : is_of_pattern r.code ≡ true = known.alone a.places r a.first in
      inr (none, record { places = a.places; are = a.are; first = a.first; code = code; built = a.built code })

  pub read : Known → refusal ≡ None → (bytes : List ℕ) (result : Result Query Fault) → bytes ≡ text
      → ReadAnswers (λ query. is_query bytes (plain query)) (λ query. is_within bytes (plain query)) (refuses bytes) (patterns bytes) before after result
      → Answers refusal (refuses text) (patterns text) IsRead before after result
  read known none bytes result is answers =
      let a : ReadAnswers (λ query. is_query text (plain query)) (λ query. is_within text (plain query)) (refuses text) (patterns text) before after result =
      subst (λ (bs : List ℕ). ReadAnswers (λ query. is_query bs (plain query)) (λ query. is_within bs (plain query)) (refuses bs) (patterns bs) before after result) is answers in
      record { gained = a.gained; follows = a.follows; answer = answered known none a.gained result a.answers }

-- the query that was read is asked of the events
pub compared : {Query X : Type 0} (items : X → List Bool) (refusal : Option Refusal) (refuses : List CodeAt → Refusal → Type 0) (patterns : List PatternAt)
    (schema : Schema) (t : Plain) (picked : Query → List (List Value) → Type 0) (events : List Occurrence) (before after : List (List ℕ)) (query : Query) (result : Result X Fault)
    → Answers refusal refuses patterns (λ q. PicksAs schema t (picked q)) before after (Ok query)
    → EachOf (λ (e : Occurrence). IsEvent schema.fields e.values) events
    → IfOk result (λ x. Flags (picked query) events (items x)) → IfErr result (λ e. e ≡ Memory)
    → Answers refusal refuses patterns (λ x. Flags (λ row. TreeHolds row t) events (items x)) before after result
compared items refusal refuses patterns schema t picked events before after query (Ok x) a each flags err =
    record {
      gained = a.gained;
      follows = a.follows;
      answer = (a.answer.0, a.answer.1, carried (IsEvent schema.fields) a.answer.2 events (items x) each flags);
    }
compared items refusal refuses patterns schema t picked events before after query (Err e) a each flags err =
    subst (λ (f : Fault). Answers refusal refuses patterns (λ x. Flags (λ row. TreeHolds row t) events (items x)) before after (Err f)) (sym err)
    (record { gained = a.gained; follows = a.follows; answer = tt })
