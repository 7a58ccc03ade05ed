-- What a tree's query, written and read back, is answered of events.
use Rattle.std.specs.Prelude.{ℕ, ◌≡◌, ◌↔◌, ◌⊎◌, Bool, true, List, [], ◌++◌, Option, Some, None, Result, Ok, Err, ⊤}
use Rattle.std.specs.List.{AllZip}
use Rattle.backend_core.specs.Holds.{TreeHolds}
use Rattle.backend_core.specs.Means.{Means}
use Rattle.backend_core.specs.Schemas.{IsNamed}
use Rattle.backend_core.specs.Sound.{IsSound}
use Rattle.backend_core.specs.Trees.{Plain}
use Rattle.backend_core.specs.Writing.{write_refusal}
use Rattle.backend_core.specs.declared.lack.Lack.{Lack}
use Rattle.backend_core.specs.declared.tree.Leaf.{Leaf}
use Rattle.event_schema.specs.Events.{IsEvent}
use Rattle.event_schema.specs.Occurrence.{Occurrence}
use Rattle.event_schema.specs.declared.schema.Schema.{Schema}
use Rattle.event_schema.specs.declared.value.Value.{Value}
use Rattle.event_schema.specs.Lists.{SomeOf}
use Rattle.query_lang.specs.Answers.{place_of}
use Rattle.query_lang.specs.RefusedPlaces.{PatternAt, is_of_pattern, IsAmong, IsCause, AreRefused}
use Rattle.sig_base.specs.declared.limits.Limits.{Limits}
use Rattle.sig_base.specs.declared.refusal.Fault.{Fault}
use Rattle.sig_base.specs.declared.refusal.Fault.TheVariants.{Memory, Refused}
use Rattle.sig_base.specs.declared.refusal.Place.{Place}
use Rattle.sig_base.specs.declared.refusal.Refusal.{Refusal}
use Rattle.query_tokens.specs.Places.{CodeAt}

-- for each event, in order, whether this holds of its row
abbrev pub Flags : (List (List Value) → Type 0) → List Occurrence → List Bool → Type 0
Flags Holds events flags = AllZip (λ event flag. (flag ≡ true) ↔ Holds event.values) events flags

-- Of a backend, by what it lacks, its text of a tree and how it refuses a tree for its depth, and of the language that reads its
-- queries: the text of a sound tree that isn't refused is one query within the limits, which picks an event exactly where the tree holds.
abbrev pub ReadsBack : {Query : Type 0} → (Schema → Leaf → Option Lack) → (Schema → Plain → List ℕ) → (Limits → Schema → Plain → Place → Option Refusal)
    → (Schema → List ℕ → Query → Type 0) → (Limits → Schema → List ℕ → Query → Type 0) → (Query → List (List Value) → Type 0) → Type 0
ReadsBack missing text too_deep is_query is_within picks =
    (limits : Limits) (schema : Schema) (t : Plain) (place : Place) → IsNamed schema → IsSound schema.fields t
    → write_refusal missing text too_deep limits schema t place ≡ None
    → Means is_query is_within picks limits schema (λ row. TreeHolds row t) (text schema t)

-- The first refusal of a query, 47 or 48, for a list of places refused for their regular expressions: the builder refused the expression at its
-- place in this call.
pub record IsUnread (refuses : List CodeAt → Refusal → Type 0) (patterns : List PatternAt) (gained : List (List ℕ)) (r : Refusal) : Type 0 where
  pub places : List CodeAt
  pub are : AreRefused patterns gained places
  pub first : refuses places r
  pub code : is_of_pattern r.code ≡ true
  pub built : SomeOf (λ p. (p.place ≡ place_of r) × IsAmong p.pattern gained × IsCause gained p.pattern r.code) patterns

-- it picks each event of the schema exactly where the tree holds
abbrev pub PicksAs : Schema → Plain → (List (List Value) → Type 0) → Type 0
PicksAs schema t picked = (row : List (List Value)) → IsEvent schema.fields row → picked row ↔ TreeHolds row t

-- What is answered where the tree isn't refused and the builder refused nothing; else the refusal of the tree; or 47 or 48, as the
-- query is refused for its regular expressions. Want of memory is free.
abbrev pub IsAnswer : {X : Type 0} → Option Refusal → (List CodeAt → Refusal → Type 0) → List PatternAt → (X → Type 0) → List (List ℕ) → Result X Fault → Type 0
IsAnswer refusal refuses patterns Is gained (Ok x) = (refusal ≡ None) × (gained ≡ []) × Is x
IsAnswer refusal refuses patterns Is gained (Err Memory) = ⊤
IsAnswer refusal refuses patterns Is gained (Err (Refused r)) =
    ((refusal ≡ Some r) × (gained ≡ [])) ⊎ ((refusal ≡ None) × IsUnread refuses patterns gained r)

-- with what the builder's list of refused texts gained
pub record Answers {X : Type 0} (refusal : Option Refusal) (refuses : List CodeAt → Refusal → Type 0) (patterns : List PatternAt) (Is : X → Type 0)
    (before after : List (List ℕ)) (result : Result X Fault) : Type 0 where
  pub gained : List (List ℕ)
  pub follows : after ≡ before ++ gained
  pub answer : IsAnswer refusal refuses patterns Is gained result
