-- What is answered where nothing can be refused.
use Rattle.std.proofs.Common.{◌≡◌, ◌∙◌, ◌⊎◌, List, [], ◌∷◌, ◌++◌, Option, Some, None, inl, inr, sym, subst, refl}
use Rattle.std.specs.Prelude.{ℕ, Result, Ok, Err, IfOk, IfErr}
use Rattle.std.proofs.lemmas.Option.{none-some}
use Rattle.generate_run.specs.Compared.{IsUnread, Answers}
use Rattle.event_schema.specs.Lists.{SomeOf}
use Rattle.query_lang.specs.Answers.{place_of}
use Rattle.query_lang.specs.RefusedPlaces.{PatternAt, IsAmong, IsCause}
use Rattle.sig_base.specs.Judged.{Judged}
use Rattle.sig_base.specs.declared.refusal.Fault.{Fault}
use Rattle.sig_base.specs.declared.refusal.Fault.TheVariants.{Memory, Refused}
use Rattle.sig_base.specs.declared.refusal.Refusal.{Refusal}
use Rattle.query_tokens.specs.Places.{CodeAt}

abbrev Unbuilt : List (List ℕ) → Refusal → PatternAt → Type 0
Unbuilt gained r p = (p.place ≡ place_of r) × IsAmong p.pattern gained × IsCause gained p.pattern r.code

none_unbuilt : (r : Refusal) (patterns : List PatternAt) → SomeOf (Unbuilt [] r) patterns → ⊥
none_unbuilt r [] some = some
none_unbuilt r (p ∷ ps) (inl one) = one.1
none_unbuilt r (p ∷ ps) (inr later) = none_unbuilt r ps later

-- a builder that refused nothing, and a tree that isn't refused
pub never_refused : {X : Type 0} (refusal : Option Refusal) (refuses : List CodeAt → Refusal → Type 0) (patterns : List PatternAt) (Is : X → Type 0) (result : Result X Fault)
    → refusal ≡ None → Answers refusal refuses patterns Is [] [] result → IfErr result (λ e. e ≡ Memory)
never_refused refusal refuses patterns Is (Ok x) none a = tt
never_refused refusal refuses patterns Is (Err Memory) none a = refl
never_refused refusal refuses patterns Is (Err (Refused r)) none a = by a.answer
  where
    by : ((refusal ≡ Some r) × (a.gained ≡ [])) ⊎ ((refusal ≡ None) × IsUnread refuses patterns a.gained r) → Refused r ≡ Memory
    by (inl told) = absurd (none-some r (sym none ∙ told.0))
    by (inr told) = absurd (none_unbuilt r patterns (subst (λ (texts : List (List ℕ)). SomeOf (Unbuilt texts r) patterns) (sym a.follows) told.1.built))

-- no cause to refuse
pub judged_ok : {X : Type 0} (Is Other : X → Type 0) (cause : Option Refusal) (result : Result X Fault) → ((x : X) → Is x → Other x) → Judged Is cause result → IfOk result Other
judged_ok Is Other cause (Ok x) gives judged = gives x judged.1
judged_ok Is Other cause (Err e) gives judged = tt

pub judged_err : {X : Type 0} (Is : X → Type 0) (cause : Option Refusal) (result : Result X Fault) → cause ≡ None → Judged Is cause result → IfErr result (λ e. e ≡ Memory)
judged_err Is cause (Ok x) none judged = tt
judged_err Is cause (Err Memory) none judged = refl
judged_err Is cause (Err (Refused r)) none judged = absurd (none-some r (sym none ∙ judged))
