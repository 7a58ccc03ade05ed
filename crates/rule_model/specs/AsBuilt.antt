-- What refuses a document where regular expressions aren't built at some places, beside what refuses it where each is built.
use Rattle.std.specs.Prelude.{◌≡◌, ◌⊎◌, List, Option, Some, None}
use Rattle.event_schema.specs.Lists.{SomeOf}
use Rattle.sig_base.specs.Judged.{refusal}
use Rattle.sig_base.specs.declared.refusal.Place.{Place}
use Rattle.sig_base.specs.declared.refusal.Refusal.{Refusal}

-- it's the same, or 48 at one of these places; where it's nothing, so is the other
pub record IsRefusedAsBuilt (unbuilt : List Place) (cause built : Option Refusal) : Type 0 where
  pub taken : cause ≡ None → built ≡ None
  pub refused : (r : Refusal) → cause ≡ Some r → (built ≡ Some r) ⊎ ((r ≡ refusal 48 r.place) × SomeOf (λ place. place ≡ r.place) unbuilt)
