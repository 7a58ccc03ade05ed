-- What asking a query of the lines leaves, whether there was memory to ask it or not.
use Rattle.std.proofs.Common.{◌≡◌, Bool, refl, ap, subst, sym, Result, Ok, Err}
use Rattle.std.specs.Borrow.{GName}
use Rattle.std.specs.Prelude.{IfOk, IfErr, List}
use Rattle.answer_writer.proofs.Ending.{EachHas, ends_memory}
use Rattle.answer_writer.specs.Input.{World, Needs}
use Rattle.answer_writer.specs.Parts.{Part}
use Rattle.answer_writer.specs.Stands.{Ends}
use Rattle.answer_writer.specs.State.{State}
use Rattle.answer_writer.specs.declared.stop.Stop.{Stop}
use Rattle.answer_writer.specs.Answered.{flat}
use Rattle.sig_base.specs.declared.refusal.Fault.{Fault}
use Rattle.sig_base.specs.declared.refusal.Fault.TheVariants as fault

module _ {A : Type 0} (name_of : A → GName) (state_of : A → State) (needs : Needs) (P : World → List Part → Type 0) (old new : A) where
  pub same_name : (result : Result (Result Bool Stop) Fault) → IfOk result (λ r. Ends needs P r (state_of old) (state_of new) × (name_of new ≡ name_of old))
      → IfErr result (λ e. (e ≡ fault.Memory) × (new ≡ old)) → name_of old ≡ name_of new
  same_name (Ok r) asked err = sym asked.1
  same_name (Err e) asked err = ap name_of (sym err.1)

  pub answered : EachHas P → (result : Result (Result Bool Stop) Fault) → IfOk result (λ r. Ends needs P r (state_of old) (state_of new) × (name_of new ≡ name_of old))
      → IfErr result (λ e. (e ≡ fault.Memory) × (new ≡ old)) → Ends needs P (flat result) (state_of old) (state_of new)
  answered each (Ok r) asked err = asked.0
  answered each (Err e) asked err = subst (λ (a : A). Ends needs P (flat (Err e)) (state_of old) (state_of a)) (sym err.1) (ends_memory needs P (state_of old) each)
