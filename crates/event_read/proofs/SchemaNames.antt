-- Texts that are legal names.
use Rattle.std.proofs.Common.{◌≡◌, ℕ, Bool, true, false, List, refl, sym, ◌∙◌}
use Rattle.std.specs.Prelude.{◌&&◌}
use Rattle.std.specs.Str.{all_scalars}
use Rattle.event_schema.specs.Names.{is_legal}
use Rattle.event_read.specs.SchemaOf.{is_name}

and_true : (a b : Bool) → b ≡ true → (a && b) ≡ a
and_true true b is = is
and_true false b is = refl

-- what is a text is of scalar values
pub legal_name : (name : List ℕ) (legal : Bool) → all_scalars name ≡ true → legal ≡ is_legal name → legal ≡ is_name name
legal_name name legal scalars is = is ∙ sym (and_true (is_legal name) (all_scalars name) scalars)
