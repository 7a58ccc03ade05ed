-- What holds of a refusal, handed on.
use Rattle.std.proofs.Common.{◌≡◌, ℕ, Result, Ok, Err, IfErr, IsErrAnd, sym, subst}
use Rattle.sig_base.specs.declared.refusal.Fault.{Fault}
use Rattle.sig_base.specs.declared.refusal.Fault.TheVariants.{Memory, Refused}
use Rattle.yaml_tree.specs.Tree.{At}
use Rattle.yaml_documents.specs.Views.{IfRefused}

pub refused_as : (e : Fault) (P Q : ℕ × At → Type 0) → IfRefused e P → ((p : ℕ × At) → P p → Q p) → IfRefused e Q
refused_as Memory P Q h step = tt
refused_as (Refused r) P Q h step = (h.0, step _ h.1)

-- a fault that a `?` hands on
pub handed_on : {A : Type 0} (r : Result A Fault) (e : Fault) (P : ℕ × At → Type 0) (Q : Fault → Type 0) → IsErrAnd r Q → ((y : Fault) → Q y → y ≡ e) → IfRefused e P
    → IfErr r (λ y. IfRefused y P)
handed_on (Ok x) e P Q h same holds = absurd h
handed_on (Err y) e P Q h same holds = subst (λ (k : Fault). IfRefused k P) (sym (same y h)) holds
