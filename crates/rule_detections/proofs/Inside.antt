-- Whether an address is of a network, said of its text.
use Rattle.std.proofs.Common.{◌≡◌, ◌↔◌, IsTrue, ℕ, List, Bool, sym, subst}
use Rattle.sig_encode.specs.Networks.{Net, InNetwork}

pub of_text : (r : Bool) (n : Net) (text own : List ℕ) → IsTrue r ↔ InNetwork n text → own ≡ text → IsTrue r ↔ InNetwork n own
of_text r n text own h same = subst (λ (t : List ℕ). IsTrue r ↔ InNetwork n t) (sym same) h
