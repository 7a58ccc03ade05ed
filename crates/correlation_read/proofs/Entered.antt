-- Entries, whose views are their parts.
use Rattle.std.proofs.Common.{◌≡◌, List, [], ◌∷◌, Bool, ◌||◌, refl, sym, ap, subst, map}
use Rattle.std.specs.Prelude.{Result, Option}
use Rattle.std.specs.List.{list_any}
use Rattle.sig_base.specs.declared.refusal.Fault.{Fault}
use Rattle.sig_base.specs.declared.refusal.Refusal.{Refusal}
use Rattle.sig_base.specs.Judged.{Judged}
use Rattle.yaml_tree.specs.Tree.{Member}
use Rattle.yaml_tree.specs.View.{entry_view}
use Rattle.yaml_tree.specs.declared.tree.Entry.{Entry}
use Rattle.yaml_tree.proofs.NodeViews.{member_of, view-Entry}

-- what judges an entry's parts judges the entry
pub judged_entry : (refusal : Member → Option Refusal) (e : Entry) (r : Result (Unit {0}) Fault)
    → Judged (λ done. Unit {0}) (refusal (member_of e)) r → Judged (λ done. Unit {0}) (refusal (entry_view e)) r
judged_entry refusal e r judged = subst (λ m. Judged (λ done. Unit {0}) (refusal m) r) (sym (view-Entry e)) judged

pub any_viewed : {X A : Type 0} (view : X → A) (p : A → Bool) (xs : List X) → list_any p (map view xs) ≡ list_any (λ x. p (view x)) xs
any_viewed view p [] = refl
any_viewed view p (x ∷ xs) = ap (λ b. p (view x) || b) (any_viewed view p xs)
