-- Entries, whose views are their parts.
use Rattle.std.proofs.Common.{◌≡◌, sym, subst}
use Rattle.std.specs.Prelude.{Option, Result, IfOk}
use Rattle.sig_base.specs.declared.refusal.Fault.{Fault}
use Rattle.sig_base.specs.declared.refusal.Refusal.{Refusal}
use Rattle.yaml_tree.specs.Tree.{Member}
use Rattle.yaml_tree.specs.View.{entry_view}
use Rattle.yaml_tree.specs.declared.tree.Entry.{Entry}
use Rattle.yaml_tree.proofs.NodeViews.{member_of, view-Entry}

-- what is found in an entry's parts is found in the entry
pub found_entry : (refusal : Member → Option Refusal) (e : Entry) (r : Option Refusal) → r ≡ refusal (member_of e) → r ≡ refusal (entry_view e)
found_entry refusal e r found = subst (λ m. r ≡ refusal m) (sym (view-Entry e)) found

pub read_entry : (refusal : Member → Option Refusal) (e : Entry) (r : Result (Option Refusal) Fault)
    → IfOk r (λ o. o ≡ refusal (member_of e)) → IfOk r (λ o. o ≡ refusal (entry_view e))
read_entry refusal e r found = subst (λ m. IfOk r (λ o. o ≡ refusal m)) (sym (view-Entry e)) found
