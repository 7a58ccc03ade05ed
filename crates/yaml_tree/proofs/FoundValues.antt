-- What is found at a key of a node.
use Rattle.std.proofs.Common.{◌≡◌, List, [], ℕ, true, false, refl, ap, sym, subst}
use Rattle.std.specs.Prelude.{Option, None}
use Rattle.std.specs.Borrow.{Bor}
use Rattle.std.specs.Str.{chars}
use Rattle.sig_base.specs.Texts.{is_ascii}
use Rattle.sig_base.proofs.TextLemmas.{ascii_chars}
use Rattle.yaml_tree.specs.Tree.{Tree, scalar, list, map, Member}
use Rattle.yaml_tree.specs.declared.tree.Node.{Node}
use Rattle.yaml_tree.specs.Found.{IsFound}
use Rattle.yaml_tree.specs.Nodes.{value_in, is_map, entries_in}

pub found_at : (key : List ℕ) (es fs : List Member) (r : Option (Bor Node)) → is_ascii key ≡ true → es ≡ fs
    → IsFound (value_in (chars key) fs) r → IsFound (value_in key es) r
found_at key es fs r ascii same h =
    subst (λ k. IsFound (value_in k es) r) (ascii_chars key ascii) (subst (λ ms. IsFound (value_in (chars key) ms) r) (sym same) h)

pub no_entries : (t : Tree) → is_map t ≡ false → entries_in t ≡ []
no_entries (scalar a s) h = refl
no_entries (list a es) h = refl
no_entries (map a ms) h = absurd cc

pub found_nowhere : (key : List ℕ) (t : Tree) → is_map t ≡ false → value_in key (entries_in t) ≡ None
found_nowhere key t h = ap (value_in key) (no_entries t h)
