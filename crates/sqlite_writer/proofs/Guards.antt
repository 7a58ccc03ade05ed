-- Trees joined into lists of their kind.
use Rattle.std.proofs.Common.{ℕ, ◌+◌, ◌≡◌, ◌≤◌, ◌<◌, refl, sym, ◌∙◌, ap, Bool, List, [], ◌∷◌, ◌++◌, length, drop, get_or}
use Rattle.std.proofs.lemmas.List.{drop_all, drop_more}
use Rattle.backend_core.specs.Trees.{Plain, Plains, no_parts, a_part, leaf}
use Rattle.backend_core.specs.View.{tree_view, plains_of}
use Rattle.backend_core.specs.declared.tree.Leaf.{Leaf}
use Rattle.backend_core.specs.declared.tree.Tree.{Tree}
use Rattle.backend_core.specs.declared.tree.Tree as trees
use Rattle.sqlite_writer.specs.declared.place.Kind.{Kind}
use Rattle.backend_core.specs.Joins.{append}
use Rattle.sqlite_writer.specs.Joined.{parts_of, guarded, guarded_parts}

pub append_none : (ts : Plains) → append ts no_parts ≡ ts
append_none no_parts = refl
append_none (a_part t ts) = ap (λ (us : Plains). a_part t us) (append_none ts)

pub append_again : (ts us vs : Plains) → append (append ts us) vs ≡ append ts (append us vs)
append_again no_parts us vs = refl
append_again (a_part t ts) us vs = ap (λ (ws : Plains). a_part t ws) (append_again ts us vs)

-- ---- loops over parts

pub joins_more : (k : Kind) (odd : Bool) (ts : List Tree) (i : ℕ) (t made : Tree) (old new : List Tree) (whole : Plains) → i < length ts → t ≡ get_or ts i t
    → tree_view made ≡ guarded odd (tree_view t) → plains_of new ≡ append (plains_of old) (parts_of k (tree_view made))
    → append (plains_of old) (guarded_parts k odd (plains_of (drop i ts))) ≡ whole → append (plains_of new) (guarded_parts k odd (plains_of (drop (i + 1) ts))) ≡ whole
joins_more k odd ts i t made old new whole within at is added h =
    let rest = guarded_parts k odd (plains_of (drop (i + 1) ts)) in
    ap (λ (us : Plains). append us rest) (added ∙ ap (λ (u : Plain). append (plains_of old) (parts_of k u)) is)
    ∙ (append_again (plains_of old) (parts_of k (guarded odd (tree_view t))) rest
    ∙ (ap (λ (us : List Tree). append (plains_of old) (guarded_parts k odd (plains_of us)))
    (ap (λ (x : Tree). x ∷ drop (i + 1) ts) at ∙ sym (drop_more ts i t within)) ∙ h))

pub joins_all : (k : Kind) (odd : Bool) (ts : List Tree) (i : ℕ) (old : List Tree) (whole : Plains) → length ts ≤ i
    → append (plains_of old) (guarded_parts k odd (plains_of (drop i ts))) ≡ whole → plains_of old ≡ whole
joins_all k odd ts i old whole past h =
    sym (append_none (plains_of old)) ∙ (ap (λ (us : List Tree). append (plains_of old) (guarded_parts k odd (plains_of us))) (sym (drop_all i ts past)) ∙ h)

-- a guard and its leaf
pub two_leaves : (none first second : List Tree) (g guard l copy : Leaf) → none ≡ [] → first ≡ none ++ trees.Leaf guard ∷ [] → second ≡ first ++ trees.Leaf copy ∷ []
    → guard ≡ g → copy ≡ l → plains_of second ≡ a_part (leaf g) (a_part (leaf l) no_parts)
two_leaves none first second g guard l copy empty one two so same =
    ap plains_of (two ∙ ap (λ (xs : List Tree). xs ++ trees.Leaf copy ∷ []) (one ∙ ap (λ (xs : List Tree). xs ++ trees.Leaf guard ∷ []) empty))
    ∙ (ap (λ (x : Leaf). a_part (leaf guard) (a_part (leaf x) no_parts)) same
    ∙ ap (λ (x : Leaf). a_part (leaf x) (a_part (leaf l) no_parts)) so)

-- two guards and their leaf
pub three_leaves : (none first second third : List Tree) (g h guard other l copy : Leaf) → none ≡ [] → first ≡ none ++ trees.Leaf guard ∷ []
    → second ≡ first ++ trees.Leaf other ∷ [] → third ≡ second ++ trees.Leaf copy ∷ [] → guard ≡ g → other ≡ h → copy ≡ l
    → plains_of third ≡ a_part (leaf g) (a_part (leaf h) (a_part (leaf l) no_parts))
three_leaves none first second third g h guard other l copy empty one two three so too same =
    ap plains_of (three ∙ ap (λ (xs : List Tree). xs ++ trees.Leaf copy ∷ []) (two ∙ ap (λ (xs : List Tree). xs ++ trees.Leaf other ∷ [])
    (one ∙ ap (λ (xs : List Tree). xs ++ trees.Leaf guard ∷ []) empty)))
    ∙ (ap (λ (x : Leaf). a_part (leaf guard) (a_part (leaf other) (a_part (leaf x) no_parts))) same
    ∙ (ap (λ (x : Leaf). a_part (leaf guard) (a_part (leaf x) (a_part (leaf l) no_parts))) too
    ∙ ap (λ (x : Leaf). a_part (leaf x) (a_part (leaf h) (a_part (leaf l) no_parts))) so))
