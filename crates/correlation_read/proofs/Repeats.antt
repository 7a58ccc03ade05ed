-- Repeats in a list, part by part.
use Rattle.std.proofs.Common.{ℕ, ◌≡◌, ◌<◌, ◌+◌, List, [], ◌∷◌, length, get_or, take, drop, sym, ap, ◌∙◌}
use Rattle.std.specs.Prelude.{Option, Some, None}
use Rattle.sig_base.specs.declared.refusal.Refusal.{Refusal}
use Rattle.sig_base.specs.Judged.{first}
use Rattle.sig_base.proofs.Checks.{first_one}
use Rattle.sig_base.proofs.Firsts.{list_at, taken_at}
use Rattle.yaml_tree.specs.Tree.{Tree}
use Rattle.yaml_tree.specs.View.{node_view, nodes_view}
use Rattle.yaml_tree.specs.declared.tree.Node.{Node}
use Rattle.correlation_read.specs.Checks.{fresh_refusal, repeat_refusal}

parted : (i : ℕ) (ns : List Node) (n : Node) → i < length ns → n ≡ get_or ns i n
    → repeat_refusal (nodes_view (take i ns)) (nodes_view (drop i ns))
    ≡ first (fresh_refusal (nodes_view (take i ns)) (node_view n) ∷ repeat_refusal (nodes_view (take (i + 1) ns)) (nodes_view (drop (i + 1) ns)) ∷ [])
parted i ns n h is =
    ap (repeat_refusal (nodes_view (take i ns))) (list_at node_view i ns n h is)
    ∙ ap (λ (before : List Tree). first (fresh_refusal (nodes_view (take i ns)) (node_view n) ∷ repeat_refusal before (nodes_view (drop (i + 1) ns)) ∷ []))
    (sym (taken_at node_view i ns n h is))

-- behind a part that isn't refused the others judge
pub repeats_go : (i : ℕ) (ns : List Node) (n : Node) → i < length ns → n ≡ get_or ns i n → fresh_refusal (nodes_view (take i ns)) (node_view n) ≡ None
    → repeat_refusal (nodes_view (take i ns)) (nodes_view (drop i ns)) ≡ repeat_refusal (nodes_view (take (i + 1) ns)) (nodes_view (drop (i + 1) ns))
repeats_go i ns n h is none =
    parted i ns n h is
    ∙ (ap (λ (o : Option Refusal). first (o ∷ repeat_refusal (nodes_view (take (i + 1) ns)) (nodes_view (drop (i + 1) ns)) ∷ [])) none ∙ first_one _)

-- and one that is refused decides
pub repeats_stop : (i : ℕ) (ns : List Node) (n : Node) (r : Refusal) → i < length ns → n ≡ get_or ns i n → fresh_refusal (nodes_view (take i ns)) (node_view n) ≡ Some r
    → repeat_refusal (nodes_view (take i ns)) (nodes_view (drop i ns)) ≡ Some r
repeats_stop i ns n r h is some =
    parted i ns n h is
    ∙ ap (λ (o : Option Refusal). first (o ∷ repeat_refusal (nodes_view (take (i + 1) ns)) (nodes_view (drop (i + 1) ns)) ∷ [])) some
