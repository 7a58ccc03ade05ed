-- What a node stands for, by what it is.
use Rattle.std.specs.Prelude.{ℕ, ℤ, Bool, List, ◌≡◌}
use Rattle.std.proofs.Common.{ap, ◌∙◌, rules}
use Rattle.yaml_tree.specs.Tree.{null, scalar, text, truth, whole}
use Rattle.yaml_tree.specs.View.{node_view, place_view}
use Rattle.sig_base.specs.declared.refusal.Place.{Place}
use Rattle.yaml_tree.specs.declared.tree.Node.{Node}
use Rattle.yaml_tree.specs.declared.tree.Kind as kinds

null-kind : (p : Place) → node_view (record { place = p; kind = kinds.Null }) ≡ scalar (place_view p) null
null-kind p = search (rules, kinds.the_lemmas)

truth-kind : (p : Place) (b : Bool) → node_view (record { place = p; kind = kinds.Truth b }) ≡ scalar (place_view p) (truth b)
truth-kind p b = search (rules, kinds.the_lemmas)

whole-kind : (p : Place) (n : ℤ) → node_view (record { place = p; kind = kinds.Whole n }) ≡ scalar (place_view p) (whole n)
whole-kind p n = search (rules, kinds.the_lemmas)

text-kind : (p : Place) (t : List ℕ) → node_view (record { place = p; kind = kinds.Text t }) ≡ scalar (place_view p) (text t)
text-kind p t = search (rules, kinds.the_lemmas)

pub view-Null : (n : Node) → n.kind ≡ kinds.Null → node_view n ≡ scalar (place_view n.place) null
view-Null n e = ap (λ (k : kinds.Kind). node_view (record { place = n.place; kind = k })) e ∙ null-kind n.place

pub view-Truth : (n : Node) (b : Bool) → n.kind ≡ kinds.Truth b → node_view n ≡ scalar (place_view n.place) (truth b)
view-Truth n b e = ap (λ (k : kinds.Kind). node_view (record { place = n.place; kind = k })) e ∙ truth-kind n.place b

pub view-Whole : (n : Node) (m : ℤ) → n.kind ≡ kinds.Whole m → node_view n ≡ scalar (place_view n.place) (whole m)
view-Whole n m e = ap (λ (k : kinds.Kind). node_view (record { place = n.place; kind = k })) e ∙ whole-kind n.place m

pub view-Text : (n : Node) (t : List ℕ) → n.kind ≡ kinds.Text t → node_view n ≡ scalar (place_view n.place) (text t)
view-Text n t e = ap (λ (k : kinds.Kind). node_view (record { place = n.place; kind = k })) e ∙ text-kind n.place t
