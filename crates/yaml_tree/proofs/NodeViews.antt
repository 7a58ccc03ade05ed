-- What a node stands for, by what it is.
use Rattle.std.specs.Prelude.{◌≡◌, List, [], ◌∷◌}
use Rattle.std.proofs.Common.{refl, sym, ap, ◌∙◌, rules}
use Rattle.std.specs.declared.alloc.Global.{Global}
use Rattle.std.specs.declared.vec.Vec.{Vec}
use Rattle.sig_base.specs.declared.refusal.Place.{Place}
use Rattle.yaml_tree.specs.Nodes.{place_of}
use Rattle.yaml_tree.specs.Tree.{Tree, list, map, Member}
use Rattle.yaml_tree.specs.View.{node_view, kind_view, place_view, entry_view, nodes_view, entries_view, elements_of, members_of}
use Rattle.yaml_tree.specs.declared.tree.Node.{Node}
use Rattle.yaml_tree.specs.declared.tree.Entry.{Entry}
use Rattle.yaml_tree.specs.declared.tree.Kind as kinds
use Rattle.yaml_tree.specs.View.{kind_step, entry_step, node_step}
use Rattle.yaml_tree.specs.Tree.{At}
use Rattle.yaml_tree.specs.declared.tree.Kind.TheOpen.{Kind-F}
use Rattle.yaml_tree.specs.declared.tree.Kind.TheFolds.{fold_out-Kind, fold_out-Entry, fold_out-Node}
use Rattle.yaml_tree.specs.Nodes.{entries_in, parts_in, listed, entered}

pub listed_again : (ts : List Tree) → listed (elements_of ts) ≡ ts
listed_again [] = refl
listed_again (t ∷ ts) = ap (λ (us : List Tree). t ∷ us) (listed_again ts)

pub entered_again : (ms : List Member) → entered (members_of ms) ≡ ms
entered_again [] = refl
entered_again (m ∷ ms) = ap (λ (ns : List Member). m ∷ ns) (entered_again ms)

pub kind-List : (p : Place) (v : Vec Node Global) → node_view (record { place = p; kind = kinds.List v }) ≡ list (place_view p) (elements_of (nodes_view v.items))
kind-List p v = search (rules, kinds.the_lemmas)

pub kind-Map : (p : Place) (v : Vec Entry Global) → node_view (record { place = p; kind = kinds.Map v }) ≡ map (place_view p) (members_of (entries_view v.items))
kind-Map p v = search (rules, kinds.the_lemmas)

pub view-List : (n : Node) (v : Vec Node Global) → n.kind ≡ kinds.List v → node_view n ≡ list (place_view n.place) (elements_of (nodes_view v.items))
view-List n v e = ap (λ (k : kinds.Kind). node_view (record { place = n.place; kind = k })) e ∙ kind-List n.place v

pub view-Map : (n : Node) (v : Vec Entry Global) → n.kind ≡ kinds.Map v → node_view n ≡ map (place_view n.place) (members_of (entries_view v.items))
view-Map n v e = ap (λ (k : kinds.Kind). node_view (record { place = n.place; kind = k })) e ∙ kind-Map n.place v

pub list_parts : (n : Node) (v : Vec Node Global) → n.kind ≡ kinds.List v → parts_in (node_view n) ≡ nodes_view v.items
list_parts n v e = ap parts_in (view-List n v e) ∙ listed_again (nodes_view v.items)

pub map_entries : (n : Node) (v : Vec Entry Global) → n.kind ≡ kinds.Map v → entries_in (node_view n) ≡ entries_view v.items
map_entries n v e = ap entries_in (view-Map n v e) ∙ entered_again (entries_view v.items)

step_place : (f : Kind-F (At → Tree) Member Tree) (p : Place) → place_of (kind_step f (place_view p)) ≡ p
step_place Kind-F.Null p = refl
step_place (Kind-F.Truth b) p = refl
step_place (Kind-F.Whole z) p = refl
step_place (Kind-F.Text t) p = refl
step_place (Kind-F.List v) p = refl
step_place (Kind-F.Map v) p = refl

pub node_place : (n : Node) → n.place ≡ place_of (node_view n)
node_place n =
    let outer : node_view n ≡ kind_view n.kind (place_view n.place) = fold_out-Node (At → Tree) Member Tree kind_step entry_step node_step n in
    let inner = ap (λ (g : At → Tree). g (place_view n.place)) (fold_out-Kind (At → Tree) Member Tree kind_step entry_step node_step n.kind) in
    sym (ap place_of (outer ∙ inner) ∙ step_place _ n.place)

abbrev pub member_of : Entry → Member
member_of e = record { key = e.key; place = place_view e.place; value = node_view e.value }

pub view-Entry : (e : Entry) → entry_view e ≡ member_of e
view-Entry e = fold_out-Entry (At → Tree) Member Tree kind_step entry_step node_step e
