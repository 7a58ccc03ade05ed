-- The tree that a node stands for.
use Rattle.std.specs.Prelude.{ℕ, List, [], ◌∷◌, map as list_map}
use Rattle.sig_base.specs.declared.refusal.Place.{Place}
use Rattle.yaml_tree.specs.Tree.{At, null, truth, whole, text, Tree, scalar, list, map, Elements, no_elements, element, Members, no_members, member, Member, Answer, tree, refusal}
use Rattle.yaml_tree.specs.declared.tree.Document.{Document}
use Rattle.yaml_tree.specs.declared.tree.Document.TheVariants.{Tree as ATree, Refused}
use Rattle.yaml_tree.specs.declared.tree.Kind.{Kind}
use Rattle.yaml_tree.specs.declared.tree.Node.{Node}
use Rattle.yaml_tree.specs.declared.tree.Entry.{Entry}
use Rattle.yaml_tree.specs.declared.tree.Kind.TheOpen.{Kind-F, Entry-F, Node-F}
use Rattle.yaml_tree.specs.declared.tree.Kind.TheFolds.{fold-Kind, fold-Entry, fold-Node}

abbrev pub place_view : Place → At
place_view p = record { line = p.line; column = p.column }

abbrev pub elements_of : List Tree → Elements
elements_of [] = no_elements
elements_of (t ∷ ts) = element t (elements_of ts)

abbrev pub members_of : List Member → Members
members_of [] = no_members
members_of (m ∷ ms) = member m.key m.place m.value (members_of ms)

-- one level, with each node and entry inside already seen
abbrev pub kind_step : Kind-F (At → Tree) Member Tree → At → Tree
kind_step Kind-F.Null at = scalar at null
kind_step (Kind-F.Truth b) at = scalar at (truth b)
kind_step (Kind-F.Whole z) at = scalar at (whole z)
kind_step (Kind-F.Text s) at = scalar at (text s)
kind_step (Kind-F.List v) at = list at (elements_of v.items)
kind_step (Kind-F.Map v) at = map at (members_of v.items)

abbrev pub entry_step : Entry-F (At → Tree) Member Tree → Member
entry_step e = record { key = e.key; place = place_view e.place; value = e.value }

abbrev pub node_step : Node-F (At → Tree) Member Tree → Tree
node_step n = n.kind (place_view n.place)

-- the tree of a node, of what it holds at a place, and of an entry
abbrev pub node_view : Node → Tree
node_view = fold-Node (At → Tree) Member Tree kind_step entry_step node_step

abbrev pub kind_view : Kind → At → Tree
kind_view = fold-Kind (At → Tree) Member Tree kind_step entry_step node_step

abbrev pub entry_view : Entry → Member
entry_view = fold-Entry (At → Tree) Member Tree kind_step entry_step node_step

abbrev pub nodes_view : List Node → List Tree
nodes_view ns = list_map node_view ns

abbrev pub entries_view : List Entry → List Member
entries_view es = list_map entry_view es

-- what a document is answered by
abbrev pub document_view : Document → Answer
document_view (ATree n) = tree (node_view n)
document_view (Refused r) = refusal (r.code, place_view r.place)
