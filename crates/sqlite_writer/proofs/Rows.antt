-- The trees of a vector, how many nodes they have, and the loops over them.
use Rattle.std.proofs.Common.{ℕ, zero, suc, ◌+◌, ◌-◌, ◌/◌, ◌≡◌, ◌≤◌, ◌<◌, refl, sym, ◌∙◌, ap, List, [], ◌∷◌, length, drop, map, get_or, arith}
use Rattle.std.specs.Prelude.{take}
use Rattle.std.specs.declared.alloc.Global.{Global}
use Rattle.std.specs.declared.vec.Vec.{Vec}
use Rattle.std.proofs.lemmas.List.{drop_all, drop_more, length-drop, length-take, length-map, take-map, drop-map}
use Rattle.backend_core.proofs.Joining.{view-All, view-Any}
use Rattle.backend_core.specs.Trees.{Plain, Plains, no_parts, a_part, all, any, negated, leaf, never}
use Rattle.backend_core.specs.View.{tree_view, plains_of}
use Rattle.backend_core.specs.declared.tree.Tree.{Tree}
use Rattle.backend_core.specs.declared.tree.Tree as trees
use Rattle.sql_layout.specs.Lists.{half, halved}
use Rattle.sql_layout.proofs.Lists.{in_a_row, in_two}

-- ---- how many nodes

abbrev mutual
  pub nodes : Plain → ℕ
  nodes (all ts) = suc (nodes_in ts)
  nodes (any ts) = suc (nodes_in ts)
  nodes (negated t) = suc (nodes t)
  nodes (leaf l) = 1
  nodes never = 1

  pub nodes_in : Plains → ℕ
  nodes_in no_parts = 0
  nodes_in (a_part t ts) = nodes t + nodes_in ts

abbrev pub items_nodes : List Tree → ℕ
items_nodes [] = 0
items_nodes (t ∷ ts) = nodes (tree_view t) + items_nodes ts

some_nodes : (t : Plain) → 1 ≤ nodes t
some_nodes (all ts) = omega arith
some_nodes (any ts) = omega arith
some_nodes (negated t) = omega arith
some_nodes (leaf l) = omega arith
some_nodes never = omega arith

nodes_listed : (ts : List Tree) → nodes_in (plains_of ts) ≡ items_nodes ts
nodes_listed [] = refl
nodes_listed (t ∷ ts) = ap (λ (n : ℕ). nodes (tree_view t) + n) (nodes_listed ts)

nodes_parted : (k : ℕ) (ts : List Tree) → items_nodes (take k ts) + items_nodes (drop k ts) ≡ items_nodes ts
nodes_parted zero ts = omega arith
nodes_parted (suc k) [] = refl
nodes_parted (suc k) (t ∷ ts) = let h = nodes_parted k ts in omega (arith, h)

nodes_long : (ts : List Tree) → length ts ≤ items_nodes ts
nodes_long [] = omega arith
nodes_long (t ∷ ts) = let h = nodes_long ts in let some = some_nodes (tree_view t) in omega (arith, h, some)

-- a list has fewer nodes than its tree
pub less-All : (v : Vec Tree Global) (tree : Tree) (ts : List Tree) → tree ≡ trees.All v → ts ≡ v.items → suc (items_nodes ts) ≡ nodes (tree_view tree)
less-All v tree ts is same = ap (λ (us : List Tree). suc (items_nodes us)) same ∙ (ap suc (sym (nodes_listed v.items)) ∙ (sym (ap nodes (view-All v)) ∙ ap (λ (t : Tree). nodes (tree_view t)) (sym is)))

pub less-Any : (v : Vec Tree Global) (tree : Tree) (ts : List Tree) → tree ≡ trees.Any v → ts ≡ v.items → suc (items_nodes ts) ≡ nodes (tree_view tree)
less-Any v tree ts is same = ap (λ (us : List Tree). suc (items_nodes us)) same ∙ (ap suc (sym (nodes_listed v.items)) ∙ (sym (ap nodes (view-Any v)) ∙ ap (λ (t : Tree). nodes (tree_view t)) (sym is)))

-- as code cuts a list in two
pub cut : (count : ℕ) → 64 < count → count - count / 2 ≡ half count
cut count more = omega (arith, more)

pub nodes_at : (ts : List Tree) (i : ℕ) (t : Tree) → i < length ts → t ≡ get_or ts i t → nodes (tree_view t) ≤ items_nodes ts
nodes_at [] i t within is = absurd (omega (arith, within))
nodes_at (u ∷ ts) zero t within is = let h = ap (λ (x : Tree). nodes (tree_view x)) is in omega (arith, h)
nodes_at (u ∷ ts) (suc i) t within is = let h = nodes_at ts i t (omega (arith, within)) is in omega (arith, h)

pub fewer_first : (ts us : List Tree) → 64 < length ts → us ≡ take (length ts - length ts / 2) ts → items_nodes us < items_nodes ts
fewer_first ts us more is =
    let k = length ts - length ts / 2 in
    let parted = nodes_parted k ts in
    let long = nodes_long (drop k ts) in
    let left = length-drop k ts in
    let same = ap items_nodes is in
    omega (arith, more, parted, long, left, same)

pub fewer_second : (ts us : List Tree) → 64 < length ts → us ≡ drop (length ts - length ts / 2) ts → items_nodes us < items_nodes ts
fewer_second ts us more is =
    let k = length ts - length ts / 2 in
    let parted = nodes_parted k ts in
    let long = nodes_long (take k ts) in
    let left = length-take k ts in
    let same = ap items_nodes is in
    omega (arith, more, parted, long, left, same)

-- ---- a list in two, and in a row

module _ {A B : Type 0} (f : Tree → A) (row : List A → B) (two : B → B → B) where
  pub cut_in_two : (ts first second : List Tree) → 64 < length ts → first ≡ take (length ts - length ts / 2) ts → second ≡ drop (length ts - length ts / 2) ts
      → two (halved row two (map f first)) (halved row two (map f second)) ≡ halved row two (map f ts)
  cut_in_two ts first second more one other =
      let xs = map f ts in
      let same : length xs ≡ length ts = length-map ts f in
      let at : length ts - length ts / 2 ≡ half (length xs) = cut (length ts) more ∙ ap half (sym same) in
      let a : map f first ≡ take (half (length xs)) xs = ap (map f) one ∙ (sym (take-map f (length ts - length ts / 2) ts) ∙ ap (λ (k : ℕ). take k xs) at) in
      let b : map f second ≡ drop (half (length xs)) xs = ap (map f) other ∙ (sym (drop-map f (length ts - length ts / 2) ts) ∙ ap (λ (k : ℕ). drop k xs) at) in
      let long : 64 < length xs = omega (arith, more, same) in
      ap (λ (ys : List A). two (halved row two ys) (halved row two (map f second))) a
      ∙ (ap (λ (ys : List A). two (halved row two (take (half (length xs)) xs)) (halved row two ys)) b
      ∙ sym (in_two row two xs long))

  pub few_in_a_row : (ts : List Tree) → length ts ≤ 64 → halved row two (map f ts) ≡ row (map f ts)
  few_in_a_row ts few = let same = length-map ts f in in_a_row row two (map f ts) (omega (arith, few, same))

-- one more of a loop over the parts
pub next_of : {A : Type 0} (f : Tree → A) (ts : List Tree) (i : ℕ) (t : Tree) → i < length ts → t ≡ get_or ts i t → map f (drop i ts) ≡ f t ∷ map f (drop (i + 1) ts)
next_of f ts i t within is = ap (map f) (drop_more ts i t within) ∙ ap (λ (x : Tree). f x ∷ map f (drop (i + 1) ts)) (sym is)

pub none_of : {A : Type 0} (f : Tree → A) (ts : List Tree) (i : ℕ) → length ts ≤ i → map f (drop i ts) ≡ []
none_of f ts i past = ap (map f) (drop_all i ts past)
