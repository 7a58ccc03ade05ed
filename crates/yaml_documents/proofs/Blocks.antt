-- The characters of lines, and how blocks divide them.
use Rattle.std.proofs.Common.{◌≡◌, ℕ, ◌+◌, ◌≤◌, Bool, true, false, cond, List, [], ◌∷◌, length, refl, arith}
use Rattle.std.specs.Prelude.{map as list_map}
use Rattle.yaml_inline.specs.File.{Line}
use Rattle.yaml_blocks.specs.Blocks.{rest_while, Part, Parts, put_line, inside, divide}
use Rattle.yaml_blocks.specs.Reading.{Item, item_of, items_of, offset}
use Rattle.yaml_blocks.proofs.Rests.{body_within}

-- how many characters they have
abbrev pub weight : List Line → ℕ
weight [] = 0
weight (l ∷ ls) = length l.text + weight ls

abbrev parts_weight : List Part → ℕ
parts_weight [] = 0
parts_weight (p ∷ ps) = (length p.head.text + weight p.inner) + parts_weight ps

abbrev pub item_weight : Item → ℕ
item_weight x = length x.text + weight x.inner

abbrev pub items_weight : List Item → ℕ
items_weight [] = 0
items_weight (x ∷ xs) = item_weight x + items_weight xs

-- lines at the front that are dropped
pub rest_within : (p : Line → Bool) (ls : List Line) → weight (rest_while p ls) ≤ weight ls
rest_within p [] = omega arith
rest_within p (l ∷ ls) = by (p l) (rest_within p ls) where
  by : (b : Bool) → weight (rest_while p ls) ≤ weight ls → weight (cond b (rest_while p ls) (l ∷ ls)) ≤ weight (l ∷ ls)
  by true h = omega arith
  by false h = omega arith

put_weight : (b : Bool) (l : Line) (p : Parts) → weight (put_line b l p).lead + parts_weight (put_line b l p).parts ≡ length l.text + (weight p.lead + parts_weight p.parts)
put_weight true l p = omega arith
put_weight false l p = omega arith

-- a block's parts have its characters
divide_weight : (in_map : Bool) (j : ℕ) (ls : List Line) → weight (divide in_map j ls).lead + parts_weight (divide in_map j ls).parts ≡ weight ls
divide_weight in_map j [] = refl
divide_weight in_map j (l ∷ ls) = omega (arith, put_weight (inside in_map j l) l (divide in_map j ls), divide_weight in_map j ls)

items_within : (ps : List Part) → items_weight (list_map item_of ps) ≤ parts_weight ps
items_within [] = omega arith
items_within (p ∷ ps) = omega (arith, items_within ps, body_within p.head)

-- the items of a block that begins here
pub items_of_within : (in_map : Bool) (l : Line) (cs : List ℕ) (ls : List Line) → items_weight (items_of in_map l cs ls) ≤ length cs + weight ls
items_of_within in_map l cs ls =
    let j = offset l cs in
    omega (arith, divide_weight in_map j ls, items_within (divide in_map j ls).parts)
