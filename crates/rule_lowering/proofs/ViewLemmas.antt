-- The trees of vectors, and their parts.
use Rattle.std.proofs.Common.{◌≡◌, refl, sym, ap, ◌∙◌, List, [], ◌∷◌, ◌++◌, length, map, arith}
use Rattle.std.specs.Prelude.{Result, Ok, Err, OnOk}
use Rattle.backend_core.specs.Joins.{append, all_parts, any_parts}
use Rattle.backend_core.specs.Trees.{Plain, all, any, negated, leaf, never, Plains, no_parts, a_part}
use Rattle.backend_core.specs.View.{tree_view, plains_of}
use Rattle.backend_core.specs.declared.tree.Tree.{Tree}
use Rattle.backend_core.specs.declared.tree.Tree as trees
use Rattle.modifier_words.specs.declared.modifier.Joined.{Joined}
use Rattle.modifier_words.specs.declared.modifier.Joined.TheVariants.{All, Any}
use Rattle.rule_lowering.specs.Joining.{plains, listed, parts_of, tree_with, closed}

pub plains_are : (ts : List Tree) → plains_of ts ≡ plains (map tree_view ts)
plains_are [] = refl
plains_are (t ∷ ts) = ap (λ (rest : Plains). a_part (tree_view t) rest) (plains_are ts)

pub listed_again : (ts : List Plain) → listed (plains ts) ≡ ts
listed_again [] = refl
listed_again (t ∷ ts) = ap (λ (us : List Plain). t ∷ us) (listed_again ts)

listed_trees : (ts : List Tree) → listed (plains_of ts) ≡ map tree_view ts
listed_trees ts = ap listed (plains_are ts) ∙ listed_again (map tree_view ts)

listed_joined : (ts us : Plains) → listed (append ts us) ≡ listed ts ++ listed us
listed_joined no_parts us = refl
listed_joined (a_part t ts) us = ap (λ (vs : List Plain). t ∷ vs) (listed_joined ts us)

pub listed_all : (t : Plain) → listed (all_parts t) ≡ parts_of All t
listed_all (all ts) = refl
listed_all (any ts) = refl
listed_all (negated t) = refl
listed_all (leaf l) = refl
listed_all never = refl

pub listed_any : (t : Plain) → listed (any_parts t) ≡ parts_of Any t
listed_any (all ts) = refl
listed_any (any ts) = refl
listed_any (negated t) = refl
listed_any (leaf l) = refl
listed_any never = refl

-- a list of parts is joined with these
joined_as : (old new : List Tree) (added : Plains) (parts : List Plain) → listed added ≡ parts → plains_of new ≡ append (plains_of old) added
    → map tree_view new ≡ map tree_view old ++ parts
joined_as old new added parts are joined =
    sym (listed_trees new) ∙ (ap listed joined ∙ (listed_joined (plains_of old) added ∙ (ap (λ (ts : List Plain). ts ++ listed added) (listed_trees old)
    ∙ ap (λ (ts : List Plain). map tree_view old ++ ts) are)))

pub adds : {A E : Type 0} (result : Result A E) (old new : List Tree) (t : Plain) (j k : Joined) (parts : Plain → Plains) → j ≡ k → listed (parts t) ≡ parts_of k t
    → OnOk result (plains_of new ≡ append (plains_of old) (parts t)) → OnOk result (map tree_view new ≡ map tree_view old ++ parts_of j t)
adds (Ok x) old new t j k parts is are joined = joined_as old new (parts t) (parts_of j t) (are ∙ ap (λ (i : Joined). parts_of i t) (sym is)) joined
adds (Err e) old new t j k parts is are joined = tt

-- the end of a list of parts that isn't one
with_rest : (j : Joined) (ts : List Tree) → (length ts ≡ 1 → ⊥) → tree_with j (plains_of ts) ≡ closed j (map tree_view ts)
with_rest j [] h = refl
with_rest j (t ∷ []) h = absurd (h refl)
with_rest j (t ∷ u ∷ ts) h = ap (tree_with j) (plains_are (t ∷ u ∷ ts))

pub closes : (j : Joined) (ts : List Tree) (t : Plain) → (length ts ≡ 1 → ⊥) → t ≡ tree_with j (plains_of ts) → t ≡ closed j (map tree_view ts)
closes j ts t h e = e ∙ with_rest j ts h

-- one part is the tree
pub closes_one : (j : Joined) (ts rest : List Tree) (t : Tree) → length ts ≡ 1 → ts ≡ rest ++ t ∷ [] → tree_view t ≡ closed j (map tree_view ts)
closes_one j ts [] t h e = sym (ap (λ us. closed j (map tree_view us)) e)
closes_one j ts (u ∷ []) t h e = absurd (omega (arith, ap length e))
closes_one j ts (u ∷ v ∷ rest) t h e = absurd (omega (arith, ap length e))
