-- Below an even number of words NOT a tree is yes exactly where it holds, and below an odd number it is no exactly where it
-- doesn't.
use Rattle.std.proofs.Common.{◌≡◌, refl, sym, ◌∙◌, ◌⊎◌, inl, inr, List, [], ◌∷◌, true, false}
use Rattle.std.specs.Prelude.{◌↔◌, Option, None}
use Rattle.sig_base.specs.Judged.{first}
use Rattle.sig_base.specs.declared.refusal.Refusal.{Refusal}
use Rattle.sig_base.proofs.Checks.{first_one, first_holds}
use Rattle.event_schema.specs.declared.schema.Field.{Field}
use Rattle.event_schema.specs.declared.value.Value.{Value}
use Rattle.sql_lang.specs.Meaning.{Truth, Yes, No, Unknown, both, either, negation}
use Rattle.sql_layout.specs.Trees.{tree_value, all_trees, any_tree}
use Rattle.backend_core.specs.declared.tree.Leaf.{Leaf}
use Rattle.backend_core.specs.Trees.{Plain, Plains, no_parts, a_part, all, any, negated, leaf, never}
use Rattle.backend_core.specs.Holds.{TreeHolds, EachHolds, OneHolds}
use Rattle.backend_core.specs.Lacks.{leaf_refusal, lack_refusal, lacks_refusal}
use Rattle.backend_core.specs.Sound.{IsSound, AreSound}
use Rattle.backend_core.specs.declared.lack.Lack.{Lack}
use Rattle.sqlite_writer.specs.Guarded.{sql_tree, sql_trees}

-- yes exactly where H holds
abbrev pub EvenIs : Truth → Type 0 → Type 0
EvenIs Yes H = H
EvenIs No H = H → ⊥
EvenIs Unknown H = H → ⊥

-- no exactly where H doesn't hold
abbrev pub OddIs : Truth → Type 0 → Type 0
OddIs Yes H = H
OddIs No H = H → ⊥
OddIs Unknown H = H

pub even_yes : (v : Truth) (H : Type 0) → EvenIs v H → (v ≡ Yes) ↔ H
even_yes Yes H h = (λ is. h, λ x. refl)
even_yes No H h = (λ is. absurd cc, λ x. absurd (h x))
even_yes Unknown H h = (λ is. absurd cc, λ x. absurd (h x))

pub odd_no : (v : Truth) (H : Type 0) → OddIs v H → (v ≡ No) ↔ (H → ⊥)
odd_no Yes H h = (λ is. absurd cc, λ x. absurd (x h))
odd_no No H h = (λ is. h, λ x. refl)
odd_no Unknown H h = (λ is. absurd cc, λ x. absurd (x h))

both_even : (a b : Truth) (A B : Type 0) → EvenIs a A → EvenIs b B → EvenIs (both a b) (A × B)
both_even Yes Yes A B x y = (x, y)
both_even Yes No A B x y = λ h. y h.1
both_even Yes Unknown A B x y = λ h. y h.1
both_even No b A B x y = λ h. x h.0
both_even Unknown Yes A B x y = λ h. x h.0
both_even Unknown No A B x y = λ h. x h.0
both_even Unknown Unknown A B x y = λ h. x h.0

either_even : (a b : Truth) (A B : Type 0) → EvenIs a A → EvenIs b B → EvenIs (either a b) (A ⊎ B)
either_even Yes b A B x y = inl x
either_even No Yes A B x y = inr y
either_even No No A B x y = λ h. elim h [ inl a ↦ x a | inr b ↦ y b ]
either_even No Unknown A B x y = λ h. elim h [ inl a ↦ x a | inr b ↦ y b ]
either_even Unknown Yes A B x y = inr y
either_even Unknown No A B x y = λ h. elim h [ inl a ↦ x a | inr b ↦ y b ]
either_even Unknown Unknown A B x y = λ h. elim h [ inl a ↦ x a | inr b ↦ y b ]

both_odd : (a b : Truth) (A B : Type 0) → OddIs a A → OddIs b B → OddIs (both a b) (A × B)
both_odd Yes Yes A B x y = (x, y)
both_odd Yes No A B x y = λ h. y h.1
both_odd Yes Unknown A B x y = (x, y)
both_odd No b A B x y = λ h. x h.0
both_odd Unknown Yes A B x y = (x, y)
both_odd Unknown No A B x y = λ h. y h.1
both_odd Unknown Unknown A B x y = (x, y)

either_odd : (a b : Truth) (A B : Type 0) → OddIs a A → OddIs b B → OddIs (either a b) (A ⊎ B)
either_odd Yes b A B x y = inl x
either_odd No Yes A B x y = inr y
either_odd No No A B x y = λ h. elim h [ inl a ↦ x a | inr b ↦ y b ]
either_odd No Unknown A B x y = inr y
either_odd Unknown Yes A B x y = inl x
either_odd Unknown No A B x y = inl x
either_odd Unknown Unknown A B x y = inl x

negation_even : (v : Truth) (H : Type 0) → OddIs v H → EvenIs (negation v) (H → ⊥)
negation_even Yes H h = λ x. x h
negation_even No H h = h
negation_even Unknown H h = λ x. x h

negation_odd : (v : Truth) (H : Type 0) → EvenIs v H → OddIs (negation v) (H → ⊥)
negation_odd Yes H h = λ x. x h
negation_odd No H h = h
negation_odd Unknown H h = h

-- where nothing is lacking for two parts one after another, nothing is for either
two_lack : (a b : Option Refusal) → first (a ∷ b ∷ []) ≡ None → (a ≡ None) × (b ≡ None)
two_lack a b none = let both = first_holds a (b ∷ []) none in (both.0, sym (first_one b) ∙ both.1)

-- The cells are what the row's query looks at, and the row is what its tree does.
module _ (fields : List Field) (lacks : Leaf → Option Lack) (cells : List (Option Value)) (row : List (List Value))
    (leaf_even : (l : Leaf) → IsSound fields (leaf l) → leaf_refusal l (lacks l) ≡ None
    → EvenIs (tree_value fields cells (sql_tree fields false (leaf l))) (TreeHolds row (leaf l)))
    (leaf_odd : (l : Leaf) → IsSound fields (leaf l) → leaf_refusal l (lacks l) ≡ None
    → OddIs (tree_value fields cells (sql_tree fields true (leaf l))) (TreeHolds row (leaf l))) where
  mutual
    pub tree_even : (t : Plain) → IsSound fields t → lack_refusal lacks t ≡ None
        → EvenIs (tree_value fields cells (sql_tree fields false t)) (TreeHolds row t)
    tree_even (all no_parts) s n = absurd s.0
    tree_even (all (a_part t ts)) s n =
        let none = two_lack (lack_refusal lacks t) (lacks_refusal lacks ts) n in
        both_even (tree_value fields cells (sql_tree fields false t)) (all_trees fields cells (sql_trees fields false ts)) (TreeHolds row t) (EachHolds row ts)
        (tree_even t s.1.0 none.0) (each_even ts s.1.1 none.1)
    tree_even (any no_parts) s n = absurd s.0
    tree_even (any (a_part t ts)) s n =
        let none = two_lack (lack_refusal lacks t) (lacks_refusal lacks ts) n in
        either_even (tree_value fields cells (sql_tree fields false t)) (any_tree fields cells (sql_trees fields false ts)) (TreeHolds row t) (OneHolds row ts)
        (tree_even t s.1.0 none.0) (one_even ts s.1.1 none.1)
    tree_even (negated t) s n = negation_even (tree_value fields cells (sql_tree fields true t)) (TreeHolds row t) (tree_odd t s n)
    tree_even (leaf l) s n = leaf_even l s n
    tree_even never s n = λ h. h

    each_even : (ts : Plains) → AreSound fields ts → lacks_refusal lacks ts ≡ None
        → EvenIs (all_trees fields cells (sql_trees fields false ts)) (EachHolds row ts)
    each_even no_parts s n = tt
    each_even (a_part t ts) s n =
        let none = two_lack (lack_refusal lacks t) (lacks_refusal lacks ts) n in
        both_even (tree_value fields cells (sql_tree fields false t)) (all_trees fields cells (sql_trees fields false ts)) (TreeHolds row t) (EachHolds row ts)
        (tree_even t s.0 none.0) (each_even ts s.1 none.1)

    one_even : (ts : Plains) → AreSound fields ts → lacks_refusal lacks ts ≡ None
        → EvenIs (any_tree fields cells (sql_trees fields false ts)) (OneHolds row ts)
    one_even no_parts s n = λ h. h
    one_even (a_part t ts) s n =
        let none = two_lack (lack_refusal lacks t) (lacks_refusal lacks ts) n in
        either_even (tree_value fields cells (sql_tree fields false t)) (any_tree fields cells (sql_trees fields false ts)) (TreeHolds row t) (OneHolds row ts)
        (tree_even t s.0 none.0) (one_even ts s.1 none.1)

    pub tree_odd : (t : Plain) → IsSound fields t → lack_refusal lacks t ≡ None
        → OddIs (tree_value fields cells (sql_tree fields true t)) (TreeHolds row t)
    tree_odd (all no_parts) s n = absurd s.0
    tree_odd (all (a_part t ts)) s n =
        let none = two_lack (lack_refusal lacks t) (lacks_refusal lacks ts) n in
        both_odd (tree_value fields cells (sql_tree fields true t)) (all_trees fields cells (sql_trees fields true ts)) (TreeHolds row t) (EachHolds row ts)
        (tree_odd t s.1.0 none.0) (each_odd ts s.1.1 none.1)
    tree_odd (any no_parts) s n = absurd s.0
    tree_odd (any (a_part t ts)) s n =
        let none = two_lack (lack_refusal lacks t) (lacks_refusal lacks ts) n in
        either_odd (tree_value fields cells (sql_tree fields true t)) (any_tree fields cells (sql_trees fields true ts)) (TreeHolds row t) (OneHolds row ts)
        (tree_odd t s.1.0 none.0) (one_odd ts s.1.1 none.1)
    tree_odd (negated t) s n = negation_odd (tree_value fields cells (sql_tree fields false t)) (TreeHolds row t) (tree_even t s n)
    tree_odd (leaf l) s n = leaf_odd l s n
    tree_odd never s n = λ h. h

    each_odd : (ts : Plains) → AreSound fields ts → lacks_refusal lacks ts ≡ None
        → OddIs (all_trees fields cells (sql_trees fields true ts)) (EachHolds row ts)
    each_odd no_parts s n = tt
    each_odd (a_part t ts) s n =
        let none = two_lack (lack_refusal lacks t) (lacks_refusal lacks ts) n in
        both_odd (tree_value fields cells (sql_tree fields true t)) (all_trees fields cells (sql_trees fields true ts)) (TreeHolds row t) (EachHolds row ts)
        (tree_odd t s.0 none.0) (each_odd ts s.1 none.1)

    one_odd : (ts : Plains) → AreSound fields ts → lacks_refusal lacks ts ≡ None
        → OddIs (any_tree fields cells (sql_trees fields true ts)) (OneHolds row ts)
    one_odd no_parts s n = λ h. h
    one_odd (a_part t ts) s n =
        let none = two_lack (lack_refusal lacks t) (lacks_refusal lacks ts) n in
        either_odd (tree_value fields cells (sql_tree fields true t)) (any_tree fields cells (sql_trees fields true ts)) (TreeHolds row t) (OneHolds row ts)
        (tree_odd t s.0 none.0) (one_odd ts s.1 none.1)
