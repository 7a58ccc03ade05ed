-- Loops over items, alternatives and detections that stop at the first that is refused.
use Rattle.std.proofs.Common.{ℕ, ◌+◌, ◌<◌, ◌≡◌, List, ◌∷◌, ◌++◌, length, get_or, drop, Option, Some, None, refl, sym, ap, ◌∙◌, map}
use Rattle.std.specs.List.{flat_map}
use Rattle.std.proofs.lemmas.List.{drop_more, map-append}
use Rattle.sig_base.specs.declared.refusal.Refusal.{Refusal}
use Rattle.sig_base.specs.Judged.{first}
use Rattle.rule_detections.specs.declared.item.Item.{Item}
use Rattle.sig_base.proofs.Firsts.{first_none, first_some}

line_at : (line : Item → Option Refusal) (i : ℕ) (xs : List Item) (x : Item) → i < length xs → x ≡ get_or xs i x → map line (drop i xs) ≡ line x ∷ map line (drop (i + 1) xs)
line_at line i xs x l e = ap (map line) (drop_more xs i x l ∙ ap (λ (y : Item). y ∷ drop (i + 1) xs) (sym e))

pub line_here : (line : Item → Option Refusal) (i : ℕ) (xs : List Item) (x : Item) (r : Refusal) (whole : Option Refusal) → i < length xs → x ≡ get_or xs i x → line x ≡ Some r
    → first (map line (drop i xs)) ≡ whole → Some r ≡ whole
line_here line i xs x r whole l e k h = sym (ap first (line_at line i xs x l e) ∙ rw k refl) ∙ h

pub line_on : (line : Item → Option Refusal) (i : ℕ) (xs : List Item) (x : Item) (whole : Option Refusal) → i < length xs → x ≡ get_or xs i x → line x ≡ None
    → first (map line (drop i xs)) ≡ whole → first (map line (drop (i + 1) xs)) ≡ whole
line_on line i xs x whole l e k h = sym (ap first (line_at line i xs x l e) ∙ rw k refl) ∙ h

part_at : {X : Type 0} (line : Item → Option Refusal) (f : X → List Item) (i : ℕ) (xs : List X) (x : X) → i < length xs → x ≡ get_or xs i x
    → map line (flat_map f (drop i xs)) ≡ map line (f x) ++ map line (flat_map f (drop (i + 1) xs))
part_at line f i xs x l e =
    ap (λ (ys : List _). map line (flat_map f ys)) (drop_more xs i x l ∙ ap (λ (y : _). y ∷ drop (i + 1) xs) (sym e))
    ∙ map-append line (f x) (flat_map f (drop (i + 1) xs))

pub part_here : {X : Type 0} (line : Item → Option Refusal) (f : X → List Item) (i : ℕ) (xs : List X) (x : X) (r : Refusal) (whole : Option Refusal) → i < length xs → x ≡ get_or xs i x → first (map line (f x)) ≡ Some r
    → first (map line (flat_map f (drop i xs))) ≡ whole → Some r ≡ whole
part_here line f i xs x r whole l e k h =
    sym (ap first (part_at line f i xs x l e) ∙ first_some (map line (f x)) (map line (flat_map f (drop (i + 1) xs))) r k) ∙ h

pub part_on : {X : Type 0} (line : Item → Option Refusal) (f : X → List Item) (i : ℕ) (xs : List X) (x : X) (whole : Option Refusal) → i < length xs → x ≡ get_or xs i x → first (map line (f x)) ≡ None
    → first (map line (flat_map f (drop i xs))) ≡ whole → first (map line (flat_map f (drop (i + 1) xs))) ≡ whole
part_on line f i xs x whole l e k h =
    sym (ap first (part_at line f i xs x l e) ∙ first_none (map line (f x)) (map line (flat_map f (drop (i + 1) xs))) k) ∙ h
