-- Signs of characters and of parts, one by one.
use Rattle.std.proofs.Common.{ℕ, ◌+◌, ◌<◌, ◌≡◌, refl, sym, ◌∙◌, ap, Bool, true, false, List, [], ◌∷◌, ◌++◌, codes, length, drop, get_or, append_assoc, append-nil}
use Rattle.std.specs.List.{flat_map}
use Rattle.std.proofs.lemmas.List.{drop_more}
use Rattle.sig_strings.specs.declared.part.Part.{Part}
use Rattle.lucene_writer.specs.Pieces.{char_sign, part_sign, piece_if}
use Rattle.lucene_writer.specs.Told.{searched}

signs_append : (f : ℕ → List ℕ) (xs ys : List ℕ) → flat_map f (xs ++ ys) ≡ flat_map f xs ++ flat_map f ys
signs_append f [] ys = refl
signs_append f (x ∷ xs) ys = ap (λ (t : List ℕ). f x ++ t) (signs_append f xs ys) ∙ sym (append_assoc (f x) (flat_map f xs) (flat_map f ys))

-- one more character
pub one_sign : (c : ℕ) (cs old out new : List ℕ) → out ≡ old ++ flat_map char_sign cs → new ≡ out ++ char_sign c → new ≡ old ++ flat_map char_sign (cs ++ c ∷ [])
one_sign c cs old out new before added =
    added
    ∙ (ap (λ (t : List ℕ). t ++ char_sign c) before
    ∙ (append_assoc old (flat_map char_sign cs) (char_sign c)
    ∙ ap (λ (t : List ℕ). old ++ t) (ap (λ (t : List ℕ). flat_map char_sign cs ++ t) (sym (append-nil (char_sign c))) ∙ sym (signs_append char_sign cs (c ∷ [])))))

-- the sign of one more part
pub next_sign : (ps : List Part) (i : ℕ) (p : Part) (out new whole : List ℕ) → p ≡ get_or ps i p → i < length ps
    → new ≡ out ++ part_sign p → out ++ flat_map part_sign (drop i ps) ≡ whole → new ++ flat_map part_sign (drop (i + 1) ps) ≡ whole
next_sign ps i p out new whole is within added before =
    let rest = flat_map part_sign (drop (i + 1) ps) in
    let left : drop i ps ≡ p ∷ drop (i + 1) ps = drop_more ps i p within ∙ ap (λ (x : Part). x ∷ drop (i + 1) ps) (sym is) in
    ap (λ (t : List ℕ). t ++ rest) added
    ∙ (append_assoc out (part_sign p) rest
    ∙ (ap (λ (xs : List Part). out ++ flat_map part_sign xs) (sym left) ∙ before))

pub twin_signs : (name first second : List ℕ) (twin : Bool) → first ≡ [] ++ flat_map char_sign name → second ≡ first ++ piece_if twin (codes ".cased")
    → second ≡ flat_map char_sign (searched twin name)
twin_signs name first second true a b = b ∙ (ap (λ (t : List ℕ). t ++ codes ".cased") a ∙ sym (signs_append char_sign name (codes ".cased")))
twin_signs name first second false a b = b ∙ (append-nil first ∙ a)

-- a name, a colon, and the number of a range between what stands before it and what behind it
pub range_put : (old named coloned started numbered new name start number end : List ℕ) → named ≡ old ++ name → coloned ≡ named ++ codes ":" → started ≡ coloned ++ start
    → numbered ≡ started ++ number → new ≡ numbered ++ end → new ≡ old ++ (name ++ (codes ":" ++ (start ++ (number ++ end))))
range_put old named coloned started numbered new name start number end a b c d e = rw (e, d, c, b, a) (simp append_assoc)
