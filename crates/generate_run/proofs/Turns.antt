-- One event more is asked.
use Rattle.std.proofs.Common.{arith, ◌≡◌, ◌↔◌, ◌<◌, ◌+◌, ℕ, suc, Bool, true, List, [], ◌∷◌, ◌++◌, length, take, get_or, ap, sym, subst}
use Rattle.std.proofs.Math.Seq.{take-suc}
use Rattle.std.specs.List.{AllZip}
use Rattle.event_schema.specs.Lists.{EachOf}
use Rattle.event_schema.specs.Occurrence.{Occurrence}
use Rattle.rule_model.proofs.Iffs.{iff_then}
use Rattle.event_schema.specs.declared.value.Value.{Value}
use Rattle.generate_run.specs.Compared.{Flags}

zip_push : {A B : Type 0} (R : A → B → Type 0) (xs : List A) (ys : List B) (x : A) (y : B) → AllZip R xs ys → R x y → AllZip R (xs ++ x ∷ []) (ys ++ y ∷ [])
zip_push R [] [] x y same r = (r, tt)
zip_push R [] (z ∷ ys) x y same r = elim same [ ]
zip_push R (w ∷ xs) [] x y same r = elim same [ ]
zip_push R (w ∷ xs) (z ∷ ys) x y same r = (same.0, zip_push R xs ys x y same.1 r)

pub turn : {Q : Type 0} (picks : Q → List (List Value) → Type 0) (p q : Q) (events : List Occurrence) (flags : List Bool) (i : ℕ) (event : Occurrence) (flag : Bool) (made : List Bool)
    → made ≡ flags ++ flag ∷ [] → i < length events → event ≡ get_or events i event → p ≡ q → ((flag ≡ true) ↔ picks p event.values)
    → Flags (picks q) (take i events) flags → Flags (picks q) (take (i + 1) events) made
turn {Q} picks p q events flags i event flag made so below is same picked before =
    let at : (flag ≡ true) ↔ picks q (get_or events i event).values =
    subst (λ (e : Occurrence). (flag ≡ true) ↔ picks q e.values) is (subst (λ (x : Q). (flag ≡ true) ↔ picks x event.values) same picked) in
    let more : suc i ≡ i + 1 = omega arith in
    subst (λ (bs : List Bool). Flags (picks q) (take (i + 1) events) bs) (sym so)
    (subst (λ (n : ℕ). Flags (picks q) (take n events) (flags ++ flag ∷ [])) more
    (subst (λ (es : List Occurrence). Flags (picks q) es (flags ++ flag ∷ [])) (sym (take-suc events i event below))
    (zip_push (λ (e : Occurrence) (b : Bool). (b ≡ true) ↔ picks q e.values) (take i events) flags (get_or events i event) flag before at)))

-- what a query picks of events of the schema is what holds of them
pub carried : {P R : List (List Value) → Type 0} (E : List (List Value) → Type 0) → ((row : List (List Value)) → E row → P row ↔ R row)
    → (events : List Occurrence) (flags : List Bool) → EachOf (λ (e : Occurrence). E e.values) events → Flags P events flags → Flags R events flags
carried E same [] [] each flags = tt
carried E same [] (b ∷ bs) each flags = flags
carried E same (e ∷ es) [] each flags = flags
carried E same (e ∷ es) (b ∷ bs) each flags = (iff_then flags.0 (same e.values each.0), carried E same es bs each.1 flags.1)
