-- What a rule with one more condition means.
use Rattle.std.proofs.Common.{ℕ, zero, suc, ◌<◌, ◌↔◌, Bool, true, false, ◌⊎◌, inl, inr, List, [], ◌∷◌, ◌++◌, map, length}
use native.Mathlib.Omega.{arith}
use Rattle.std.specs.Prelude.{⊤}
use Rattle.event_schema.specs.Lists.{EachOf, SomeOf}
use Rattle.event_schema.specs.declared.schema.Field.{Field}
use Rattle.event_schema.specs.declared.value.Value.{Value}
use Rattle.sig_base.specs.declared.refusal.Place.{Place}
use Rattle.sig_conditions.specs.Formulas.{PlainFormula, FDetection, FNot, FAnd, FOr, PlainFormulas, no_forms, form}
use Rattle.rule_detections.specs.declared.detection.Detection.{Detection}
use Rattle.rule_detections.specs.declared.item.Item.{Item}
use Rattle.rule_model.specs.Matching.{ItemHolds, DetectionHolds, NumberHolds, FormHolds, AllFormsHold, SomeFormHolds, Matches}
use Rattle.rule_model.proofs.Iffs.{iff_same, iff_then, iff_not, iff_both, iff_either}
use Rattle.rule_model.specs.Plain.{PlainRule}
use Rattle.rule_model.specs.Whole.{IsWholeForm, AreSomeForms, AreWholeForms, IsWhole}
use Rattle.pipeline_edit.specs.Added.{placed, added_detection, added_form, and_also, and_each, with_condition, HoldsUnless}

whole_forms : (n : ℕ) (fs : PlainFormulas) → AreSomeForms n fs → AreWholeForms n fs
whole_forms n no_forms h = absurd h
whole_forms n (form f fs) h = h

-- one of a list of one
one_of : {A : Type 0} → (A ⊎ ⊥) ↔ A
one_of = ((λ h. elim h [ inl a ↦ a | inr e ↦ absurd e ]), (λ h. inl h))

module _ (fields : List Field) (row : List (List Value)) where
  -- the detections in front of one more keep their numbers
  number_before : (ds : List Detection) (d : Detection) (n : ℕ) → n < length ds → NumberHolds fields row (ds ++ d ∷ []) n ↔ NumberHolds fields row ds n
  number_before [] d n below = absurd (omega (arith, below))
  number_before (e ∷ ds) d zero below = iff_same
  number_before (e ∷ ds) d (suc n) below = number_before ds d n (omega (arith, below))

  -- and it has the next one
  number_last : (ds : List Detection) (d : Detection) → NumberHolds fields row (ds ++ d ∷ []) (length ds) ↔ DetectionHolds fields row d
  number_last [] d = iff_same
  number_last (e ∷ ds) d = number_last ds d

  mutual
    form_before : (ds : List Detection) (d : Detection) (f : PlainFormula) → IsWholeForm (length ds) f → FormHolds fields row (ds ++ d ∷ []) f ↔ FormHolds fields row ds f
    form_before ds d (FDetection n) whole = number_before ds d n whole
    form_before ds d (FNot f) whole = iff_not (form_before ds d f whole)
    form_before ds d (FAnd fs) whole = all_before ds d fs (whole_forms (length ds) fs whole)
    form_before ds d (FOr fs) whole = some_before ds d fs (whole_forms (length ds) fs whole)

    all_before : (ds : List Detection) (d : Detection) (fs : PlainFormulas) → AreWholeForms (length ds) fs → AllFormsHold fields row (ds ++ d ∷ []) fs ↔ AllFormsHold fields row ds fs
    all_before ds d no_forms whole = iff_same
    all_before ds d (form f fs) whole = iff_both (form_before ds d f whole.0) (all_before ds d fs whole.1)

    some_before : (ds : List Detection) (d : Detection) (fs : PlainFormulas) → AreWholeForms (length ds) fs → SomeFormHolds fields row (ds ++ d ∷ []) fs ↔ SomeFormHolds fields row ds fs
    some_before ds d no_forms whole = iff_same
    some_before ds d (form f fs) whole = iff_either (form_before ds d f whole.0) (some_before ds d fs whole.1)

  -- the place of an item is no part of its meaning
  each_placed : (place : Place) (items : List Item) → EachOf (ItemHolds fields row) (map (placed place) items) ↔ EachOf (ItemHolds fields row) items
  each_placed place [] = iff_same
  each_placed place (i ∷ is) = iff_both iff_same (each_placed place is)

  added_holds : (ds : List Detection) (place : Place) (items : List Item)
      → NumberHolds fields row (ds ++ added_detection place items ∷ []) (length ds) ↔ EachOf (ItemHolds fields row) items
  added_holds ds place items = iff_then (number_last ds (added_detection place items)) (iff_then one_of (each_placed place items))

  added_means : (negated : Bool) (ds : List Detection) (place : Place) (items : List Item)
      → FormHolds fields row (ds ++ added_detection place items ∷ []) (added_form negated (length ds)) ↔ HoldsUnless negated (EachOf (ItemHolds fields row) items)
  added_means true ds place items = iff_not (added_holds ds place items)
  added_means false ds place items = added_holds ds place items

  both_of : {A B : Type 0} → (A × (B × ⊤)) ↔ (A × B)
  both_of = ((λ h. (h.0, h.1.0)), (λ h. (h.0, (h.1, tt))))

  also_means : (ds : List Detection) (added c : PlainFormula) → FormHolds fields row ds (and_also added c) ↔ (FormHolds fields row ds added × FormHolds fields row ds c)
  also_means ds added (FDetection n) = both_of
  also_means ds added (FNot f) = both_of
  also_means ds added (FAnd fs) = iff_same
  also_means ds added (FOr fs) = both_of

  -- of each of the conditions one part is the same
  some_also : (ds : List Detection) (d : Detection) (added : PlainFormula) (A : Type 0) → FormHolds fields row (ds ++ d ∷ []) added ↔ A
      → (cs : List PlainFormula) → EachOf (IsWholeForm (length ds)) cs
      → SomeOf (FormHolds fields row (ds ++ d ∷ [])) (and_each added cs) ↔ (A × SomeOf (FormHolds fields row ds) cs)
  some_also ds d added A same [] whole = ((λ h. absurd h), (λ h. absurd h.1))
  some_also ds d added A same (c ∷ cs) whole =
      let here = iff_then (also_means (ds ++ d ∷ []) added c) (iff_both same (form_before ds d c whole.0)) in
      let rest = some_also ds d added A same cs whole.1 in (
        (λ h. elim h [ inl x ↦ ((here.0 x).0, inl (here.0 x).1) | inr x ↦ ((rest.0 x).0, inr (rest.0 x).1) ]),
        (λ h. elim h.1 [ inl x ↦ inl (here.1 (h.0, x)) | inr x ↦ inr (rest.1 (h.0, x)) ]),
      )

  pub added_decide : (items : List Item) (negated : Bool) (rule : PlainRule) → IsWhole rule
      → Matches fields row (with_condition items negated rule) ↔ (HoldsUnless negated (EachOf (ItemHolds fields row) items) × Matches fields row rule)
  added_decide items negated rule whole =
      some_also rule.detections (added_detection rule.head.place items) (added_form negated (length rule.detections))
      (HoldsUnless negated (EachOf (ItemHolds fields row) items)) (added_means negated rule.detections rule.head.place items) rule.conditions whole.conditions
