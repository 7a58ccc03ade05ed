-- What is noted of matches, as they come and go.
use Rattle.std.proofs.Common.{◌≡◌, ℕ, ◌^◌, ◌<◌, ◌≤◌, Bool, true, false, List, [], ◌∷◌, ◌++◌, ap, sym, subst, ◌∙◌, arith}
use Rattle.std.specs.Prelude.{Option, Some, None, Result, Ok, Err, IfOk, length}
use Rattle.std.specs.List.{cons_option}
use Rattle.std.proofs.lemmas.List.Elements.{filter_map-append}
use Rattle.correlation_windows.specs.Tallies.{AreTimes}
use Rattle.correlation_windows.specs.Reaches.{AreReaches, entered}
use Rattle.correlation_windows.specs.Noted.{texts_of, IsNoted}
use Rattle.correlation_windows.specs.declared.matches.Match.{Match}
use Rattle.correlation_windows.specs.declared.bound.CorrelationKind.{CorrelationKind}
use Rattle.correlation_windows.specs.declared.bound.CorrelationKind.TheVariants as kinds
use Rattle.std.specs.List.{list_all}
use Rattle.std.specs.Prelude.{nat_le}
use Rattle.correlation_windows.specs.Windows.{fires}
use Rattle.correlation_windows.specs.declared.bound.Op.{Op}
use Rattle.correlation_windows.proofs.Reached.{reaches_come, entered_long, each_met}

texts_push : (w : List Match) (m : Match) → texts_of (w ++ m ∷ []) ≡ texts_of w ++ cons_option m.counted []
texts_push w m = filter_map-append (λ x. x.counted) w (m ∷ [])

texts_most : (w : List Match) → length (texts_of w) ≤ length w
texts_most [] = omega arith
texts_most (m ∷ ms) = by m.counted (texts_most ms)
  where
    by : (o : Option (List ℕ)) → length (texts_of ms) ≤ length ms → length (cons_option o (texts_of ms)) ≤ length (m ∷ ms)
    by None le = omega (arith, le)
    by (Some text) le = omega (arith, le)

module _ (kind : CorrelationKind) (rules : ℕ) (w : List Match) (m : Match) (few : length w < 2 ^ 63) where
  pub text_noted : (old new : List (List ℕ × ℕ)) (reaches : List ℕ) (text : Option (List ℕ)) → kind ≡ kinds.ValueCount → m.counted ≡ text
      → ((texts : List (List ℕ)) → length texts < 2 ^ 63 → AreTimes old texts → AreTimes new (texts ++ cons_option text [])) → IsNoted kind rules old reaches w → IsNoted kind rules new reaches (w ++ m ∷ [])
  text_noted old new reaches text is same comes so =
      let most = texts_most w in
      subst (λ (k : CorrelationKind). IsNoted k rules new reaches (w ++ m ∷ [])) (sym is)
      (subst (λ (ts : List (List ℕ)). AreTimes new ts) (ap (λ (o : Option (List ℕ)). texts_of w ++ cons_option o []) (sym same) ∙ sym (texts_push w m))
      (comes (texts_of w) (omega (arith, few, most)) (subst (λ (k : CorrelationKind). IsNoted k rules old reaches w) is so)))

  places_noted : (ordered : Bool) (old new : List ℕ) (place : ℕ) → m.place ≡ place → new ≡ entered ordered place old → (length old ≡ rules) × AreReaches ordered old w → (length new ≡ rules) × AreReaches ordered new (w ++ m ∷ [])
  places_noted ordered old new place at is so =
      let same : new ≡ entered ordered m.place old = is ∙ ap (λ (p : ℕ). entered ordered p old) (sym at) in (
        ap length same ∙ (entered_long ordered m.place old ∙ so.0),
        subst (λ (rs : List ℕ). AreReaches ordered rs (w ++ m ∷ [])) (sym same) (reaches_come ordered old w m few so.1),
      )

  pub each_noted : (times : List (List ℕ × ℕ)) (old new : List ℕ) (place : ℕ) → kind ≡ kinds.Temporal → m.place ≡ place → new ≡ entered false place old → IsNoted kind rules times old w → IsNoted kind rules times new (w ++ m ∷ [])
  each_noted times old new place is at e so =
      subst (λ (k : CorrelationKind). IsNoted k rules times new (w ++ m ∷ [])) (sym is) (places_noted false old new place at e (subst (λ (k : CorrelationKind). IsNoted k rules times old w) is so))

  pub order_noted : (times : List (List ℕ × ℕ)) (old new : List ℕ) (place : ℕ) → kind ≡ kinds.TemporalOrdered → m.place ≡ place → new ≡ entered true place old → IsNoted kind rules times old w → IsNoted kind rules times new (w ++ m ∷ [])
  order_noted times old new place is at e so =
      subst (λ (k : CorrelationKind). IsNoted k rules times new (w ++ m ∷ [])) (sym is) (places_noted true old new place at e (subst (λ (k : CorrelationKind). IsNoted k rules times old w) is so))

pub none_each : (kind : CorrelationKind) (rules : ℕ) (reaches : List ℕ) → kind ≡ kinds.Temporal → length reaches ≡ rules → ((ordered : Bool) → AreReaches ordered reaches []) → IsNoted kind rules [] reaches []
none_each kind rules reaches is long none = subst (λ (k : CorrelationKind). IsNoted k rules [] reaches []) (sym is) (long, none false)

pub none_order : (kind : CorrelationKind) (rules : ℕ) (reaches : List ℕ) → kind ≡ kinds.TemporalOrdered → length reaches ≡ rules → ((ordered : Bool) → AreReaches ordered reaches []) → IsNoted kind rules [] reaches []
none_order kind rules reaches is long none = subst (λ (k : CorrelationKind). IsNoted k rules [] reaches []) (sym is) (long, none true)

pub none_noted : {X E : Type 0} (r : Result X E) (items : X → List ℕ) (kind : CorrelationKind) (rules places : ℕ) → IfOk r (λ x. length (items x) ≡ places) → ((ordered : Bool) → IfOk r (λ x. AreReaches ordered (items x) []))
    → ((reaches : List ℕ) → length reaches ≡ places → ((ordered : Bool) → AreReaches ordered reaches []) → IsNoted kind rules [] reaches []) → IfOk r (λ x. IsNoted kind rules [] (items x) [])
none_noted (Ok x) items kind rules places long none all = all (items x) long none
none_noted (Err e) items kind rules places long none all = tt

pub each_fires : (kind : CorrelationKind) (n : ℕ) (times : List (List ℕ × ℕ)) (reaches : List ℕ) (w : List Match) (condition : List (Op × ℕ)) (count : ℕ) (result : Bool) → kind ≡ kinds.Temporal → count ≡ length w
    → result ≡ list_all (λ r. nat_le r count) reaches → IsNoted kind n times reaches w → (rules : List ℕ) → length rules ≡ n → result ≡ fires kind rules condition w
each_fires kind n times reaches w condition count result is all met so rules long =
    let noted : (length reaches ≡ n) × AreReaches false reaches w = subst (λ (k : CorrelationKind). IsNoted k n times reaches w) is so in
    met ∙ (each_met reaches rules w count (noted.0 ∙ sym long) all noted.1 ∙ ap (λ (k : CorrelationKind). fires k rules condition w) (sym is))
