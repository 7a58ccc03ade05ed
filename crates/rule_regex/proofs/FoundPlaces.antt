-- The places of regular expressions that aren't built, one after another.
use Rattle.std.proofs.Common.{ℕ, ◌≡◌, ◌∙◌, Bool, true, false, List, [], ◌∷◌, ◌++◌, ◌⊎◌, inl, inr, refl, sym, ap, subst, append-nil, append_assoc}
use Rattle.std.specs.Prelude.{Ok, Err}
use Rattle.event_schema.specs.Lists.{SomeOf}
use Rattle.query_lang.specs.Patterns.{is_pattern}
use Rattle.query_lang.specs.RefusedPlaces.{IsAmong}
use Rattle.rule_regex.specs.Building.{TellsBuilt, FoundUnbuilt, AreBuiltOrFound}
use Rattle.rule_regex.specs.Unbuilt.{ArePlacesOf, IsOneOf, AreIllRefused}
use Rattle.rule_detections.specs.declared.expression.Expression.{Expression}
use Rattle.sig_base.specs.declared.refusal.Fault.{Fault}
use Rattle.sig_base.specs.declared.refusal.Fault.TheVariants.{Memory}
use Rattle.sig_base.specs.declared.refusal.Place.{Place}
use Rattle.rule_regex.proofs.Lists.{each_map, each_joined, some_left, some_right, zip_map, zip_joined}

pub nothing_found : (before : List (List ℕ)) → FoundUnbuilt [] before before (Ok [])
nothing_found before = record { refused = []; follows = sym (append-nil before); finds = (tt, tt) }

-- a text at a place is one of these
abbrev IsAt : List Expression → List ℕ → Place → Type 0
IsAt es text place = IsOneOf es (record { place = place; text = text })

-- with more regular expressions behind
wider : (es more : List Expression) (refused : List (List ℕ)) (places : List Place) → ArePlacesOf (IsOneOf es) refused places → ArePlacesOf (IsOneOf (es ++ more)) refused places
wider es more refused places are =
    zip_map (IsAt es) (IsAt (es ++ more)) (λ text place. some_left (λ (e : Expression). e ≡ record { place = place; text = text }) es more) refused places are

abbrev IsIllRefused : List (List ℕ) → Expression → Type 0
IsIllRefused refused e = is_pattern e.text ≡ false → IsAmong e.text refused

ill_grown : (es : List Expression) (refused more : List (List ℕ)) → AreIllRefused es refused → AreIllRefused es (refused ++ more)
ill_grown es refused more are =
    each_map (IsIllRefused refused) (IsIllRefused (refused ++ more)) es (λ e is ill. some_left (λ (t : List ℕ). t ≡ e.text) refused more (is ill)) are

no_both : (b : Bool) → b ≡ true → b ≡ false → ⊥
no_both b yes_is no_is = cc

pub one_built : (es : List Expression) (e : Expression) (before now after : List (List ℕ)) (places : List Place) → FoundUnbuilt es before now (Ok places)
    → TellsBuilt now after e.text (Ok true) → FoundUnbuilt (es ++ e ∷ []) before after (Ok places)
one_built es e before now after places found told = record {
  refused = found.refused;
  follows = told.0 ∙ found.follows;
  finds = (
    wider es (e ∷ []) found.refused places found.finds.0,
    each_joined (IsIllRefused found.refused) es (e ∷ []) found.finds.1 ((λ ill. absurd (no_both (is_pattern e.text) told.1 ill)), tt),
  );
}

pub one_unbuilt : (es : List Expression) (e : Expression) (before now after : List (List ℕ)) (places : List Place) → FoundUnbuilt es before now (Ok places)
    → TellsBuilt now after e.text (Ok false) → FoundUnbuilt (es ++ e ∷ []) before after (Ok (places ++ e.place ∷ []))
one_unbuilt es e before now after places found told =
    let refused = found.refused ++ e.text ∷ [] in
    let here : IsOneOf (es ++ e ∷ []) e = some_right (λ (x : Expression). x ≡ e) es (e ∷ []) (inl refl) in
    let there : IsAmong e.text refused = some_right (λ (t : List ℕ). t ≡ e.text) found.refused (e.text ∷ []) (inl refl) in
    record {
      refused = refused;
      follows = told ∙ (ap (λ (texts : List (List ℕ)). texts ++ e.text ∷ []) found.follows ∙ append_assoc before found.refused (e.text ∷ []));
      finds = (
        zip_joined (IsAt (es ++ e ∷ [])) found.refused (e.text ∷ []) places (e.place ∷ []) (wider es (e ∷ []) found.refused places found.finds.0) (here, tt),
        each_joined (IsIllRefused refused) es (e ∷ []) (ill_grown es found.refused (e.text ∷ []) found.finds.1) ((λ ill. there), tt),
      );
    }

-- memory was missing, where so much was found
pub found_no_memory : (es more all : List Expression) (before now after : List (List ℕ)) (places : List Place) (f : Fault) → es ++ more ≡ all → FoundUnbuilt es before now (Ok places)
    → after ≡ now → f ≡ Memory → FoundUnbuilt all before after (Err f)
found_no_memory es more all before now after places f whole found same is = record {
  refused = found.refused;
  follows = same ∙ found.follows;
  finds = (is, places, subst (λ (xs : List Expression). ArePlacesOf (IsOneOf xs) found.refused places) whole (wider es more found.refused places found.finds.0));
}

-- ---- what is built, or found not to be

-- with one more that is built, or whose place is found
pub one_more : (Old New : List ℕ → Type 0) → ((text : List ℕ) → Old text → New text) → (places all : List Place)
    → ((p : Place) → SomeOf (λ q. q ≡ p) places → SomeOf (λ q. q ≡ p) all) → (es : List Expression) (e : Expression) → AreBuiltOrFound Old places es
    → New e.text ⊎ SomeOf (λ q. q ≡ e.place) all → AreBuiltOrFound New all (es ++ e ∷ [])
one_more Old New keeps places all wide es e each one =
    each_joined (λ (x : Expression). New x.text ⊎ SomeOf (λ q. q ≡ x.place) all) es (e ∷ [])
    (each_map (λ (x : Expression). Old x.text ⊎ SomeOf (λ q. q ≡ x.place) places) (λ (x : Expression). New x.text ⊎ SomeOf (λ q. q ≡ x.place) all) es
    (λ x is. elim is [
      | inl built ↦ inl (keeps x.text built)
      | inr found ↦ inr (wide x.place found)
    ]) each)
    (one, tt)
