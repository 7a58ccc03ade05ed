-- What building regular expressions answers, by the texts that the builder had refused before and those that it has refused after.
use Rattle.std.specs.Prelude.{◌≡◌, ℕ, Bool, true, false, List, [], ◌∷◌, ◌++◌, ◌⊎◌, Result, Ok, Err}
use Rattle.std.specs.declared.alloc.Global.{Global}
use Rattle.std.specs.declared.vec.Vec.{Vec}
use Rattle.event_schema.specs.Lists.{EachOf, SomeOf}
use Rattle.query_lang.specs.Patterns.{is_pattern}
use Rattle.rule_detections.specs.declared.expression.Expression.{Expression}
use Rattle.sig_base.specs.Judged.{refusal}
use Rattle.sig_base.specs.declared.refusal.Fault.{Fault}
use Rattle.sig_base.specs.declared.refusal.Fault.TheVariants.{Memory, Refused}
use Rattle.sig_base.specs.declared.refusal.Place.{Place}
use Rattle.rule_regex.specs.Unbuilt.{ArePlacesOf, IsOneOf, AreIllRefused}

-- Whether the regular expression of this text is built. The list of refused texts gains this text where it isn't, and nothing else; what
-- is built is one that the grammar reads.
abbrev pub TellsBuilt : List (List ℕ) → List (List ℕ) → List ℕ → Result Bool Fault → Type 0
TellsBuilt before after text (Ok true) = (after ≡ before) × (is_pattern text ≡ true)
TellsBuilt before after text (Ok false) = after ≡ before ++ text ∷ []
TellsBuilt before after text (Err e) = (after ≡ before) × (e ≡ Memory)

-- all of these are built, where a builder has built the texts of which it holds
abbrev pub AreBuilt : (List ℕ → Type 0) → List Expression → Type 0
AreBuilt HasBuilt expressions = EachOf (λ e. HasBuilt e.text) expressions

-- each of these is built, or its place is among these places
abbrev pub AreBuiltOrFound : (List ℕ → Type 0) → List Place → List Expression → Type 0
AreBuiltOrFound HasBuilt places expressions = EachOf (λ e. HasBuilt e.text ⊎ SomeOf (λ p. p ≡ e.place) places) expressions

abbrev pub places_in : Result (Vec Place Global) Fault → Result (List Place) Fault
places_in (Ok places) = Ok places.items
places_in (Err e) = Err e

-- the places of those that the builder refused; where memory was missing, what it refused until then has its places too
abbrev pub FindsUnbuilt : List Expression → List (List ℕ) → Result (List Place) Fault → Type 0
FindsUnbuilt expressions refused (Ok places) = ArePlacesOf (IsOneOf expressions) refused places × AreIllRefused expressions refused
FindsUnbuilt expressions refused (Err e) = (e ≡ Memory) × (places : List Place) × ArePlacesOf (IsOneOf expressions) refused places

-- with the texts that the builder refused meanwhile
pub record FoundUnbuilt (expressions : List Expression) (before after : List (List ℕ)) (result : Result (List Place) Fault) : Type 0 where
  pub refused : List (List ℕ)
  pub follows : after ≡ before ++ refused
  pub finds : FindsUnbuilt expressions refused result

abbrev pub ArePatterns : List Expression → Type 0
ArePatterns expressions = EachOf (λ e. is_pattern e.text ≡ true) expressions

-- All are built, so that the grammar reads each, and what is answered is so. Or memory was missing, and the builder refused none. Or it
-- refused one, and no other: 48 is answered at the place of this one.
abbrev pub Builds : {X : Type 0} → (X → Type 0) → List Expression → List (List ℕ) → List (List ℕ) → Result X Fault → Type 0
Builds Is expressions before after (Ok x) = (after ≡ before) × ArePatterns expressions × Is x
Builds Is expressions before after (Err Memory) = after ≡ before
Builds Is expressions before after (Err (Refused r)) = SomeOf (λ e. (r ≡ refusal 48 e.place) × (after ≡ before ++ e.text ∷ [])) expressions
