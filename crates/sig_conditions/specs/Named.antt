-- The names that conditions are over, and what may still be done with them.
use Rattle.std.specs.Prelude.{ℕ, ◌≡◌, true, List, [], ◌∷◌, encode_utf8_all, String, IfSome}
use Rattle.std.specs.BTreeMap.{BTreeMap, get_by_text}
use Rattle.std.specs.Str.{all_scalars}
use Rattle.sig_conditions.specs.Selectors.{counted, names_size}
use Rattle.sig_conditions.specs.Taken.{taken}
use Rattle.sig_conditions.specs.declared.selector.Selector.{Selector}
use Rattle.sig_conditions.specs.declared.selector.Selector.TheVariants.{Them, Names}

-- names in a rule's order, how many of them selectors may still take, and in how many steps they may still be compared
pub record Named : Type 0 where
  pub names : List (List ℕ)
  pub left : ℕ
  pub steps : ℕ

-- the word that takes what a selector does: `them` takes what `*` does
abbrev pub selector_word : Selector → List ℕ
selector_word Them = 42 ∷ []
selector_word (Names word) = word

-- what is known of words is what they take
pub record AreKnown {Y : Type 0} (names : List (List ℕ)) (known : BTreeMap (String Y) (List ℕ)) : Type 0 where
  pub takes : (word : List ℕ) → all_scalars word ≡ true → IfSome (get_by_text known (encode_utf8_all word)) (λ numbers. numbers ≡ taken (Names word) names)

-- what the code keeps beside the names
pub record IsKept {Y : Type 0} (names : List (List ℕ)) (known : BTreeMap (String Y) (List ℕ)) (size : ℕ) : Type 0 where
  pub words : AreKnown names known
  pub sizes : size ≡ counted (names_size names)
