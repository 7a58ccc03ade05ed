-- What is said of a document for places at which its regular expressions aren't built. `IsMade` says what is made of its rule.
use Rattle.std.specs.Prelude.{◌≡◌, ℕ, Bool, true, false, List, ◌++◌, Result, Ok, Err}
use Rattle.rule_model.specs.Plain.{PlainRule}
use Rattle.sig_base.specs.declared.limits.Limits.{Limits}
use Rattle.sig_base.specs.declared.refusal.Fault.{Fault}
use Rattle.sig_base.specs.declared.refusal.Fault.TheVariants.{Memory, Refused}
use Rattle.sig_base.specs.declared.refusal.Place.{Place}
use Rattle.yaml_tree.specs.Tree.{Tree}
use Rattle.rule_regex.specs.Unbuilt.{Unbuilt, AreUnbuilt, ArePlacesOf, IsOfItem, refused_texts}

-- it was answered to its end, and memory wasn't missing
abbrev pub is_answered : {X : Type 0} → Result X Fault → Bool
is_answered (Ok x) = true
is_answered (Err (Refused r)) = true
is_answered (Err Memory) = false

-- For some such places it's so. The builder had refused the texts `before`, and then has refused the texts `after`: behind the former
-- those of this document, and nothing else.
pub record ForUnbuilt (IsMade : PlainRule → PlainRule → Type 0) (limits : Limits) (t : Tree) (before after : List (List ℕ)) (ended : Bool) (Says : Unbuilt → Type 0) : Type 0 where
  pub unbuilt : Unbuilt
  pub follows : after ≡ before ++ refused_texts unbuilt
  pub are : AreUnbuilt IsMade limits t ended unbuilt
  pub says : Says unbuilt

-- The same of what comes behind the building of the document's values, of which those at these places aren't built: for some places of
-- items at which regular expressions of what is made of the rule aren't built once more. It's so whatever texts were refused for the values.
pub record ForItems (IsMade : PlainRule → PlainRule → Type 0) (t : Tree) (values : List Place) (before after : List (List ℕ)) (Says : Unbuilt → Type 0) : Type 0 where
  pub items : List Place
  pub refused : List (List ℕ)
  pub follows : after ≡ before ++ refused
  pub are : ArePlacesOf (IsOfItem IsMade t) refused items
  pub says : (earlier : List (List ℕ)) → Says (record { values = values; refused_values = earlier; items = items; refused_items = refused })
