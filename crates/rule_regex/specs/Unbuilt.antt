-- Where regular expressions of a document aren't built, and what is refused for that. Whether a builder builds one isn't told by
-- its text, so the answers to a document are said for lists of places, which have to be the places of what the builder refused.
use Rattle.std.specs.Prelude.{◌≡◌, ℕ, Bool, true, false, not, List, [], ◌++◌, map, Option}
use Rattle.std.specs.List.{list_any, AllZip}
use Rattle.event_schema.specs.Lists.{EachOf, SomeOf}
use Rattle.query_lang.specs.Patterns.{is_pattern}
use Rattle.query_lang.specs.RefusedPlaces.{IsAmong}
use Rattle.rule_detections.specs.declared.expression.Expression.{Expression}
use Rattle.rule_model.specs.Expressions.{document_expressions, rule_expressions}
use Rattle.rule_model.specs.Plain.{PlainRule}
use Rattle.rule_model.specs.Rules.{IsRule}
use Rattle.sig_base.specs.Judged.{first, must}
use Rattle.sig_base.specs.declared.limits.Limits.{Limits}
use Rattle.sig_base.specs.declared.refusal.Place.{Place}
use Rattle.sig_base.specs.declared.refusal.Refusal.{Refusal}
use Rattle.modifier_values.specs.Expressions.{is_same_place}
use Rattle.yaml_tree.specs.Tree.{Tree}

-- What the builder refused of a document: the places of values and the texts of their regular expressions when the document was read, and
-- the places of items and the texts of theirs when the rule that pipelines made of it was made ready.
pub record Unbuilt : Type 0 where
  pub values : List Place
  pub refused_values : List (List ℕ)
  pub items : List Place
  pub refused_items : List (List ℕ)

abbrev pub none_unbuilt : Unbuilt
none_unbuilt = record { values = []; refused_values = []; items = []; refused_items = [] }

-- of values alone
abbrev pub of_values : List Place → List (List ℕ) → Unbuilt
of_values places refused = record { values = places; refused_values = refused; items = []; refused_items = [] }

-- the texts that the builder refused of it, in their order
abbrev pub refused_texts : Unbuilt → List (List ℕ)
refused_texts unbuilt = unbuilt.refused_values ++ unbuilt.refused_items

-- 48 at the first of these regular expressions whose place is one at which none is built
abbrev pub unbuilt_refusal : List Place → List Expression → Option Refusal
unbuilt_refusal unbuilt expressions = first (map (λ e. must 48 e.place (not (list_any (is_same_place e.place) unbuilt))) expressions)

-- These are the places of the texts that the builder refused, in the same order and as many: each text at its place is such a regular
-- expression.
abbrev pub ArePlacesOf : (Expression → Type 0) → List (List ℕ) → List Place → Type 0
ArePlacesOf Is refused places = AllZip (λ text place. Is (record { place = place; text = text })) refused places

abbrev pub IsOneOf : List Expression → Expression → Type 0
IsOneOf expressions expression = SomeOf (λ e. e ≡ expression) expressions

-- a regular expression of an item of what is made of the rule that a document is
abbrev pub IsOfItem : (PlainRule → PlainRule → Type 0) → Tree → Expression → Type 0
IsOfItem IsMade t expression = (rule : PlainRule) × IsRule t rule × (made : PlainRule) × IsMade rule made × IsOneOf (rule_expressions made) expression

-- each of these regular expressions that the grammar doesn't read is among the texts that the builder refused
abbrev pub AreIllRefused : List Expression → List (List ℕ) → Type 0
AreIllRefused expressions refused = EachOf (λ e. is_pattern e.text ≡ false → IsAmong e.text refused) expressions

-- What these places and texts are, of each round its own; `IsMade` says what is made of a rule. And where the document was answered to its
-- end, the builder refused each regular expression of its values that the grammar doesn't read.
pub record AreUnbuilt (IsMade : PlainRule → PlainRule → Type 0) (limits : Limits) (t : Tree) (ended : Bool) (unbuilt : Unbuilt) : Type 0 where
  pub values : ArePlacesOf (IsOneOf (document_expressions limits t)) unbuilt.refused_values unbuilt.values
  pub items : ArePlacesOf (IsOfItem IsMade t) unbuilt.refused_items unbuilt.items
  pub ill : ended ≡ true → AreIllRefused (document_expressions limits t) unbuilt.refused_values
