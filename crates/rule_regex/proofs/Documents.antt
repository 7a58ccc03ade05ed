-- What is said of a document once the places of its values are found at which regular expressions aren't built.
use Rattle.std.proofs.Common.{ℕ, ◌≡◌, Bool, true, false, List, [], ◌++◌, sym, ap, ◌∙◌, append-nil, append_assoc}
use Rattle.std.specs.Prelude.{Result, Ok, Err}
use Rattle.rule_regex.specs.Building.{FoundUnbuilt}
use Rattle.rule_regex.specs.ForUnbuilt.{ForUnbuilt, ForItems, is_answered}
use Rattle.rule_regex.specs.Unbuilt.{Unbuilt, of_values}
use Rattle.rule_detections.specs.declared.expression.Expression.{Expression}
use Rattle.rule_model.specs.Expressions.{document_expressions}
use Rattle.rule_model.specs.Plain.{PlainRule}
use Rattle.sig_base.specs.declared.limits.Limits.{Limits}
use Rattle.sig_base.specs.declared.refusal.Fault.{Fault}
use Rattle.sig_base.specs.declared.refusal.Fault.TheVariants.{Memory, Refused}
use Rattle.sig_base.specs.declared.refusal.Place.{Place}
use Rattle.yaml_tree.specs.Tree.{Tree}

untrue : false ≡ true → ⊥
untrue e = cc

module _ (IsMade : PlainRule → PlainRule → Type 0) (limits : Limits) (t : Tree) where
  abbrev expressions : List Expression
  expressions = document_expressions limits t

  -- the places of values are found, and then items are built
  pub found_items : (values : List Place) (before mid after : List (List ℕ)) (ended : Bool) (Says : Unbuilt → Type 0)
      → FoundUnbuilt expressions before mid (Ok values) → ForItems IsMade t values mid after Says → ForUnbuilt IsMade limits t before after ended Says
  found_items values before mid after ended Says found items = record {
    unbuilt = record { values = values; refused_values = found.refused; items = items.items; refused_items = items.refused };
    follows = items.follows ∙ (ap (λ (texts : List (List ℕ)). texts ++ items.refused) found.follows ∙ append_assoc before found.refused items.refused);
    are = record { values = found.finds.0; items = items.are; ill = λ _. found.finds.1 };
    says = items.says found.refused;
  }

  -- no item is built
  pub no_items : (values : List Place) (texts : List (List ℕ)) (Says : Unbuilt → Type 0)
      → ((earlier : List (List ℕ)) → Says (of_values values earlier)) → ForItems IsMade t values texts texts Says
  no_items values texts Says h = record { items = []; refused = []; follows = sym (append-nil texts); are = tt; says = h }

  -- only the places of values are found
  pub found_only : (values : List Place) (before after : List (List ℕ)) (ended : Bool) (Says : Unbuilt → Type 0)
      → FoundUnbuilt expressions before after (Ok values) → ((earlier : List (List ℕ)) → Says (of_values values earlier))
      → ForUnbuilt IsMade limits t before after ended Says
  found_only values before after ended Says found h = found_items values before after after ended Says found (no_items values after Says h)

  -- memory was missing before all were found
  pub found_none : {X : Type 0} (before after : List (List ℕ)) (Says : Unbuilt → Result X Fault → Type 0) (fault : Fault)
      → FoundUnbuilt expressions before after (Err fault) → ((unbuilt : Unbuilt) → Says unbuilt (Err Memory))
      → ForUnbuilt IsMade limits t before after (is_answered {X = X} (Err fault)) (λ unbuilt. Says unbuilt (Err fault))
  found_none {X} before after Says Memory found h =
      let unbuilt : Unbuilt = of_values found.finds.1 found.refused in
      record {
        unbuilt = unbuilt;
        follows = found.follows ∙ ap (λ (texts : List (List ℕ)). before ++ texts) (sym (append-nil found.refused));
        are = record { values = found.finds.2; items = tt; ill = λ e. absurd (untrue e) };
        says = h unbuilt;
      }
  found_none {X} before after Says (Refused r) found h = absurd (not_memory r found.finds.0)
    where
      not_memory : (r : _) → Refused r ≡ Memory → ⊥
      not_memory r e = cc
