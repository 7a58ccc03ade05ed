-- The query of a rule under a schema, the given one or the one that is made of the rule, and what the query means. It's said of
-- the meanings of any backend (what it lacks, its text of a tree, how it refuses a tree for its depth) and of its language.
use Rattle.std.specs.Prelude.{ℕ, ◌-◌, ◌^◌, min, List, ◌∷◌}
use Rattle.std.specs.declared.option.Option.{Option}
use Rattle.backend_core.specs.Means.{Means}
use Rattle.backend_core.specs.Trees.{Plain}
use Rattle.backend_core.specs.Writing.{at_most, write_checks}
use Rattle.backend_core.specs.declared.lack.Lack.{Lack}
use Rattle.backend_core.specs.declared.tree.Leaf.{Leaf}
use Rattle.event_schema.specs.declared.schema.Schema.{Schema}
use Rattle.event_schema.specs.declared.value.Value.{Value}
use Rattle.rule_schema.specs.Inferred.{schema_for, open_refusal, made_refusal, fit_refusal}
use Rattle.rule_regex.specs.Unbuilt.{unbuilt_refusal}
use Rattle.rule_model.specs.Matching.{Matches}
use Rattle.rule_model.specs.Expressions.{rule_expressions}
use Rattle.rule_model.specs.Plain.{PlainRule}
use Rattle.rule_lowering.specs.Leaves.{leaves}
use Rattle.rule_lowering.specs.TreeOf.{tree_of}
use Rattle.sig_base.specs.declared.limits.Limits.{Limits}
use Rattle.sig_base.specs.declared.refusal.Place.{Place}
use Rattle.sig_base.specs.declared.refusal.Refusal.{Refusal}
use Rattle.sig_base.specs.Judged.{first}

-- the tree of tests of a rule
unfoldable pub rule_tree : Schema → PlainRule → Plain
rule_tree schema rule = tree_of schema rule

module _ (text : Schema → Plain → List ℕ) where
  -- the bytes of its query, without a line feed
  unfoldable pub query_under : Schema → PlainRule → List ℕ
  query_under schema rule = text schema (rule_tree schema rule)

  -- under the given schema, or else the one that is made of the rule
  abbrev pub query_of : Option Schema → PlainRule → List ℕ
  query_of given rule = query_under (schema_for given rule) rule

module _ (missing : Schema → Leaf → Option Lack) (text : Schema → Plain → List ℕ) (too_deep : Limits → Schema → Plain → Place → Option Refusal) where
  -- why a rule that fits its schema has no query, where a regular expression isn't built at the items of these places: its tree has too
  -- many leaves (told up to 2^127 - 1), one isn't built, or the tree isn't written
  abbrev pub query_checks : List Place → Limits → Schema → PlainRule → List (Option Refusal)
  query_checks unbuilt limits schema rule =
      at_most 110 rule.head.place (min (leaves (rule_tree schema rule)) (2 ^ 127 - 1)) (leaves (rule_tree schema rule)) limits.leaves
      ∷ unbuilt_refusal unbuilt (rule_expressions rule)
      ∷ write_checks missing text too_deep limits schema (rule_tree schema rule) rule.head.place

  -- why a rule has no query under a schema: an item doesn't fit it, or one of those
  abbrev pub checks_under : List Place → Limits → Schema → PlainRule → List (Option Refusal)
  checks_under unbuilt limits schema rule = fit_refusal schema rule ∷ query_checks unbuilt limits schema rule

  -- why a rule without placeholders has no query under the given schema, or else the one that is made of it
  abbrev pub filled_checks : List Place → Limits → Option Schema → PlainRule → List (Option Refusal)
  filled_checks unbuilt limits given rule = made_refusal given rule ∷ checks_under unbuilt limits (schema_for given rule) rule

  -- why a rule has no query: a placeholder of it stands open, or one of those
  abbrev pub query_refusal : List Place → Limits → Option Schema → PlainRule → Option Refusal
  query_refusal unbuilt limits given rule = first (open_refusal rule ∷ filled_checks unbuilt limits given rule)

module _ {Query : Type 0} (is_query : Schema → List ℕ → Query → Type 0) (is_within : Limits → Schema → List ℕ → Query → Type 0)
    (picks : Query → List (List Value) → Type 0) where
  -- The bytes are read as exactly one query of the schema, within the limits, and for every event of the schema the query picks
  -- the event exactly where the rule matches it.
  abbrev pub Converts : Limits → Option Schema → PlainRule → List ℕ → Type 0
  Converts limits given rule bytes =
      Means is_query is_within picks limits (schema_for given rule) (λ row. Matches (schema_for given rule).fields row rule) bytes
