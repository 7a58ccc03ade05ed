-- The query of each rule that has one means the rule, where the texts of the backend mean their trees.
use Rattle.std.proofs.Common.{ℕ, ◌≡◌, List, [], ◌∷◌, Option, Some, None, map, sym, subst, refl}
use Rattle.std.specs.Prelude.{◌↔◌, IfSome}
use Rattle.backend_core.proofs.Checks.{parts}
use Rattle.backend_core.specs.Holds.{TreeHolds}
use Rattle.backend_core.specs.Means.{Means}
use Rattle.backend_core.specs.Schemas.{IsNamed}
use Rattle.backend_core.specs.Sound.{IsSound}
use Rattle.backend_core.specs.Trees.{Plain}
use Rattle.backend_core.specs.Writing.{write_refusal}
use Rattle.backend_core.specs.declared.lack.Lack.{Lack}
use Rattle.backend_core.specs.declared.tree.Leaf.{Leaf}
use Rattle.event_schema.specs.Events.{IsEvent}
use Rattle.event_schema.specs.Lists.{EachOf}
use Rattle.event_schema.specs.Schemas.{AreApart, IsSchema, names_of}
use Rattle.event_schema.specs.declared.schema.Schema.{Schema}
use Rattle.event_schema.specs.declared.value.Value.{Value}
use Rattle.pipeline_run.specs.Chained.{Makes}
use Rattle.pipeline_run.specs.Kept.{IsWholePipeline}
use Rattle.pipeline_model.specs.declared.pipeline.Pipeline.{Pipeline}
use Rattle.rule_lowering.specs.TreeOf.{tree_of}
use Rattle.rule_model.specs.Matching.{Matches}
use Rattle.rule_regex.specs.Unbuilt.{Unbuilt}
use Rattle.rule_model.specs.Plain.{PlainRule}
use Rattle.rule_model.specs.Rules.{rule_refusal, correlation_refusal, IsRule}
use Rattle.rule_model.specs.Whole.{IsWhole}
use Rattle.rule_convert.specs.Queries.{rule_tree, query_under, query_of, Converts}
use Rattle.rule_convert.specs.Verdicts.{IsConverted}
use Rattle.rule_convert.proofs.Judging.{no_line}
use Rattle.rule_schema.proofs.NamesApart.{rule_legal, rule_apart, fields_kept, own_names, no_twins}
use Rattle.rule_schema.specs.Inferred.{open_refusal, fit_refusal, items_of, uses_of, rule_names, made_field, schema_for, made_refusal}
use Rattle.sig_base.specs.declared.limits.Limits.{Limits}
use Rattle.sig_base.specs.declared.refusal.Place.{Place}
use Rattle.sig_base.specs.declared.refusal.Refusal.{Refusal}
use Rattle.yaml_tree.specs.Texts.{HasScalarTexts}
use Rattle.yaml_tree.specs.Tree.{Tree}

abbrev WholeRules : Type 0
WholeRules = (unbuilt : List Place) (limits : Limits) (t : Tree) (rule : PlainRule) → rule_refusal unbuilt limits t ≡ None → IsRule t rule → HasScalarTexts t → IsWhole rule

abbrev StayWhole : Type 0
StayWhole = (limits : Limits) (ps : List Pipeline) (rule made : PlainRule) → EachOf IsWholePipeline ps → IsWhole rule → Makes limits ps rule made → IsWhole made

abbrev TreesMean : Type 0
TreesMean = (schema : Schema) (rule : PlainRule) (row : List (List Value)) → IsWhole rule → fit_refusal schema rule ≡ None → IsEvent schema.fields row
    → TreeHolds row (tree_of schema rule) ↔ Matches schema.fields row rule

abbrev TreesSound : Type 0
TreesSound = (schema : Schema) (rule : PlainRule) → IsWhole rule → open_refusal rule ≡ None → fit_refusal schema rule ≡ None → IsSound schema.fields (tree_of schema rule)

both_ways : {A B C : Type 0} → A ↔ B → B ↔ C → A ↔ C
both_ways f g = ((λ a. g.0 (f.0 a)), (λ c. f.1 (g.1 c)))

-- every schema has its names, the given one and the one that is made of a whole rule whose names don't clash
schema_named : (given : Option Schema) (rule : PlainRule) → IfSome given IsSchema → IsWhole rule → made_refusal given rule ≡ None → IsNamed (schema_for given rule)
schema_named None rule is whole made =
    let names = rule_names rule in
    let uses = uses_of (items_of rule.detections) in
    record {
      table = record { legal = refl; scalars = refl };
      fields = fields_kept uses names (rule_legal rule whole);
      apart = subst AreApart (sym (own_names uses names)) (rule_apart rule made);
      twins = no_twins uses (names_of (map (made_field uses) names)) names;
    }
schema_named (Some schema) rule is whole made = record { table = is.table; fields = is.fields; apart = is.apart; twins = is.twins }

module _ (missing : Schema → Leaf → Option Lack) (text : Schema → Plain → List ℕ) (too_deep : Limits → Schema → Plain → Place → Option Refusal)
    {Query : Type 0} (is_query : Schema → List ℕ → Query → Type 0) (is_within : Limits → Schema → List ℕ → Query → Type 0)
    (picks : Query → List (List Value) → Type 0) where
  abbrev TextsMean : Type 0
  TextsMean = (limits : Limits) (schema : Schema) (t : Plain) (place : Place) → IsNamed schema → IsSound schema.fields t
      → write_refusal missing text too_deep limits schema t place ≡ None
      → Means is_query is_within picks limits schema (λ row. TreeHolds row t) (text schema t)

  pub query_means : WholeRules → StayWhole → TreesMean → TreesSound → TextsMean
      → (unbuilt : Unbuilt) (limits : Limits) (ps : List Pipeline) (given : Option Schema) (t : Tree) (made : PlainRule) → IfSome given IsSchema → HasScalarTexts t
      → EachOf IsWholePipeline ps → IsConverted missing text too_deep unbuilt limits ps given t made → Converts is_query is_within picks limits given made (query_of text given made)
  unfolding query_under rule_tree
  query_means wholes stay means sounds texts_mean unbuilt limits ps given t made is texts whole_ps converted =
      let lines = no_line missing text too_deep unbuilt.items limits given made converted.written in
      let taken = (parts (correlation_refusal t) (rule_refusal unbuilt.values limits t ∷ []) converted.lone.taken).1 in
      let rule_whole = wholes unbuilt.values limits t converted.rule (parts (rule_refusal unbuilt.values limits t) [] taken).0 converted.lone.is texts in
      let whole = stay limits ps converted.rule made whole_ps rule_whole converted.makes in
      let schema = schema_for given made in
      let sound = sounds schema made whole lines.filled lines.fits in
      let query = texts_mean limits schema (tree_of schema made) made.head.place (schema_named given made is whole lines.made) sound lines.written in
      record {
        query = query.query;
        reads = query.reads;
        within = query.within;
        only = query.only;
        selects = λ row event. both_ways (query.selects row event) (means schema made row whole lines.fits event);
      }
