-- The answer to `convert`, with a schema or without one, and with pipelines or without any.
use Rattle.std.specs.Prelude.{ℕ, List, [], Option}
use Rattle.answer_writer.specs.Each.{EachPart}
use Rattle.answer_writer.specs.Input.{World}
use Rattle.answer_writer.specs.Parts.{Part}
use Rattle.event_schema.specs.declared.schema.Schema.{Schema}
use Rattle.pipeline_files.specs.Paired.{paired}
use Rattle.pipeline_model.specs.declared.pipeline.Pipeline.{Pipeline}
use Rattle.rule_regex.specs.Unbuilt.{Unbuilt}
use Rattle.sig_base.specs.declared.limits.Limits.{Limits}
use Rattle.sigma_serve.specs.RuleFiles.{ByUnbuilt, RuleFileAt, FilesBySome}
use Rattle.sigma_serve.specs.UnderPipelines.{ByPipelines, UnderPipelines}
use Rattle.sigma_serve.specs.UnderSchema.{BySchema, UnderSchema}

-- what a document is answered under pipelines and under a schema, or where none is given
abbrev pub ByMade : Type 1
ByMade = List Pipeline → Option Schema → ByUnbuilt

-- what the rules of files are answered, by their trees, where regular expressions aren't built at these places of each document of each file
abbrev pub RulesAt : ByMade → Limits → List (List Unbuilt) → List (List ℕ) → List Pipeline → BySchema
RulesAt by limits unbuilt rules ps given = EachPart (RuleFileAt (by ps given) limits) (paired [] unbuilt rules)

-- for some such places, where the builder had refused these texts before and then has refused those after
abbrev pub RulesBySome : ByMade → Limits → List (List ℕ) → ByPipelines
RulesBySome by limits rules ps before after ended given = FilesBySome (by ps given) limits ps before after ended rules

-- under the pipelines of a file, if one is named
abbrev pub PipedRules : ByMade → Limits → List Unbuilt → List (List Unbuilt) → Option (List ℕ) → List (List ℕ) → BySchema
PipedRules by limits piped unbuilt pipelines rules given = UnderPipelines (λ ps. RulesAt by limits unbuilt rules ps given) limits piped pipelines

-- the rule files are answered under the schema that is named, or else each rule under the one that is made of it
abbrev pub Converted : ByMade → Limits → List Unbuilt → List (List Unbuilt) → Option (List ℕ) → Option (List ℕ) → List (List ℕ) → World → List Part → Type 0
Converted by limits piped unbuilt schema pipelines rules = UnderSchema (PipedRules by limits piped unbuilt pipelines rules) limits schema
