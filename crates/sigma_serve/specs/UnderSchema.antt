-- The answer to a command that a schema's file may be named for: it's read before all else.
use Rattle.std.specs.Prelude.{◌≡◌, ℕ, Bool, true, false, List, [], ◌∷◌, Option, None, Some, Result, Ok, Err}
use Rattle.answer_writer.specs.Input.{World, File}
use Rattle.answer_writer.specs.Parts.{Share, Part, no_share}
use Rattle.answer_writer.specs.declared.stop.Stop.{Stop}
use Rattle.event_read.specs.SchemaOf.{schema_of}
use Rattle.event_schema.specs.declared.schema.Schema.{Schema}
use Rattle.sig_base.specs.Files.{file_start}
use Rattle.sig_base.specs.Judged.{refusal}
use Rattle.sig_base.specs.declared.limits.Limits.{Limits}
use Rattle.sigma_serve.specs.Reports.{refusal_share}
use Rattle.sigma_serve.specs.RuleFiles.{contents}

-- what is answered under the given schema, or where none is given
abbrev pub BySchema : Type 1
BySchema = Option Schema → World → List Part → Type 0

-- it came to its end, and wasn't cut off
abbrev pub is_ended : Result Bool Stop → Bool
is_ended (Ok refused) = true
is_ended (Err stop) = false

-- what is answered where the builder had refused these texts before and has refused those after, and where it came to its end or didn't
abbrev pub ByBuilder : Type 1
ByBuilder = List (List ℕ) → List (List ℕ) → Bool → BySchema

-- the part of an answer that belongs to a file
abbrev pub file_part : List ℕ → Share → Part
file_part file share = record { input = Some (File file); share = share }

-- The answer in a world. No schema is named: it's the answer where none is given. Or the bytes of the named file are a schema: nothing
-- is answered of that file, and then it's the answer under this schema. Or they are refused as a schema: this is answered of that
-- file, and nothing else, and no event is read.
pub data UnderSchema (by : BySchema) (limits : Limits) (schema : Option (List ℕ)) (world : World) (parts : List Part) : Type 0 where
  without : schema ≡ None → by None world parts → UnderSchema by limits schema world parts
  under : (file : List ℕ) → schema ≡ Some file → (given : Schema) → schema_of limits (contents world.files file) ≡ Ok given
      → (others : List Part) → by (Some given) world others → parts ≡ file_part file no_share ∷ others → UnderSchema by limits schema world parts
  refused : (file : List ℕ) → schema ≡ Some file → (code : ℕ) → schema_of limits (contents world.files file) ≡ Err code
      → parts ≡ file_part file (refusal_share file (refusal code file_start)) ∷ [] → UnderSchema by limits schema world parts

-- the schema's file is refused
abbrev pub IsUnschemed : Limits → Option (List ℕ) → World → Type 0
IsUnschemed limits None world = ⊥
IsUnschemed limits (Some schema) world = (code : ℕ) × (schema_of limits (contents world.files schema) ≡ Err code)

-- The same, where the builder had refused these texts before and has refused those after: none more where the schema is refused.
pub record UnderBuilder (by : ByBuilder) (limits : Limits) (schema : Option (List ℕ)) (before after : List (List ℕ)) (ended : Bool) (world : World) (parts : List Part) : Type 0 where
  pub answer : UnderSchema (by before after ended) limits schema world parts
  pub still : IsUnschemed limits schema world → after ≡ before
