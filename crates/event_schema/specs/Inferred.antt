-- A field of the schema that is made where none is given.
use Rattle.std.specs.Prelude.{ℕ, List, [], ◌∷◌, false}
use Rattle.event_schema.specs.declared.schema.Field.{Field}
use Rattle.event_schema.specs.declared.schema.FieldKind.TheVariants.{Text}

-- a field of texts, found under its own name
abbrev pub text_field : List ℕ → Field
text_field name = record { name = name; kind = Text; at = name ∷ []; search = false; cased = false; many = false }
