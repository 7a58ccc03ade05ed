-- Schemas whose fields are found by their names, and by their twins' where they have one.
use Rattle.std.specs.Prelude.{ℕ, ◌≡◌, ◌<◌, Bool, true, false, List, [], ◌∷◌, length, Some, ⊤}
use Rattle.std.specs.Str.{all_scalars}
use Rattle.event_schema.specs.declared.schema.Field.{Field}
use Rattle.lucene_lang.specs.Query.{found_in, named}
use Rattle.lucene_writer.specs.Lacking.{is_cased}
use Rattle.backend_core.specs.FieldAt.{name_at}
use Rattle.lucene_writer.specs.Told.{searched}

-- one character at least, and each is a scalar value
abbrev pub is_named : List ℕ → Bool
is_named [] = false
is_named (c ∷ cs) = all_scalars (c ∷ cs)

abbrev pub AreNamed : List Field → Type 0
AreNamed [] = ⊤
AreNamed (field ∷ fields) = (is_named field.name ≡ true) × AreNamed fields

pub record IsIndexed (fields : List Field) : Type 0 where
  pub names : AreNamed fields
  pub found : (k : ℕ) → k < length fields → found_in fields (name_at fields k) ≡ Some (named k false)
  pub twins : (k : ℕ) → k < length fields → is_cased fields k ≡ true → found_in fields (searched true (name_at fields k)) ≡ Some (named k true)
