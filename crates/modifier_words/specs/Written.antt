-- A chain of modifiers as it's written.
use Rattle.std.specs.Prelude.{Bool, List}
use Rattle.sig_base.specs.declared.refusal.Place.{Place}
use Rattle.modifier_words.specs.declared.modifier.Modifier.{Modifier}

-- the modifiers from left to right, whether they stand at a keyword and not at a field, and the place of their item
pub record Written : Type 0 where
  pub modifiers : List Modifier
  pub keyword : Bool
  pub place : Place
