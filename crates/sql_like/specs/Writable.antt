-- Patterns that LIKE and GLOB can write: characters, single characters and runs.
use Rattle.std.specs.Prelude.{Bool, true, false, List, [], ◌∷◌}
use Rattle.sig_strings.specs.declared.part.Part.{Part}
use Rattle.sig_strings.specs.declared.part.Part.TheVariants.{Char, One, Run, Dash, Hole}
use Rattle.sql_lang.specs.Meaning as sql
use Rattle.sql_lang.specs.Meaning.{AnyRun, AnyOne, Exactly}

-- no dash place and no placeholder, which are replaced before a pattern is written
abbrev pub is_writable : List Part → Bool
is_writable [] = true
is_writable (Char c ∷ parts) = is_writable parts
is_writable (One ∷ parts) = is_writable parts
is_writable (Run ∷ parts) = is_writable parts
is_writable (Dash ∷ parts) = false
is_writable (Hole name ∷ parts) = false

-- the parts in the words of LIKE and GLOB
abbrev pub sql_parts : List Part → List sql.Part
sql_parts [] = []
sql_parts (Char c ∷ parts) = Exactly c ∷ sql_parts parts
sql_parts (One ∷ parts) = AnyOne ∷ sql_parts parts
sql_parts (Run ∷ parts) = AnyRun ∷ sql_parts parts
sql_parts (Dash ∷ parts) = sql_parts parts
sql_parts (Hole name ∷ parts) = sql_parts parts
