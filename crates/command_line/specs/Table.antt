-- The commands, and what each takes: the names of the options that it asks for and of those that it may have, and how many files.
use Rattle.std.specs.Prelude.{◌≡◌, Bool, true, false, List, [], ◌∷◌, ◌++◌, codes, is_some}
use Rattle.std.specs.List.{list_all}
use Rattle.command_line.specs.declared.command_name.Count.{Count}
use Rattle.command_line.specs.declared.command_name.Count.TheVariants.{NoName, OneName, SomeNames}
use Rattle.command_line.specs.declared.command_name.CommandName.{CommandName}
use Rattle.command_line.specs.declared.command_name.CommandName.TheVariants as commands
use Rattle.command_line.specs.Given.{Word, Item, Reads, value_of, names_of}

pub record Row : Type 0 where
  pub name : Word
  pub required : List Word
  pub optional : List Word
  pub files : Count

-- the options' names, without the hyphens
abbrev pub backend : Word
backend = codes "backend"

abbrev pub schema : Word
schema = codes "schema"

abbrev pub pipeline : Word
pipeline = codes "pipeline"

abbrev pub seed : Word
seed = codes "seed"

abbrev pub events : Word
events = codes "events"

-- a row for each command
abbrev pub check : Row
check = record { name = codes "check"; required = []; optional = []; files = SomeNames }

abbrev pub convert : Row
convert = record { name = codes "convert"; required = backend ∷ []; optional = schema ∷ pipeline ∷ []; files = SomeNames }

abbrev pub run : Row
run = record { name = codes "run"; required = []; optional = schema ∷ pipeline ∷ []; files = OneName }

abbrev pub query : Row
query = record { name = codes "query"; required = backend ∷ schema ∷ []; optional = []; files = OneName }

abbrev pub correlate : Row
correlate = record { name = codes "correlate"; required = schema ∷ []; optional = pipeline ∷ []; files = SomeNames }

abbrev pub generate : Row
generate = record { name = codes "generate"; required = seed ∷ events ∷ []; optional = []; files = NoName }

abbrev pub row_of : CommandName → Row
row_of commands.Check = check
row_of commands.Convert = convert
row_of commands.Run = run
row_of commands.Query = query
row_of commands.Correlate = correlate
row_of commands.Generate = generate

abbrev pub takes_names : Count → Bool
takes_names NoName = false
takes_names _ = true

abbrev pub are_enough : Count → List Word → Bool
are_enough NoName names = true
are_enough OneName (w ∷ []) = true
are_enough OneName names = false
are_enough SomeNames [] = false
are_enough SomeNames (w ∷ names) = true

-- the words behind the command's name give these items, with all that the command asks for
pub record IsGiven (row : Row) (words : List Word) (items : List Item) : Type 0 where
  pub reads : Reads (row.required ++ row.optional) (takes_names row.files) words items
  pub required : list_all (λ x. is_some (value_of x items)) row.required ≡ true
  pub enough : are_enough row.files (names_of items) ≡ true
