-- What clap's matches have (the reader's own steps).
use Rattle.std.specs.Prelude.{◌≡◌, true, false, List, [], ◌++◌, unwrap_or, option_map, is_some}
use Rattle.std.specs.List.{list_all}
use Rattle.std.specs.Str.{bytes_eq}
use Rattle.clap.specs.Matches.{found_of, first_value, matched_of, raw_values}
use Rattle.clap.specs.declared.parser.matches.ArgMatches.{ArgMatches}
use Rattle.command_line.specs.Given.{Word, Item, Reads, value_of, names_of}
use Rattle.command_line.specs.Table.{Row, takes_names}
use Rattle.command_line.specs.Apps.{file_id}

-- the matches have the value of each option, and the names
pub record HasItems (m : ArgMatches) (items : List Item) : Type 0 where
  pub values : (x : Word) → bytes_eq file_id x ≡ false → first_value (found_of m) x ≡ value_of x items
  pub names : unwrap_or (option_map raw_values (matched_of (found_of m) file_id)) [] ≡ names_of items

-- the words give these items, however many files they name
pub record IsRead (row : Row) (words : List Word) (items : List Item) : Type 0 where
  pub reads : Reads (row.required ++ row.optional) (takes_names row.files) words items
  pub required : list_all (λ x. is_some (value_of x items)) row.required ≡ true
