-- The clap command that the code makes of a row of the table.
use Rattle.std.specs.Prelude.{Bool, true, false, List, [], ◌∷◌, Some, codes}
use Rattle.clap.specs.Walk.{Rule}
use Rattle.clap.specs.Simple.{App, new_app, new_rule, with_rule, on_top}
use Rattle.clap.specs.declared.builder.action.ArgAction.TheVariants.{Set, Append}
use Rattle.command_line.specs.Given.{Word}
use Rattle.command_line.specs.Table.{Row, takes_names}

abbrev pub file_id : Word
file_id = codes "FILE"

abbrev pub option_arg : Word → Bool → Rule
option_arg x required = record (new_rule x) { long = Some x; action = Some Set; required = required }

abbrev pub file_arg : Rule
file_arg = record (new_rule file_id) { action = Some Append; required = true }

abbrev pub with_options : Bool → List Word → App → App
with_options required [] a = a
with_options required (x ∷ xs) a = with_options required xs (with_rule a (option_arg x required))

abbrev pub with_files : Bool → App → App
with_files false a = a
with_files true a = with_rule a file_arg

abbrev pub first_app : Word → App
first_app name = on_top (λ s. record s { no_binary_name = true; disable_help_flag = true; disable_version_flag = true }) (new_app name)

abbrev pub app_of_parts : Word → List Word → List Word → Bool → App
app_of_parts name required optional takes = with_files takes (with_options false optional (with_options true required (first_app name)))

abbrev pub app_with : Row → App
app_with row = app_of_parts row.name row.required row.optional (takes_names row.files)
