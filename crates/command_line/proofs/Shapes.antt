-- The clap command of options and names, as clap's specs see it once it's built.
use Rattle.std.proofs.Common.{◌≡◌, Bool, true, false, List, [], ◌∷◌, Some, None}
use Rattle.std.specs.Str.{bytes_eq}
use Rattle.clap.specs.Lexer.{long_of}
use Rattle.clap.specs.Walk.{Held, Rule, Row, Waiting, idle, positional, Walk, arg_by_id, arg_by_index, arg_by_long, used}
use Rattle.clap.specs.Simple.{Shape, new_rule, new_shape}
use Rattle.clap.specs.declared.builder.action.ArgAction.TheVariants.{Set, Append}
use Rattle.clap.specs.declared.builder.value_parser.ValueParser.TheVariants as vp
pub use Rattle.command_line.specs.Apps.{file_id}
use Rattle.command_line.specs.Given.{Word, Item, named, file, dashed, joined, is_among}

abbrev pub option_rule : Word → Bool → Rule
option_rule x required = record (new_rule x) {
  long = Some x;
  action = Some Set;
  range = Some (record { start_inclusive = 1; end_inclusive = 1 });
  parser = Some vp.String;
  required = required;
}

abbrev pub file_rule : Rule
file_rule = record (new_rule file_id) {
  index = Some 1;
  action = Some Append;
  range = Some (record { start_inclusive = 1; end_inclusive = 1 });
  parser = Some vp.String;
  required = true;
}

abbrev pub shape_with : Word → List Rule → Shape
shape_with name rules = record (new_shape name) {
  rules = rules;
  no_binary_name = true;
  disable_help_flag = true;
  disable_help_subcommand = true;
  disable_version_flag = true;
  is_built = true;
}

-- what is known of an option's name by itself
pub record IsName (x : Word) : Type 0 where
  pub alone : long_of (dashed x) ≡ Some (x, None)
  pub both : (v : Word) → long_of (joined x v) ≡ Some (x, Some v)
  pub no_end : bytes_eq (dashed x) (dashed []) ≡ false
  pub no_end_both : (v : Word) → bytes_eq (joined x v) (dashed []) ≡ false
  pub same : bytes_eq x x ≡ true
  pub other : bytes_eq file_id x ≡ false
  pub other_way : bytes_eq x file_id ≡ false

-- and among the rules
pub record IsOption (rules : List Rule) (x : Word) : Type 0 where
  pub required : Bool
  pub by_long : arg_by_long rules x ≡ Some (option_rule x required)
  pub by_id : arg_by_id rules x ≡ Some (option_rule x required)
  pub name : IsName x

pub record HasFiles (rules : List Rule) : Type 0 where
  pub by_index : arg_by_index rules 1 ≡ Some file_rule
  pub by_id : arg_by_id rules file_id ≡ Some file_rule

-- the rules serve for these options and for names
pub record Serves (rules : List Rule) (options : List Word) (takes : Bool) : Type 0 where
  pub option : (x : Word) → is_among x options ≡ true → IsOption rules x
  pub files : takes ≡ true → HasFiles rules

abbrev pub row_step : List Row → Item → List Row
row_step rows (named x v) = used (option_rule x false) (v ∷ []) rows
row_step rows (file w) = used file_rule (w ∷ []) rows

abbrev pub rows_from : List Row → List Item → List Row
rows_from rows [] = rows
rows_from rows (i ∷ is) = rows_from (row_step rows i) is

abbrev pub at : Held → Waiting → Bool → Walk
at h waiting trailing = record { held = h; waiting = waiting; position = 1; is_trailing = trailing; stopped = None }

pub data IsFree : Waiting → Type 0 where
  is_idle : IsFree idle
  is_positional : IsFree positional
