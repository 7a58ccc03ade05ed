-- Each command is served by its clap command, and what the matches have.
use Rattle.std.proofs.Common.{◌≡◌, ◌∙◌, true, List, [], ◌++◌, Option, Some, None, refl, sym, ap, subst}
use Rattle.std.specs.Prelude.{option_map, option_and_then, slice_get, unwrap_or}
use Rattle.clap.specs.Walk.{first_of, all_of, rows_of}
use Rattle.clap.specs.Matches.{found_of}
use Rattle.clap.specs.Simple.{App, HasMatchesOf, is_simple, matches_of}
use Rattle.clap.specs.Takes.{takes}
use Rattle.clap.specs.declared.parser.matches.ArgMatches.{ArgMatches}
use Rattle.clap.proofs.WalkLemmas.{first_value-rows, raw_values-rows}
use Rattle.command_line.specs.declared.command_name.CommandName.{CommandName}
use Rattle.command_line.specs.declared.command_name.CommandName.TheVariants as commands
use Rattle.command_line.specs.Given.{Word, Item, Reads, value_of}
use Rattle.command_line.specs.Apps.{app_with, file_id}
use Rattle.command_line.specs.Matched.{HasItems}
use Rattle.command_line.specs.Table.{row_of, takes_names, IsGiven}
use Rattle.command_line.proofs.Apps.{IsServed, check_served, convert_served, run_served, query_served, correlate_served, generate_served}
use Rattle.command_line.proofs.Fresh.{new_row}
use Rattle.command_line.proofs.Taken.{read_by_clap, taken_by_clap}

pub served : (w : CommandName) → IsServed (row_of w)
served commands.Check = check_served
served commands.Convert = convert_served
served commands.Run = run_served
served commands.Query = query_served
served commands.Correlate = correlate_served
served commands.Generate = generate_served

pub takes_of : (w : CommandName) (a : App) (words : List Word) (items : List Item) → a ≡ app_with (row_of w) → IsGiven (row_of w) words items → takes a words ≡ true
takes_of w a words items is given = subst (λ (b : App). takes b words ≡ true) (sym is) (taken_by_clap (row_of w) words items (served w) given)

pub first_found : (x : Word) (o : Option Word) → option_and_then (λ r. slice_get r.values 0) (option_map (new_row x) o) ≡ o
first_found x None = refl
first_found x (Some v) = refl

pub has_items_of : (w : CommandName) (a : App) (words : List Word) (items : List Item) (m : ArgMatches) → a ≡ app_with (row_of w) → Reads ((row_of w).required ++ (row_of w).optional) (takes_names (row_of w).files) words items → HasMatchesOf a words m → HasItems m items
has_items_of w a words items m is reads has =
    let by = read_by_clap (row_of w) words items (served w) reads in
    let simple : is_simple a ≡ true = ap is_simple is ∙ (served w).simple in
    let rows : rows_of (found_of m) ≡ matches_of (app_with (row_of w)) words = (has simple).0 ∙ ap (λ (b : App). matches_of b words) is in
    record {
      values = λ x other. first_value-rows (found_of m) x ∙ (ap (first_of x) rows
          ∙ (ap (option_and_then (λ r. slice_get r.values 0)) (by.values x other) ∙ first_found x (value_of x items)));
      names = ap (λ (o : Option (List Word)). unwrap_or o []) (raw_values-rows (found_of m) file_id ∙ ap (all_of file_id) rows) ∙ by.names;
    }
