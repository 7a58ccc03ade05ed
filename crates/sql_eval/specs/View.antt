-- The plain data of the evaluator's own values.
use Rattle.std.specs.Prelude.{Option, Some, None}
use Rattle.std.specs.Str.{chars}
use Rattle.event_schema.specs.declared.value.Value.{Value}
use Rattle.event_schema.specs.declared.value.Value.TheVariants as values
use Rattle.sql_lang.specs.Meaning as meaning
use Rattle.sql_eval.specs.declared.truth.Truth.{Truth}
use Rattle.sql_eval.specs.declared.truth.Truth.TheVariants as truths
use Rattle.sql_eval.specs.declared.seen.Seen.{Seen}
use Rattle.sql_eval.specs.declared.seen.Seen.TheVariants as seen

abbrev pub truth_view : Truth → meaning.Truth
truth_view truths.Yes = meaning.Yes
truth_view truths.No = meaning.No
truth_view truths.Unknown = meaning.Unknown

abbrev pub seen_view : Seen → Value
seen_view (seen.Text t) = values.Text (chars t.now)
seen_view (seen.Whole n) = values.Whole n

abbrev pub seen_option_view : Option Seen → Option Value
seen_option_view None = None
seen_option_view (Some s) = Some (seen_view s)
