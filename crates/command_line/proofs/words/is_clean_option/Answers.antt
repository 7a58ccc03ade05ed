use Rattle.std.proofs.Common.{Some, None, arith}
use Rattle.std.proofs.lemmas.Str.Pattern.{split_parts}
use Rattle.command_line.proofs.Exact.{clean_lacks, clean_at}
use Rattle.command_line.proofs.words.is_clean_option.Goals as goal

pub returns-in-Some : goal.returns-in-Some
returns-in-Some c =
    let parts = split_parts 61 c.args.text.now (Some c.in-Some.cut) c.in-Some.ensures.cases (omega arith) in
    clean_at c.args.text.now _ _ c.is_value.result c.is_value.ensures parts.0 parts.1

pub returns-in-None : goal.returns-in-None
returns-in-None c = clean_lacks c.args.text.now (split_parts 61 c.args.text.now None c.in-None.ensures.cases (omega arith))
