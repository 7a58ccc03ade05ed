use Rattle.std.proofs.Common.{arith}
use Rattle.std.proofs.lemmas.Str.Pattern.{split_once_first}
use Rattle.sig_encode.proofs.SlashLemmas.{cut_is}
use Rattle.sig_encode.proofs.network_text.cut.Goals as goal

pub returns : goal.returns
returns c =
    cut_is c.args.text.now c.split_once.result c.utf8.text
    (split_once_first 47 c.args.text.now c.split_once.result c.split_once.ensures.cases (omega arith))
