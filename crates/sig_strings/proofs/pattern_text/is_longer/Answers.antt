use Rattle.std.proofs.Common.{sym}
use Rattle.sig_strings.proofs.ReadingLemmas.{no_longer}
use Rattle.sig_strings.proofs.pattern_text.is_longer.Goals as goal

pub returns-then-text-most : goal.returns-then-text-most
returns-then-text-most c = sym (no_longer c.args.most c.args.text.now (search) c.if-text-most.true)
