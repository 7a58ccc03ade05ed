use Rattle.std.proofs.Common.{ap, ◌∙◌}
use Rattle.std.specs.Str.{bytes_eq}
use Rattle.sig_base.proofs.TextLemmas.{ascii_chars, same_texts}
use Rattle.sig_base.proofs.text.Text.is.Goals as goal

pub returns-clause-same : goal.returns-clause-same
returns-clause-same c =
    same_texts c.eq.result c.args.self.now c.as_str.result.now c.args.text.now c.as_str.utf8 c.utf8.text c.eq.ensures c.as_str.ensures.chars

pub returns-clause-ascii : goal.returns-clause-ascii
returns-clause-ascii c ascii =
    same_texts c.eq.result c.args.self.now c.as_str.result.now c.args.text.now c.as_str.utf8 c.utf8.text c.eq.ensures c.as_str.ensures.chars
    ∙ ap (λ other. bytes_eq c.args.self.now other) (ascii_chars c.args.text.now ascii)
