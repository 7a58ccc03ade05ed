use Rattle.std.proofs.lemmas.Str.{IsUtf8-string_bytes}
use Rattle.sig_base.proofs.TextLemmas.{pushed}
use Rattle.sig_base.proofs.text.Text.push.Goals as goal

pub returns-clause-ok : goal.returns-clause-ok
returns-clause-ok c =
    pushed c.push.result c.args.self.now _ _ c.args.c (IsUtf8-string_bytes c.self.inside.inner) c.ranges.c.0 c.self.view_is c.push.ensures.bytes
