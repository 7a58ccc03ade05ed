use Rattle.std.proofs.lemmas.Str.{IsUtf8-string_bytes}
use Rattle.sig_base.proofs.TextLemmas.{joined, joined_ascii}
use Rattle.sig_base.proofs.text.Text.push_str.Goals as goal

pub returns-clause-ok : goal.returns-clause-ok
returns-clause-ok c =
    joined c.push_str.result c.args.self.now _ _ c.args.more.now (IsUtf8-string_bytes c.self.inside.inner) c.self.view_is c.push_str.ensures.bytes

pub returns-clause-ascii : goal.returns-clause-ascii
returns-clause-ascii c =
    joined_ascii c.push_str.result c.args.self.now _ _ c.args.more.now (IsUtf8-string_bytes c.self.inside.inner) c.self.view_is c.push_str.ensures.bytes
