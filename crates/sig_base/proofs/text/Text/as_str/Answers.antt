use Rattle.std.proofs.Common.{sym, ap, ◌∙◌, encode_utf8_all}
use Rattle.std.specs.Str.{all_scalars}
use Rattle.std.proofs.lemmas.Str.{encodes-chars, scalars-chars, IsUtf8-string_bytes}
use Rattle.sig_base.proofs.text.Text.as_str.Goals as goal

pub returns-clause-bytes : goal.returns-clause-bytes
returns-clause-bytes c =
    c.as_str.ensures.value ∙ (sym (encodes-chars _ (IsUtf8-string_bytes c.self.inside.inner)) ∙ ap encode_utf8_all c.self.view_is)

pub returns-clause-scalars : goal.returns-clause-scalars
returns-clause-scalars c =
    sym (ap all_scalars c.self.view_is) ∙ scalars-chars _ (IsUtf8-string_bytes c.self.inside.inner)
