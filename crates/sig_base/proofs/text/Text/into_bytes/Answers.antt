use Rattle.std.proofs.Common.{sym, ap, ◌∙◌, encode_utf8_all}
use Rattle.std.proofs.lemmas.Str.{encodes-chars, IsUtf8-string_bytes}
use Rattle.sig_base.proofs.text.Text.into_bytes.Goals as goal

pub returns : goal.returns
returns c =
    ap (λ v. v.items) c.into_bytes.ensures.value ∙ (sym (encodes-chars _ (IsUtf8-string_bytes c.self.inside.inner)) ∙ ap encode_utf8_all c.self.view_is)
