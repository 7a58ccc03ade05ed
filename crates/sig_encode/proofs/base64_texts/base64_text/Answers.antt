use Rattle.std.proofs.Common.{◌∙◌, List, ℕ, sym, ap, subst, arith}
use Rattle.std.specs.Str.{chars}
use Rattle.std.proofs.lemmas.Str.{chars-IsAscii}
use Rattle.base64.specs.Engines.{standard}
use Rattle.base64.proofs.EngineFacts.{IsAscii-encode_of}
use Rattle.sig_encode.specs.Base64.{IsBase64}
use Rattle.sig_encode.proofs.Encoded.{encoded}
use Rattle.sig_encode.proofs.base64_texts.base64_text.Goals as goal

pub returns-clause-ok : goal.returns-clause-ok
returns-clause-ok c =
    let e = ap chars c.in_ok-encode.ensures.text ∙ chars-IsAscii _ (IsAscii-encode_of standard c.args.bytes.now) in
    subst (λ (t : List ℕ). IsBase64 c.args.bytes.now t) (sym (c.from_string.ensures ∙ e))
    (encoded c.args.bytes.now (λ i. omega (arith, c.type_inv.bytes i)))
