use Rattle.std.proofs.Common.{◌≡◌, ◌+◌, ◌-◌, ◌*◌, ◌/◌, ◌%◌, ◌∙◌, List, ℕ, length, take, drop, sym, ap, subst, arith}
use Rattle.std.proofs.lemmas.Result.{IfOk-weaker}
use Rattle.base64.specs.GeneralPurpose.{IsBytes, encode_of}
use Rattle.base64.specs.Engines.{standard}
use Rattle.sig_encode.specs.Pieces.{IsPiece}
use Rattle.sig_encode.proofs.Encoded.{shifted_size, is_piece}
use Rattle.sig_encode.proofs.base64_texts.offset_piece.Goals as goal

small_in : (c : goal.After-as_bytes) → IsBytes c.args.bytes.now
small_in c i = omega (arith, c.type_inv.bytes i)

text_is : (c : goal.After-as_bytes) → c.as_bytes.result.now ≡ encode_of standard c.in_ok-all.all.items
text_is c = c.as_bytes.ensures.value ∙ c.in_ok-text.ensures.text ∙ ap (λ (l : List ℕ). encode_of standard l) c.deref.ensures.value

size_is : (c : goal.After-as_bytes) → c.len-size.result ≡ length c.in_ok-all.all.items
size_is c = c.len-size.ensures ∙ c.in_ok-all.all.ok.0

pub cut-requires-clause-within : goal.cut-requires-clause-within
cut-requires-clause-within c =
    let size : length c.as_bytes.result.now ≡ 4 * ((length c.in_ok-all.all.items + 2) / 3) =
    shifted_size c.args.offset c.args.bytes.now c.in_ok-all.all.items c.as_bytes.result.now (small_in c) c.in_ok-all.ensures.ok (text_is c) in
    let n = size_is c in
    rw n (omega (arith, size))

pub returns-clause-ok : goal.returns-clause-ok
returns-clause-ok c =
    let end : ℕ = c.len-size.result / 3 * 4 + c.len-size.result % 3 * 4 / 3 in
    let n : c.len-size.result ≡ length c.in_ok-all.all.items = c.len-size.ensures ∙ c.in_ok-all.all.ok.0 in
    let en : end ≡ 4 * length c.in_ok-all.all.items / 3 = rw (sym n) (omega arith) in
    let text : c.as_bytes.result.now ≡ encode_of standard c.in_ok-all.all.items =
    c.as_bytes.ensures.value ∙ c.in_ok-text.ensures.text ∙ ap (λ (l : List ℕ). encode_of standard l) c.deref.ensures.value in
    IfOk-weaker c.cut.result _ (λ (piece : List ℕ). IsPiece c.args.offset c.args.bytes.now piece)
    (λ (piece : List ℕ) (e : piece ≡ take (end - (4 * c.args.offset + 2) / 3) (drop ((4 * c.args.offset + 2) / 3) c.as_bytes.result.now)).
    subst (λ (l : List ℕ). IsPiece c.args.offset c.args.bytes.now l) (sym e)
    (is_piece c.args.offset end c.args.bytes.now c.in_ok-all.all.items c.as_bytes.result.now (λ i. omega (arith, c.type_inv.bytes i)) c.requires.few
    c.in_ok-all.ensures.ok text en c.requires.some))
    c.cut.ensures.ok
