use Rattle.std.proofs.Common.{◌≡◌, ℕ, List, Bool, sym, ◌∙◌, ap, to_z-of_z}
use Rattle.std.specs.Prelude.{◌↔◌, IsTrue}
use Rattle.std.specs.Fmt.{signed_decimal}
use Rattle.std.specs.Str.{chars, bytes_eq, IsUtf8}
use Rattle.std.proofs.lemmas.Slice.Eq.{bytes_eq-Decides}
use Rattle.sig_base.proofs.TextLemmas.{bytes_eq-chars}
use Rattle.event_schema.proofs.value.is_decimal.Goals as goal

-- two texts have the same bytes exactly where they have the same characters
same_text : (r : Bool) (text own wanted : List ℕ) → IsUtf8 text → IsUtf8 own → r ≡ bytes_eq text own → chars own ≡ wanted
    → IsTrue r ↔ (chars text ≡ wanted)
same_text r text own wanted first second is view =
    let same = bytes_eq-Decides (chars text) (chars own) in
    let read : r ≡ bytes_eq (chars text) (chars own) = is ∙ bytes_eq-chars text own first second in
    ((λ h. same.0 (sym read ∙ h) ∙ view), (λ h. read ∙ same.1 (h ∙ sym view)))

pub returns : goal.returns
returns c =
    same_text c.eq.result c.args.text.now c.decimal_in.result.now (signed_decimal c.args.number) c.utf8.text c.decimal_in.utf8
    c.eq.ensures (c.decimal_in.ensures ∙ ap signed_decimal (to_z-of_z c.ranges.number))
