use Rattle.std.proofs.Common.{◌≡◌, ◌≤◌, List, ℕ, IfOk, Vec, Result, Ok, Err, length, vec_len, subst, sym}
use Rattle.std.specs.Vec.{vec_items}
use Rattle.std.specs.Str.{IsUtf8, chars}
use Rattle.std.proofs.lemmas.Iterator.{YieldsList-from_chars, items_from_collect}
use Rattle.yaml_documents.specs.Call.{IsText}
use Rattle.yaml_documents.proofs.Utf8.{text_of_chars, text_within}
use Rattle.yaml_documents.proofs.text.decoded.Goals as goal

collected : {Z E : Type 0} (bytes : List ℕ) (r : Result (Vec ℕ Z) E) → IsUtf8 bytes → IfOk r (λ v. vec_items v ≡ chars bytes) → IfOk r (λ v. IsText bytes v.items)
collected bytes (Ok v) utf8 e = text_of_chars bytes v.items utf8 e
collected bytes (Err x) utf8 e = tt

few_of : {Z E : Type 0} (bytes : List ℕ) (r : Result (Vec ℕ Z) E) → IfOk r (λ v. IsText bytes v.items) → IfOk r (λ v. vec_len v ≤ length bytes)
few_of bytes (Ok v) text = subst (λ (n : ℕ). n ≤ length bytes) (sym v.ok.0) (text_within bytes v.items text)
few_of bytes (Err x) text = tt

abbrev text_of : goal.returns-clause-text
text_of c =
    collected c.args.text.now c.collect.result c.utf8.text
    (items_from_collect _ c.collect.ensures.ran (YieldsList-from_chars c.args.text.now c.utf8.text c.chars.ensures.rest))

pub returns-clause-text : goal.returns-clause-text
returns-clause-text c = text_of c

pub returns-clause-few : goal.returns-clause-few
returns-clause-few c = few_of c.args.text.now c.collect.result (text_of c)
