use Rattle.std.proofs.Common.{◌≡◌, ap, ◌∙◌, sym, length, take, subst, arith, ℕ}
use Rattle.std.specs.Str.{IsValidUpTo}
use Rattle.yaml_tree.specs.Tree.{At}
use Rattle.yaml_documents.specs.Call.{place_behind}
use Rattle.yaml_documents.proofs.Refusals.{refused_as}
use Rattle.yaml_documents.proofs.Utf8.{bad_bytes, ascii_text}
use Rattle.yaml_documents.proofs.text.characters.Goals as goal

pub place_behind-requires : goal.place_behind-requires
place_behind-requires c =
    let few = c.in_ok-front-in-Err.ensures.few in
    omega (arith, few, ap length c.as_text.ensures, c.as_slice.ensures.len)

pub returns-in_ok-front-in-Err-clause-refused : goal.returns-in_ok-front-in-Err-clause-refused
returns-in_ok-front-in-Err-clause-refused c =
    let n = c.valid_up_to.result in
    let longest : IsValidUpTo c.args.bytes.now n = subst (λ (k : ℕ). IsValidUpTo c.args.bytes.now k) (sym c.valid_up_to.ensures) c.in-Err.ensures.cases.1 in
    let good : c.as_text.result.now ≡ take n c.args.bytes.now = c.as_text.ensures ∙ c.split_at.ensures.front in
    refused_as c.refused-in-Err.result _ _ c.refused-in-Err.ensures
    (λ p e. bad_bytes c.args.file_bytes n c.args.bytes.now c.as_text.result.now c.in_ok-front-in-Err.front.items p (omega arith) longest good c.in_ok-front-in-Err.ensures.text
    (e ∙ ap (λ (a : At). (1, a)) (c.place_behind.ensures ∙ ap place_behind c.as_slice.ensures.value)))

pub returns-then-is_ascii-clause-text : goal.returns-then-is_ascii-clause-text
returns-then-is_ascii-clause-text c =
    ascii_text c.args.bytes.now c.in_ok-widened.field-0.items c.if-is_ascii.ensures.cases c.in_ok-widened.ensures.items
