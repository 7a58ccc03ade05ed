use Rattle.std.proofs.Common.{◌≡◌, ◌++◌, List, append-nil, ap, map, sym, ◌∙◌, to_z-of_z}
use Rattle.std.specs.Fmt.{signed_decimal}
use Rattle.std.specs.Str.{chars}
use Rattle.std.proofs.lemmas.Result.{IfOk-weaker}
use Rattle.std.proofs.lemmas.Str.{chars-nil}
use Rattle.sig_strings.specs.declared.part.Part.{Part}
use Rattle.sig_strings.specs.declared.part.Part.TheVariants.{Char}
use Rattle.rule_lowering.proofs.leaf_tests.decimal_pattern.Goals as goal

pub returns-clause-ok : goal.returns-clause-ok
returns-clause-ok c =
    let parts = c.loop-c.parts.items in
    let all : parts ≡ map Char (signed_decimal c.args.number) =
    sym (append-nil parts) ∙ (sym (ap (λ t. parts ++ map Char t) (ap chars c.in_default.ensures ∙ chars-nil)) ∙ (c.loop-c.invariant.all ∙ ap (λ n. map Char (signed_decimal n)) (to_z-of_z c.ranges.number))) in
    IfOk-weaker c.share.result _ (λ (p : List Part). p ≡ map Char (signed_decimal c.args.number)) (λ p is. is ∙ (c.of_parts.ensures ∙ all)) c.share.ensures.ok
