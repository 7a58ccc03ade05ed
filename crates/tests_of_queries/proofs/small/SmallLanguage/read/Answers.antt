use Rattle.std.proofs.Common.{◌≡◌, refl, ap, ◌∙◌, subst, chars, IfOk}
use Rattle.std.proofs.lemmas.Str.{is_utf8-from_IsUtf8}
use Rattle.std.specs.Str.{is_utf8}
use Rattle.query_lang.specs.Built.{SearchAnswers}
use Rattle.tests_of_queries.proofs.OnePattern.{start, read_text, read_nothing, not_utf8}
use Rattle.tests_of_queries.proofs.small.SmallLanguage.read.Goals as goal

pub returns-in_ok-text-in-Ok : goal.returns-in_ok-text-in-Ok
returns-in_ok-text-in-Ok g c =
    let is : c.in_ok-text-in-Ok.text ≡ chars c.args.bytes.now = c.in_ok-text-in-Ok.ensures.ok ∙ ap chars c.in-Ok.ensures.cases.0 in
    record {
      answers = read_text (chars c.args.bytes.now) (g.B.Builder.refused c.args.builder.now) (g.B.Builder.refused c.read.new.builder)
          (is_utf8 c.args.bytes.now) (is_utf8-from_IsUtf8 c.args.bytes.now c.in-Ok.ensures.cases.1) c.read.result
          (subst (λ t. IfOk c.read.result (λ s. s.text ≡ t)) is c.read.ensures.text)
          c.read.ensures.pattern
          (subst (λ t. SearchAnswers (g.B.Builder.refused c.args.builder.now) (g.B.Builder.refused c.read.new.builder) t start c.read.result) is c.read.ensures.refused);
    }

pub returns-in-Err : goal.returns-in-Err
returns-in-Err g c =
    rw c.refused.ensures (record {
      answers = read_nothing (chars c.args.bytes.now) (g.B.Builder.refused c.args.builder.now) (g.B.Builder.refused c.args.builder.now)
          (is_utf8 c.args.bytes.now) (not_utf8 c.args.bytes.now c.in-Err.ensures.cases.0) refl;
    })
