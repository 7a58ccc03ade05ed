use Rattle.std.proofs.Common.{rules, List, ◌≡◌, ◌++◌, subst, sym}
use Rattle.std.proofs.lemmas.Result.{IfOk-weaker}
use Rattle.std.specs.Str.{chars}
use Rattle.sig_strings.specs.Spells.{Spells}
use Rattle.sig_strings.specs.declared.part.Part.{Part}
use Rattle.sig_strings.proofs.ReadingLemmas.{reads_end, reads_more, reads_plain}
use Rattle.sig_strings.proofs.SpellsLemmas.{front_shorter}
use Rattle.sig_strings.proofs.pattern_text.read_parts.Goals as goal

pub loop-c-smaller-in-Some : goal.loop-c-smaller-in-Some
loop-c-smaller-in-Some c =
    front_shorter c.args.expand (chars c.loop-c.left.now) _ (chars c.in-Some.behind.now) (c.in-Some.ensures c.args.expand)

pub loop-c-preserved-in-Some : goal.loop-c-preserved-in-Some
loop-c-preserved-in-Some c = record {
  text = search rules;
  read = λ later spelled.
      subst (λ (parts : List Part). Spells c.args.expand (chars c.args.text.now) (parts ++ later)) (sym c.in_ok-push.ensures.items)
      (reads_plain c.args.expand (chars c.loop-c.left.now) (chars c.in-Some.behind.now) (chars c.args.text.now) _ c.loop-c.parts.items
      (c.in-Some.ensures c.args.expand) c.loop-c.invariant.read later spelled);
}

pub returns-in_default-2-clause-spelled : goal.returns-in_default-2-clause-spelled
returns-in_default-2-clause-spelled c =
    subst (λ (parts : List Part). Spells c.args.expand (chars c.args.text.now) parts) (sym c.of_parts.ensures)
    (reads_end c.args.expand (chars c.loop-c.left.now) (chars c.read_front-sign.result.1.now) (chars c.args.text.now) _ c.in_ok-part.field-0 c.loop-c.parts.items
    c.read_front-sign.ensures c.in_ok-part.ensures.ok c.in_default-2.is c.loop-c.invariant.read)

pub loop-c-preserved : goal.loop-c-preserved
loop-c-preserved c = record {
  text = search rules;
  read = λ later spelled.
      subst (λ (parts : List Part). Spells c.args.expand (chars c.args.text.now) (parts ++ later)) (sym c.in_ok-push-2.ensures.items)
      (reads_more c.args.expand (chars c.loop-c.left.now) (chars c.read_front-sign.result.1.now) (chars c.args.text.now) _ c.in_ok-part.field-0 c.in-Some-2.part c.loop-c.parts.items
      c.read_front-sign.ensures c.in_ok-part.ensures.ok c.in-Some-2.is c.loop-c.invariant.read later spelled);
}
