use Rattle.std.proofs.Common.{rules, arith, ◌≡◌, ◌≤◌, ◌+◌, ◌++◌, ◌∷◌, [], List, length, subst, sym}
use Rattle.correlation_run.proofs.Judged.{push_next, take_all}
use Rattle.correlation_run.specs.Judges.{AreJudges}
use Rattle.detection_eval.specs.Ready.{StandsFor, JudgesFor}
use Rattle.detection_eval.specs.declared.judge.Judge.{Judge}
use Rattle.rule_model.specs.Plain.{PlainRule}
use Rattle.std.proofs.Common.{take}
use Rattle.correlation_run.proofs.judges.judges_of.Goals as goal

pub loop-kept-preserved : goal.loop-kept-preserved
loop-kept-preserved c = λ fields all are.
    let pushed : c.push.new.self.items ≡ c.loop-kept.judges.items ++ c.in_ok-judge.field-0 ∷ [] = search rules in
    subst (λ (l : List Judge). AreJudges fields (take (c.loop-kept.kept-index + 1) all) l) (sym pushed)
    (push_next (λ rule kept. StandsFor fields rule kept) (λ rule judge. JudgesFor fields rule judge) c.kept-item.result c.in_ok-judge.field-0 (λ rule stands. c.in_ok-judge.ensures.ok fields rule stands)
    all c.args.ready.now c.loop-kept.judges.items c.loop-kept.kept-index are c.loop-kept-test.true c.kept-item.is (c.loop-kept.invariant fields all are))

pub returns-clause-ok : goal.returns-clause-ok
returns-clause-ok c = λ fields all are.
    let end : length c.args.ready.now ≤ c.loop-kept.kept-index = search (rules, arith, c.loop-kept-test.false) in
    subst (λ (l : List PlainRule). AreJudges fields l c.loop-kept.judges.items) (take_all (λ rule kept. StandsFor fields rule kept) all c.args.ready.now c.loop-kept.kept-index are end)
    (c.loop-kept.invariant fields all are)
