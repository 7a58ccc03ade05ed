use Rattle.std.proofs.Common.{◌-◌, sym, ◌∙◌, arith}
use Rattle.yaml_inline.proofs.Fronts.{trimmed_end, trimmed_none}
use Rattle.yaml_inline.proofs.plain.trimmed.Goals as goal
use Rattle.yaml_inline.proofs.plain.trimmed.Goals.{then-loop-end-test+else-is_blank, else-loop-end-test}

pub returns-clause-front : goal.returns-clause-front
returns-clause-front c =
    let l = c.loop-end in
    c.split_at.ensures.front
    ∙ elim c.loop-end-test.branch [
      | then-loop-end-test+else-is_blank w ↦
          trimmed_end c.args.all.now l.end (l.end - 1) w.index-all-end.result c.args.all.now (omega arith) (omega arith) w.index-all-end.is (sym w.is_blank.ensures ∙ w.if-is_blank.false) l.invariant.1
      | else-loop-end-test w ↦ trimmed_none c.args.all.now l.end c.args.all.now (omega arith) l.invariant.1
    ]
