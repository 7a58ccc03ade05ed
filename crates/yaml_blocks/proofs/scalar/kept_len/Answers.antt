use Rattle.std.proofs.Common.{◌-◌, sym, ◌∙◌, arith}
use Rattle.yaml_blocks.proofs.Folds.{kept_turn, kept_end}
use Rattle.yaml_blocks.proofs.scalar.kept_len.Goals as goal

pub loop-end-preserved : goal.loop-end-preserved
loop-end-preserved c =
    let l = c.loop-end in
    (omega arith, kept_turn c.args.texts.now l.end (l.end - 1) _ _ (omega arith) (omega arith) (sym c.is_empty.ensures ∙ c.if-is_empty.true) l.invariant.1)

pub returns-else-is_empty-clause-kept : goal.returns-else-is_empty-clause-kept
returns-else-is_empty-clause-kept c =
    let l = c.loop-end in
    kept_end c.args.texts.now l.end (l.end - 1) _ _ (omega arith) (omega arith) (sym c.is_empty.ensures ∙ c.if-is_empty.false) l.invariant.1
