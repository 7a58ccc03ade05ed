use Rattle.std.proofs.Common.{◌≡◌, ◌<◌, ◌+◌, ℕ, List, ◌∷◌, length, drop, get_or, ap, sym, ◌∙◌, arith}
use Rattle.std.proofs.lemmas.List.{at_drop_all, drop_more}
use Rattle.sig_conditions.specs.declared.word.Word.{Word}
use Rattle.sig_conditions.specs.Words.{nesting, nests}
use Rattle.sig_conditions.proofs.Complete.{nesting-cons, nesting-nil}
use Rattle.sig_conditions.proofs.condition_text.count_nesting.Goals as goal

nesting_at : (ws : List Word) (i : ℕ) (w : Word) → i < length ws → w ≡ get_or ws i w → nesting (drop i ws) ≡ nests w + nesting (drop (i + 1) ws)
nesting_at ws i w l e =
    ap nesting (drop_more ws i w l) ∙ (ap (λ (x : Word). nesting (x ∷ drop (i + 1) ws)) (sym e) ∙ nesting-cons w (drop (i + 1) ws))

pub loop-word-preserved : goal.loop-word-preserved
loop-word-preserved c = record {
  small = omega arith;
  sum = omega (arith, nesting_at c.args.words.now c.loop-word.word-index c.word-item.result c.loop-word-test.true c.word-item.is);
}

pub returns : goal.returns
returns c = omega (arith, at_drop_all nesting c.args.words.now c.loop-word.word-index c.loop-word-test.false, nesting-nil)
