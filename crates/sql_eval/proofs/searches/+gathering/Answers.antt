use Rattle.std.proofs.Common.{ℕ, ◌≡◌, ◌+◌, ◌∷◌, ◌++◌, [], List, drop, subst}
use Rattle.sql_lang.specs.declared.query.Expr.{Expr}
use Rattle.sql_lang.specs.View.{expr_view, exprs_view}
use Rattle.sql_eval.specs.Searches.{patterns_in, all_patterns}
use Rattle.sql_eval.proofs.Valued.{never, from_here, first_none, rest_none, gathered_more}
use Rattle.sql_eval.proofs.searches.+gathering.Goals as goal

pub gather_all-returns-in_err-gather-clause-free : goal.gather_all-returns-in_err-gather-clause-free
gather_all-returns-in_err-gather-clause-free t c = λ none.
    absurd (never (c.in_err-gather.ensures.free (first_none (patterns_in (expr_view c.part-item.result)) (all_patterns (exprs_view (drop (c.loop-part.part-index + 1) c.args.parts.now)))
    (subst (λ (es : List Expr). all_patterns (exprs_view es) ≡ []) (from_here c.args.parts.now c.loop-part.part-index c.part-item.result c.loop-part-test.true c.part-item.is)
    (c.loop-part.invariant.free none)))))

pub gather_all-loop-part-preserved : goal.gather_all-loop-part-preserved
gather_all-loop-part-preserved t c =
    let here : drop c.loop-part.part-index c.args.parts.now ≡ c.part-item.result ∷ drop (c.loop-part.part-index + 1) c.args.parts.now
    = from_here c.args.parts.now c.loop-part.part-index c.part-item.result c.loop-part-test.true c.part-item.is in
    record {
      ran = gathered_more c.loop-part.finders.texts c.gather.new.finders.texts (patterns_in (expr_view c.part-item.result))
          (all_patterns (exprs_view (drop (c.loop-part.part-index + 1) c.args.parts.now))) _ c.in_ok-gather.ensures.ok
          (subst (λ (es : List Expr). c.loop-part.finders.texts ++ all_patterns (exprs_view es) ≡ c.args.finders.now.texts ++ all_patterns (exprs_view c.args.parts.now)) here c.loop-part.invariant.ran);
      free = λ none. rest_none (patterns_in (expr_view c.part-item.result)) _ (subst (λ (es : List Expr). all_patterns (exprs_view es) ≡ []) here (c.loop-part.invariant.free none));
    }
