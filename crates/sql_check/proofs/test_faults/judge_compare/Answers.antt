use Rattle.std.proofs.Common.{◌∙◌, ap}
use Rattle.std.specs.Prelude.{◌+◌}
use Rattle.query_tokens.specs.Places.{nth}
use Rattle.sql_lang.specs.Faults.{right_faults}
use Rattle.sql_parse.specs.View.{right_view}
use Rattle.sql_lang.specs.View.{collate_view, op_view}
use Rattle.sql_scan.specs.View.{places_view}
use Rattle.sql_check.specs.Refused.{refusal_if, first_fault}
use Rattle.sql_check.proofs.Judged.{of_name, compare_same, first_here, first_behind}
use Rattle.sql_check.proofs.test_faults.judge_compare.Goals as goal

pub returns-in-Some : goal.returns-in-Some
returns-in-Some c =
    first_here _ _ c.in-Some.refusal
    (of_name c.args.columns.now c.args.name.now _ _ _ _ _ c.in-Some.ensures c.kind-kind.ensures
    (compare_same c.args.columns.now c.args.name.now (collate_view c.args.left) (op_view c.args.op) (right_view c.args.right.now) (collate_view c.args.collate) _ _ c.is_ill_compare-ill.ensures c.kind-kind.ensures))

pub returns : goal.returns
returns c =
    first_behind _ _ c.judge_right.result
    (of_name c.args.columns.now c.args.name.now _ _ _ _ _ c.in_default.ensures c.kind-kind.ensures
    (compare_same c.args.columns.now c.args.name.now (collate_view c.args.left) (op_view c.args.op) (right_view c.args.right.now) (collate_view c.args.collate) _ _ c.is_ill_compare-ill.ensures c.kind-kind.ensures))
    (c.judge_right.ensures
    ∙ ap (λ p. refusal_if (first_fault (right_faults c.args.columns.now (right_view c.args.right.now) p)))
    (c.place_at.ensures ∙ ap (λ k. nth (places_view c.args.places.now) (2 + k)) c.collate_count.ensures))
