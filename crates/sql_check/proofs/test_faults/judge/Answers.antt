use Rattle.std.proofs.Common.{◌≡◌, ◌∙◌, ap, sym, subst, [], ◌∷◌, ◌++◌}
use Rattle.std.specs.Prelude.{◌||◌}
use Rattle.std.specs.List.{list_any}
use Rattle.query_tokens.specs.Places.{nth}
use Rattle.sql_lang.specs.Faults.{test_faults, name_faults, is_ill_left, is_ill_literal}
use Rattle.sql_parse.specs.View.{leaf_view, literal_view, literals_view}
use Rattle.sql_lang.specs.View.{collate_view}
use Rattle.sql_scan.specs.View.{places_view}
use Rattle.sql_check.specs.Refused.{refusal_if, first_fault}
use Rattle.sql_check.proofs.test_faults.judge.Goals as goal

pub returns-in-OneOf : goal.returns-in-OneOf
returns-in-OneOf c =
    let fields = c.args.columns.now in
    let name = c.in-OneOf.name in
    subst (λ leaf. c.judge_list.result ≡ refusal_if (first_fault (test_faults fields [] (leaf_view leaf) (places_view c.args.places.now)))) (sym c.in-OneOf.is)
    (c.judge_list.ensures
    ∙ ap (λ ls. refusal_if (first_fault (name_faults fields name (is_ill_left fields name (collate_view c.in-OneOf.collate)
    || list_any (is_ill_literal fields name) (literals_view ls ++ literal_view c.in-OneOf.last ∷ [])) (nth (places_view c.args.places.now) 0)))) c.deref.ensures.value)
