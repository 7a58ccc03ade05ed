use Rattle.std.proofs.Common.{ℕ, ◌≡◌, ◌++◌, ◌∙◌, List, [], sym, append-nil}
use Rattle.event_schema.specs.Rows.{first_values}
use Rattle.sql_lang.specs.Meaning.{sql_value}
use Rattle.sql_lang.specs.View.{expr_view}
use Rattle.sql_eval.specs.Searches.{left_of, patterns_in}
use Rattle.sql_eval.specs.View.{truth_view}
use Rattle.sql_eval.proofs.asked_queries.Asking.value.Goals as goal

pub returns-clause-value : goal.returns-clause-value
returns-clause-value c =
    let whole : left_of c.rewind.new.self ≡ patterns_in (expr_view c.args.self.now.condition.now) ++ []
    = c.rewind.ensures.left ∙ c.args.self.now.whole ∙ sym (append-nil (patterns_in (expr_view c.args.self.now.condition.now))) in
    let v : (truth_view c.expr_value.result ≡ sql_value (expr_view c.args.self.now.condition.now) (first_values c.args.event.now.values)) × (left_of c.expr_value.new.finders ≡ [])
    = c.expr_value.ensures.value [] whole in
    v.0
