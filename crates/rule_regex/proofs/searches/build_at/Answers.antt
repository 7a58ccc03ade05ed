use Rattle.std.proofs.Common.{ℕ, ◌≡◌, List, true, subst}
use Rattle.query_lang.specs.Patterns.{is_pattern}
use Rattle.query_lang.specs.declared.search.Search.{Search}
use Rattle.rule_detections.specs.declared.expression.Expression.{Expression}
use Rattle.rule_regex.proofs.BuiltRows.{is_refused}
use Rattle.rule_regex.proofs.searches.build_at.Goals as goal

pub returns-in-Ok : goal.returns-in-Ok
returns-in-Ok g c = (
  c.in-Ok.ensures.refused,
  (subst (λ (t : List ℕ). is_pattern t ≡ true) c.in-Ok.ensures.text c.in-Ok.ensures.pattern, tt),
  c.in-Ok.ensures.text,
)

pub returns-in-Err-Memory : goal.returns-in-Err-Memory
returns-in-Err-Memory g c = let told = rw c.in-Err-Memory.field-0-is at c.in-Err-Memory.ensures in told.refused

pub returns-in-Err-Syntax : goal.returns-in-Err-Syntax
returns-in-Err-Syntax g c =
    let e : Expression = record { place = c.args.place; text = c.args.text } in
    let told = rw c.in-Err-Syntax.field-0-is at c.in-Err-Syntax.ensures in
    is_refused (λ (search : Search). search.text ≡ c.args.text) e _ _ c.refused.result c.refused.ensures told.refused.0

pub returns-in-Err-Refused : goal.returns-in-Err-Refused
returns-in-Err-Refused g c =
    let e : Expression = record { place = c.args.place; text = c.args.text } in
    let told = rw c.in-Err-Refused.field-0-is at c.in-Err-Refused.ensures in
    is_refused (λ (search : Search). search.text ≡ c.args.text) e _ _ c.refused-in-Err-Refused.result c.refused-in-Err-Refused.ensures told.refused
