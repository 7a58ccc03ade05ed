use Rattle.std.proofs.Common.{◌≡◌, ◌∙◌, Option, ap}
use Rattle.event_schema.specs.declared.value.Value.{Value}
use Rattle.query_lang.specs.Patterns.{finds}
use Rattle.sql_lang.specs.Meaning.{negated_if, on_text}
use Rattle.sql_eval.specs.Searches.{left_of}
use Rattle.sql_eval.specs.View.{truth_view, seen_option_view}
use Rattle.sql_eval.proofs.test_values.test_value.Goals as goal

pub returns-in-Regexp-clause-value : goal.returns-in-Regexp-clause-value
returns-in-Regexp-clause-value c = rw c.in-Regexp.is (λ rest e.
    let v : (truth_view c.search_value.result ≡ on_text (finds c.in-Regexp.search.value.text) (seen_option_view c.column-in-Regexp.result)) × (left_of c.search_value.new.finders ≡ rest)
    = c.search_value.ensures.value c.in-Regexp.search.value.text rest e in
    (c.negated_if-in-Regexp.ensures ∙ ap (negated_if c.in-Regexp.negated) (v.0 ∙ ap (λ (o : Option Value). on_text (finds c.in-Regexp.search.value.text) o) c.column-in-Regexp.ensures), v.1))
