use Rattle.std.proofs.Common.{ℕ, Bool, List, ◌≡◌, ◌∙◌, ap}
use Rattle.std.specs.Str.{chars}
use Rattle.query_lang.specs.Patterns.{finds}
use Rattle.sql_lang.specs.Meaning.{truth}
use Rattle.sql_eval.specs.Searches.{left_of}
use Rattle.sql_eval.proofs.test_values.search_value.Goals as goal

pub returns-clause-value : goal.returns-clause-value
returns-clause-value c = λ text rest e.
    let found : (c.finds.result ≡ finds text (chars c.text_in.result.now)) × (left_of c.finds.new.self ≡ rest) = c.finds.ensures.found text rest e in
    rw c.in-Some.is (c.truth_of.ensures ∙ ap truth (found.0 ∙ ap (finds text) c.text_in.ensures), found.1)
