use Rattle.std.proofs.Common.{sym, ◌∙◌, ap}
use Rattle.std.proofs.lemmas.List.{length-map}
use Rattle.sql_lang.specs.View.{collate_view}
use Rattle.sql_scan.specs.View.{places_view}
use Rattle.sql_parse.specs.View.{leaf_view, literal_view, literals_view}
use Rattle.sql_read.proofs.Past.{behind_list}
use Rattle.sql_read.proofs.token_places.behind_test.Goals as goal

pub returns-in-OneOf : goal.returns-in-OneOf
returns-in-OneOf c =
    let b = c.in-OneOf in
    behind_list (leaf_view c.args.leaf.now) b.name (collate_view b.collate) b.negated (literals_view b.before.items) (literal_view b.last) c.collate_count-in-OneOf.result c.not_count-in-OneOf.result
    c.len.result c.len-in-OneOf.result (places_view c.args.places.now) (places_view c.behind-rest.result.now) (places_view c.behind-in-OneOf.result.now) (places_view c.behind-in-OneOf-2.result.now)
    (ap leaf_view b.is) c.collate_count-in-OneOf.ensures c.not_count-in-OneOf.ensures
    (c.len.ensures ∙ (b.before.ok.0 ∙ sym (length-map b.before.items literal_view))) (c.len-in-OneOf.ensures ∙ (b.before.ok.0 ∙ sym (length-map b.before.items literal_view)))
    c.behind-rest.ensures c.behind-in-OneOf.ensures c.behind-in-OneOf-2.ensures
