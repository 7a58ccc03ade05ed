use Rattle.sqlite_writer.specs.Guarded.{sql_tree}
use Rattle.std.proofs.Common.{true, false}
use Rattle.backend_core.specs.Holds.{TreeHolds}
use Rattle.event_schema.specs.Rows.{first_values}
use Rattle.sqlite_writer.specs.Lacking.{sqlite_lacks}
use Rattle.sql_layout.specs.Trees.{tree_value}
use Rattle.sqlite_writer.proofs.PolarityLemmas.{tree_even, tree_odd, even_yes, odd_no}
use Rattle.sqlite_writer.proofs.LeafMeans.{leaf_even, leaf_odd}
use Rattle.sqlite_writer.proofs.laws.polarity.Goals as goal

pub returns-clause-even : goal.returns-clause-even
returns-clause-even c = λ schema t row found sound none event.
    let fields = schema.fields in
    let like_is = c.like_means.ensures in
    let glob_is = c.glob_means.ensures in
    let cased_is = c.plain_fits.ensures.cased in
    let folded_is = c.plain_fits.ensures.folded in
    let number_is = c.leaves_are_read.ensures.number in
    even_yes (tree_value fields (first_values row) (sql_tree fields false t)) (TreeHolds row t)
    (tree_even fields (sqlite_lacks fields) (first_values row) row
    (leaf_even like_is glob_is cased_is folded_is number_is fields row event found.found)
    (leaf_odd like_is glob_is cased_is folded_is number_is fields row event found.found) t sound none)

pub returns-clause-odd : goal.returns-clause-odd
returns-clause-odd c = λ schema t row found sound none event.
    let fields = schema.fields in
    let like_is = c.like_means.ensures in
    let glob_is = c.glob_means.ensures in
    let cased_is = c.plain_fits.ensures.cased in
    let folded_is = c.plain_fits.ensures.folded in
    let number_is = c.leaves_are_read.ensures.number in
    odd_no (tree_value fields (first_values row) (sql_tree fields true t)) (TreeHolds row t)
    (tree_odd fields (sqlite_lacks fields) (first_values row) row
    (leaf_even like_is glob_is cased_is folded_is number_is fields row event found.found)
    (leaf_odd like_is glob_is cased_is folded_is number_is fields row event found.found) t sound none)
