use Rattle.lucene_layout.proofs.Laid.{too_deep_is_too_far, group_colons}
use Rattle.lucene_layout.proofs.laws.sizes_are_counted.Goals as goal

pub returns : goal.returns
returns c = record { opens = too_deep_is_too_far; clauses = group_colons }
