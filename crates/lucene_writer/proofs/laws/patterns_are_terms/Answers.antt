use Rattle.lucene_writer.proofs.Terms.{means, number_means}
use Rattle.lucene_writer.proofs.laws.patterns_are_terms.Goals as goal

pub returns : goal.returns
returns c = record { pattern = means; number = number_means }
