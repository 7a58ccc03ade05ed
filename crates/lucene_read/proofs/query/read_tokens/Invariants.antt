use Rattle.lucene_read.specs.View.{place_view, state_view}
use Rattle.lucene_read.proofs.Stepped.{Decides}
use Rattle.lucene_read.proofs.query.read_tokens.Given as goal

abbrev pub invariant-loop-token : goal.invariant-loop-token
invariant-loop-token l = Decides l.fields (place_view l.end) l.tokens (state_view l.state) l.token-index
