use Rattle.std.proofs.Common.{List, ℕ, ◌≡◌, ◌∙◌, sym, ap, subst}
use Rattle.std.specs.Prelude.{encode_utf8_all}
use Rattle.backend_core.specs.View.{tree_view}
use Rattle.sqlite_writer.specs.Queries.{query_text, query_bytes, IsQueryOf}
use Rattle.sqlite_writer.proofs.writer.Sqlite.written.Goals as goal

pub returns-clause-law : goal.returns-clause-law
returns-clause-law c = λ sound found none limit some deep.
    let schema = c.args.schema.now in
    let t = tree_view c.args.tree.now in
    let is : c.in_ok-query.query ≡ query_text schema t = c.in_ok-query.ensures.sound t c.in_ok-written.ensures.ok sound in
    let bytes : c.from_vec.result ≡ query_bytes schema t = c.from_vec.ensures ∙ (c.into_bytes.ensures ∙ ap encode_utf8_all is) in
    subst (λ (b : List ℕ). IsQueryOf limit schema t b) (sym bytes) (c.tree_is_query.ensures limit schema t found sound none some deep)
