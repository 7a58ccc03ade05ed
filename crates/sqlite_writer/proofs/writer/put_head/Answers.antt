use Rattle.std.proofs.Common.{List, ℕ, ◌≡◌, ◌++◌, subst}
use Rattle.std.specs.Prelude.{codes}
use Rattle.sql_layout.specs.Layout.{in_quotes}
use Rattle.sqlite_writer.proofs.Whole.{three_pieces}
use Rattle.sqlite_writer.proofs.writer.put_head.Goals as goal

pub returns-clause-ok : goal.returns-clause-ok
returns-clause-ok c =
    let table = c.args.schema.now.table in
    three_pieces c.args.out.now (codes "SELECT * FROM ") (in_quotes 34 table) (codes " WHERE ") c.put.new.out c.put_name.new.out c.put-2.new.out
    c.in_ok-put.ensures.ok
    (subst (λ (name : List ℕ). c.put_name.new.out ≡ c.put.new.out ++ in_quotes 34 name) c.as_str.ensures.chars c.in_ok-put_name.ensures.ok)
    c.in_ok-put-2.ensures.ok
