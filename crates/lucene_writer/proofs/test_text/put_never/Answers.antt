use Rattle.lucene_writer.proofs.Rows.{never_put}
use Rattle.lucene_writer.proofs.test_text.put_never.Goals as goal

pub returns-clause-ok : goal.returns-clause-ok
returns-clause-ok c =
    never_put c.args.out.now c.put_if.new.out c.put.new.out c.put_if-2.new.out c.args.at c.is_alone-enclosed.result c.is_alone-enclosed.ensures
    c.in_ok-put_if.ensures.ok c.in_ok-put.ensures.ok c.in_ok-put_if-2.ensures.ok
