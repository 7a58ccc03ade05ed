use Rattle.std.proofs.Common.{Bool, ◌≡◌, ◌++◌, sym, subst}
use Rattle.std.specs.Prelude.{codes}
use Rattle.std.specs.Str.{chars}
use Rattle.sig_strings.specs.Edits.{plain_text}
use Rattle.sql_lang.specs.Grammar.{spell_test}
use Rattle.sql_layout.specs.Layout.{spaced}
use Rattle.sqlite_writer.specs.Guarded.{plain_test}
use Rattle.sqlite_writer.proofs.Doubled.{text_test}
use Rattle.sqlite_writer.proofs.test_text.put_plain.Goals as goal

pub returns-clause-ok : goal.returns-clause-ok
returns-clause-ok c =
    let field = chars c.args.field.now in
    let parts = c.args.parts.now in
    subst (λ (b : Bool). c.put-2.new.out ≡ c.args.out.now ++ spaced (spell_test (plain_test field b parts))) (sym c.if-cased.false)
    (text_test c.args.out.now c.put_name.new.out c.put.new.out c.put_characters.new.out c.put-2.new.out field (plain_text parts) (codes " = ") (codes " COLLATE NOCASE")
    c.in_ok-put_name.ensures.ok c.in_ok-put.ensures.ok c.in_ok-put_characters.ensures c.in_ok-put-2.ensures.ok)
