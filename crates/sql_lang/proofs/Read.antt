-- What is read is one expression.
use Rattle.std.proofs.Common.{ℕ, ◌≡◌, sym, ◌∙◌, ap, List, subst}
use Rattle.std.proofs.lemmas.Str.{chars-encodes}
use Rattle.std.specs.Str.{chars}
use Rattle.sql_lang.specs.Grammar.{Query}
use Rattle.event_schema.specs.declared.schema.Schema.{Schema}
use Rattle.sql_lang.specs.Expression.{Expr, or_expr}
use Rattle.sql_lang.specs.Reading.{SqlReads, Reads}
use Rattle.sql_lang.proofs.Complete.{one_spelled}

pub one_expression : (schema : Schema) (cs : List ℕ) (e f : Expr) → SqlReads schema cs e → SqlReads schema cs f → e ≡ f
one_expression schema cs e f r s =
    let same : r.query ≡ s.query = one_spelled r.query s.query (r.spelled ∙ sym s.spelled) in
    r.means ∙ (ap (λ (q : Query). or_expr schema.fields q.condition) same ∙ sym s.means)

same_characters : (schema : Schema) (bytes : List ℕ) (e f : Expr) (r : Reads schema bytes e) (s : Reads schema bytes f) → r.characters ≡ s.characters
same_characters schema bytes e f r s =
    sym (chars-encodes r.characters r.scalars) ∙ (ap chars (sym r.encoded ∙ s.encoded) ∙ chars-encodes s.characters s.scalars)

pub one_reading_of : (schema : Schema) (bytes : List ℕ) (e f : Expr) → Reads schema bytes e → Reads schema bytes f → e ≡ f
one_reading_of schema bytes e f r s =
    let same = same_characters schema bytes e f r s in
    one_expression schema s.characters e f (subst (λ (cs : List ℕ). SqlReads schema cs e) same r.reads) s.reads
