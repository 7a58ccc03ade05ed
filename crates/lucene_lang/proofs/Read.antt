-- What is read is one query.
use Rattle.std.proofs.Common.{ℕ, ◌≡◌, sym, ◌∙◌, ap, List, subst}
use Rattle.std.proofs.lemmas.Str.{chars-encodes}
use Rattle.std.specs.Str.{chars}
use Rattle.event_schema.specs.declared.schema.Schema.{Schema}
use Rattle.lucene_lang.specs.Grammar as grammar
use Rattle.lucene_lang.specs.Query.{Group, group_of}
use Rattle.lucene_lang.specs.Reading.{LuceneReads, Reads}
use Rattle.lucene_lang.proofs.Complete.{one_spelled}

one_query : (schema : Schema) (cs : List ℕ) (g h : Group) → LuceneReads schema cs g → LuceneReads schema cs h → g ≡ h
one_query schema cs g h r s =
    let same : r.query ≡ s.query = one_spelled r.query s.query (r.spelled ∙ sym s.spelled) in
    r.means ∙ (ap (λ (q : grammar.Group). group_of schema.fields q) same ∙ sym s.means)

same_characters : (schema : Schema) (bytes : List ℕ) (g h : Group) (r : Reads schema bytes g) (s : Reads schema bytes h) → r.characters ≡ s.characters
same_characters schema bytes g h r s =
    sym (chars-encodes r.characters r.scalars) ∙ (ap chars (sym r.encoded ∙ s.encoded) ∙ chars-encodes s.characters s.scalars)

pub one_reading_of : (schema : Schema) (bytes : List ℕ) (g h : Group) → Reads schema bytes g → Reads schema bytes h → g ≡ h
one_reading_of schema bytes g h r s =
    let same = same_characters schema bytes g h r s in
    one_query schema s.characters g h (subst (λ (cs : List ℕ). LuceneReads schema cs g) same r.reads) s.reads
