use Rattle.std.proofs.Common.{inl, inr, refl}
use Rattle.lucene_lang.specs.Meaning.{selects}
use Rattle.lucene_read.proofs.Refusing.{as_query, as_refusal, is_or_not, same_refusal}
use Rattle.lucene_read.proofs.language.LuceneReaderLanguage.law.Goals as goal

pub returns-clause-one_refusal : goal.returns-clause-one_refusal
returns-clause-one_refusal c = λ limits schema bytes places r s first second.
    same_refusal limits schema bytes places r s (λ f g. c.one_refusal.ensures.bytes limits.lucene_depth schema bytes f g) first second

pub returns-clause-decided : goal.returns-clause-decided
returns-clause-decided c = λ limits schema bytes places short. elim (c.query_or_refusal.ensures.bytes limits.lucene_depth schema bytes) [
  | inl h ↦ inl (
    h.0,
    as_query limits.lucene_depth schema bytes h.0 h.1,
    record { short = short; reads = h.1 },
    λ r refused. c.no_refused_query.ensures.bytes limits.lucene_depth schema bytes h.0 _ h.1 refused.first,
  )
  | inr h ↦ inr (as_refusal h.0, record { first = h.1; plain = refl })
]

pub returns-clause-picks : goal.returns-clause-picks
returns-clause-picks c = λ query row. is_or_not (selects row query)
