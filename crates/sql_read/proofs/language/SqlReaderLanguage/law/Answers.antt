use Rattle.std.proofs.Common.{inl, inr, refl}
use Rattle.event_schema.specs.Rows.{first_values}
use Rattle.sql_lang.specs.Meaning.{sql_value}
use Rattle.sql_read.proofs.Deciding.{as_query, as_refusal, same_refusal, yes_or_not}
use Rattle.sql_read.proofs.language.SqlReaderLanguage.law.Goals as goal

pub returns-clause-one_refusal : goal.returns-clause-one_refusal
returns-clause-one_refusal c = λ limits schema bytes places r s first second.
    same_refusal limits schema bytes places r s (λ f g. c.one_refusal.ensures.bytes limits.sql_depth schema places bytes f g) first second

pub returns-clause-decided : goal.returns-clause-decided
returns-clause-decided c = λ limits schema bytes places short. elim (c.query_or_refusal.ensures.bytes limits.sql_depth schema places bytes) [
  | inl h ↦ inl (
    h.0,
    as_query limits.sql_depth schema bytes h.0 h.1,
    record { short = short; reads = h.1 },
    λ r refused. h.2 _ refused.first,
  )
  | inr h ↦ inr (as_refusal h.0, record { first = h.1; plain = refl })
]

pub returns-clause-picks : goal.returns-clause-picks
returns-clause-picks c = λ query row. yes_or_not (sql_value query (first_values row))
