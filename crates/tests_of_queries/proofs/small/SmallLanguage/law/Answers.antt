use Rattle.std.proofs.Common.{inl, inr, sym, ◌∙◌, refl, chars}
use Rattle.std.proofs.lemmas.Option.{same_Some}
use Rattle.std.specs.Str.{is_utf8}
use Rattle.event_schema.specs.Rows.{field_values, first_value}
use Rattle.tests_of_queries.proofs.OnePattern.{decided, found_or_not}
use Rattle.tests_of_queries.proofs.small.SmallLanguage.law.Goals as goal

pub returns-clause-picks : goal.returns-clause-picks
returns-clause-picks c = λ pattern row. found_or_not pattern (first_value (field_values row 0))

pub returns-clause-one_refusal : goal.returns-clause-one_refusal
returns-clause-one_refusal c = λ limits schema bytes places r s first second. same_Some r s (sym first ∙ second)

pub returns-clause-decided : goal.returns-clause-decided
returns-clause-decided c = λ limits schema bytes places short. elim (decided (is_utf8 bytes) places) [
  | inl h ↦ inl (chars bytes, (h.0, refl), tt, h.1)
  | inr h ↦ inr h
]
