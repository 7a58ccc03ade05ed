use Rattle.query_read.proofs.Asking.{some_places, each_asked, never_both, one_cause}
use Rattle.query_read.proofs.laws.asked_once.Goals as goal

pub returns-clause-places : goal.returns-clause-places
returns-clause-places g c = some_places

pub returns-clause-each : goal.returns-clause-each
returns-clause-each g c = each_asked _ _ _ c.law.ensures.decided

pub returns-clause-never_both : goal.returns-clause-never_both
returns-clause-never_both g c = never_both _ _ _

pub returns-clause-query : goal.returns-clause-query
returns-clause-query g c = λ limits schema places bytes p q asked asked_too. c.law.ensures.one_query schema bytes p q asked.reads asked_too.reads

pub returns-clause-cause : goal.returns-clause-cause
returns-clause-cause g c = one_cause _ _ _ c.law.ensures.one_refusal
