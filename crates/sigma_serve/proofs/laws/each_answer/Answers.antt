use Rattle.sigma_serve.proofs.Correlating.{each_correlated}
use Rattle.sigma_serve.proofs.RequestLaws as laws
use Rattle.sigma_serve.proofs.Named.{by_name, AreDecided, EachAsked, each_named}
use Rattle.sigma_serve.proofs.Ran.{each_ran}
use Rattle.sigma_serve.proofs.Selected.{every_selected}
use Rattle.sigma_serve.proofs.laws.each_answer.Goals as goal

pub returns-clause-document : goal.returns-clause-document
returns-clause-document c = laws.both_documents c.lone_rules.ensures.each

pub returns-clause-file : goal.returns-clause-file
returns-clause-file c = laws.both_files c.lone_rules.ensures.each c.verdicts.ensures.each

pub returns-clause-converted : goal.returns-clause-converted
returns-clause-converted c = laws.each_converted (laws.both_files c.lone_rules.ensures.each c.verdicts.ensures.each)

pub returns-clause-ran : goal.returns-clause-ran
returns-clause-ran c = each_ran c.one_run.ensures.each (every_selected c.matches_or_not.ensures)

pub returns-clause-queried : goal.returns-clause-queried
returns-clause-queried c =
    each_named c.asked_once.ensures.places (by_name EachAsked c.asked_once.ensures.each c.asked_once-2.ensures.each) (by_name AreDecided c.law.ensures.picks c.law-2.ensures.picks)

pub returns-clause-selected : goal.returns-clause-selected
returns-clause-selected c = every_selected c.matches_or_not.ensures

pub returns-clause-correlated : goal.returns-clause-correlated
returns-clause-correlated c = each_correlated c.one_binding.ensures.each c.one_follower.ensures.each

pub returns-clause-request : goal.returns-clause-request
returns-clause-request c =
    laws.each_answer c.lone_rules.ensures.each c.verdicts.ensures.each c.one_outcome.ensures.each c.one_outcome.ensures.pipelines c.one_outcome.ensures.never_both (each_ran c.one_run.ensures.each (every_selected c.matches_or_not.ensures))
    (each_named c.asked_once.ensures.places (by_name EachAsked c.asked_once.ensures.each c.asked_once-2.ensures.each) (by_name AreDecided c.law.ensures.picks c.law-2.ensures.picks))
    (each_correlated c.one_binding.ensures.each c.one_follower.ensures.each) c.one_outcome-2.ensures.file c.generated_lines.ensures.some
