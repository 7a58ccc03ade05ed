use Rattle.sigma_serve.proofs.RequestLaws as laws
use Rattle.sigma_serve.proofs.Named.{by_name, NeverBoth, OneQuery, OneCause, one_named}
use Rattle.sigma_serve.proofs.Ran.{one_ran}
use Rattle.sigma_serve.proofs.Selected.{every_one}
use Rattle.sigma_serve.proofs.laws.one_answer.Goals as goal

pub returns : goal.returns
returns c =
    let files = laws.one_files c.lone_rules.ensures.one c.verdicts.ensures.never_both c.one_verdict.ensures.list c.one_verdict.ensures.refusal in
    record {
      document = laws.one_documents c.lone_rules.ensures.one;
      file = files;
      request = laws.one_answer c.one_outcome.ensures.pipelines c.one_outcome.ensures.causes c.one_outcome.ensures.never_both files (one_ran c.one_run.ensures.never_both c.one_run.ensures.one c.one_run.ensures.cause every_one)
          (one_named (by_name NeverBoth c.asked_once.ensures.never_both c.asked_once-2.ensures.never_both) (by_name OneQuery c.asked_once.ensures.query c.asked_once-2.ensures.query)
          (by_name OneCause c.asked_once.ensures.cause c.asked_once-2.ensures.cause)) c.one_outcome-2.ensures.one_file c.one_binding.ensures.one c.one_follower.ensures.one c.generated_lines.ensures.one;
    }
