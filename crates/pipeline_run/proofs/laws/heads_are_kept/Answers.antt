use Rattle.pipeline_run.proofs.Heads.{head_stays, with_made, with_refused}
use Rattle.pipeline_run.proofs.laws.heads_are_kept.Goals as goal

pub returns : goal.returns
returns c = record {
  head = head_stays;
  made = λ limits ps rest rule made is. with_made rest limits ps rule made is;
  refused = λ limits ps rest rule r is. with_refused rest limits ps rule r is;
}
