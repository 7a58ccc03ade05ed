use Rattle.yaml_documents.proofs.Judging.{one_list, one_refusal}
use Rattle.yaml_documents.proofs.laws.one_verdict.Goals as goal

pub returns-clause-list : goal.returns-clause-list
returns-clause-list c = one_list

pub returns-clause-refusal : goal.returns-clause-refusal
returns-clause-refusal c = one_refusal
