use Rattle.sig_conditions.proofs.Sound.{is_condition, reads_condition}
use Rattle.sig_conditions.specs.Words.{words}
use Rattle.rule_model.proofs.laws.condition_of_text.Goals as goal

pub returns : goal.returns
returns c = record {
  sound = λ most text condition h. is_condition most (words text) condition h;
  complete = λ most text condition within reads. reads_condition most (words text) condition within reads;
}
