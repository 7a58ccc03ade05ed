use Rattle.modifier_windash.proofs.Writing.{none_left, written}
use Rattle.modifier_windash.proofs.laws.choices_are_written.Goals as goal

pub returns-clause-no_dash : goal.returns-clause-no_dash
returns-clause-no_dash c = λ parts. none_left parts

pub returns-clause-written : goal.returns-clause-written
returns-clause-written c = λ parts all. written parts all
