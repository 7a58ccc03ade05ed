use Rattle.rule_detections.proofs.test.Test.holds_of.Goals as goal

pub returns-in-Fits : goal.returns-in-Fits
returns-in-Fits c = rw c.in-Fits.is c.some_fits.ensures

pub returns-in-Equals : goal.returns-in-Equals
returns-in-Equals c = rw c.in-Equals.is c.some_is_number.ensures

pub returns-in-Compare : goal.returns-in-Compare
returns-in-Compare c = rw c.in-Compare.is c.some_stands.ensures
