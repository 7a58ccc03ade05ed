use Rattle.sigma_serve.proofs.Wording.{accepted_if, unaccepted_if}
use Rattle.sigma_serve.proofs.words.read_words.Goals as goal

pub returns-clause-accepted : goal.returns-clause-accepted
returns-clause-accepted c = accepted_if c.args.words.now c.read_exactly.result c.read_exactly.ensures

pub returns-clause-unaccepted : goal.returns-clause-unaccepted
returns-clause-unaccepted c = unaccepted_if c.args.words.now c.read_exactly.result c.read_exactly.ensures
