use Rattle.std.specs.Prelude.{[]}
use Rattle.tests_of_serve.proofs.following.found_in.Goals as goal

pub returns : goal.returns
returns g c = (_, _, c.in_ok-refusals.ensures.file.says.3 [] [] (c.new-found.ensures c.args.schema.now))
