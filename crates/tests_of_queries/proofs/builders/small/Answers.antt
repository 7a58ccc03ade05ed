use Rattle.std.proofs.Common.{refl}
use Rattle.std.specs.Str.{chars}
use Rattle.tests_of_queries.proofs.builders.small.Goals as goal

pub text-requires : goal.text-requires
unfolding chars
text-requires c = (refl, refl)
