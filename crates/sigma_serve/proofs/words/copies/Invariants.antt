use Rattle.std.proofs.Common.{◌≡◌, ◌++◌, drop, map}
use Rattle.std.specs.Str.{chars}
use Rattle.sigma_serve.proofs.words.copies.Given as goal

abbrev pub invariant-loop-name : goal.invariant-loop-name
invariant-loop-name l =
    l.all ++ map chars (map (λ s. s.now) (drop l.name-index l.names)) ≡ map chars (map (λ s. s.now) l.names)
