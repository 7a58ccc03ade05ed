use Rattle.std.proofs.Common.{◌≡◌, ◌≤◌, ◌+◌, ◌-◌, ◌^◌, min, drop}
use Rattle.sig_conditions.specs.Selectors as spec
use Rattle.sig_conditions.proofs.sizes.names_size.Given as goal

abbrev pub invariant-loop-name : goal.invariant-loop-name
invariant-loop-name l = record {
  most : l.sum ≤ 2 ^ 64 - 1;
  total : min (l.sum + spec.names_size (drop l.name-index l.names)) (2 ^ 64 - 1) ≡ min (spec.names_size l.names) (2 ^ 64 - 1);
}
