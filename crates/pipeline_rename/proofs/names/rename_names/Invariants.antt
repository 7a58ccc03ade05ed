use Rattle.std.proofs.Common.{◌≡◌, [], drop}
use Rattle.std.specs.List.{flat_map}
use Rattle.pipeline_rename.specs.Known.{AreKnownIfMany}
use Rattle.pipeline_rename.specs.Names as spec
use Rattle.pipeline_rename.proofs.names.rename_names.Given as goal

abbrev pub invariant-loop-name : goal.invariant-loop-name
invariant-loop-name l = record {
  known : AreKnownIfMany l.list.names.items l.list.known;
  added : spec.with_names l.list.names.items (flat_map (spec.names_for l.renaming.step.now) (drop l.name-index l.names))
      ≡ spec.with_names [] (flat_map (spec.names_for l.renaming.step.now) l.names);
}
