use Rattle.std.proofs.Common.{◌≡◌, [], drop}
use Rattle.pipeline_rename.specs.Known.{AreKnownIfMany}
use Rattle.pipeline_rename.specs.Names as spec
use Rattle.pipeline_rename.proofs.list.distinct.Given as goal

abbrev pub invariant-loop-text : goal.invariant-loop-text
invariant-loop-text l = record {
  known : AreKnownIfMany l.list.names.items l.list.known;
  added : spec.with_names l.list.names.items (drop l.text-index l.texts) ≡ spec.with_names [] l.texts;
}
