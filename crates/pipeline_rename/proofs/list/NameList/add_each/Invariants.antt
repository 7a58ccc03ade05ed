use Rattle.std.proofs.Common.{◌≡◌, drop}
use Rattle.pipeline_rename.specs.Known.{AreKnownIfMany}
use Rattle.pipeline_rename.specs.Names as spec
use Rattle.pipeline_rename.proofs.list.NameList.add_each.Given as goal

abbrev pub invariant-loop-front : goal.invariant-loop-front
invariant-loop-front l = record {
  known : AreKnownIfMany l.self.names.items l.self.known;
  added : spec.with_names l.self.names.items (spec.each_before (drop l.front-index l.prefixes) l.back) ≡ spec.with_names l.initial.self.names.items (spec.each_before l.prefixes l.back);
}
