use Rattle.std.proofs.Common.{◌≡◌, take, map}
use Rattle.correlation_read.specs.Sources as sources
use Rattle.correlation_read.proofs.bindings.find_sources.Given as goal

abbrev pub invariant-loop-name : goal.invariant-loop-name
invariant-loop-name l = l.all.items ≡ map (sources.source_of l.fields l.aliases) (take l.name-index l.names)
