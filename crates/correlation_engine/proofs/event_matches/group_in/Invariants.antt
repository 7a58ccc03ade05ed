use Rattle.std.proofs.Common.{◌≡◌}
use Rattle.std.specs.Prelude.{drop}
use Rattle.correlation_windows.specs.History.{group_by}
use Rattle.correlation_engine.proofs.Grouping.{behind}
use Rattle.correlation_engine.proofs.event_matches.group_in.Given as goal

abbrev pub invariant-loop-field : goal.invariant-loop-field
invariant-loop-field l = group_by l.event.values l.fields ≡ behind l.texts (group_by l.event.values (drop l.field-index l.fields))
