-- Events as they come.
use Rattle.correlation_windows.specs.History.{Taken}
use Rattle.correlation_engine.specs.declared.arrival.Arrival.{Arrival}

-- the event that is taken
abbrev pub taken : Arrival → Taken
taken a = record { line = a.line; moment = a.moment; hits = a.hits.now; values = a.event.now.values }
