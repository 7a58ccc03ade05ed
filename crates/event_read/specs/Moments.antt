-- Moments of events.
use Rattle.std.specs.Prelude.{ℤ, Option, Some, None, option_and_then}
use Rattle.serde_json.specs.Data.{Data}
use Rattle.event_time.specs.Moments.{moment_in}
use Rattle.event_read.specs.Paths.{found}
use Rattle.event_schema.specs.declared.schema.Time.{Time}

-- the moment of an event, if its schema has one and it is there
abbrev pub moment_of : Option Time → Data → Option ℤ
moment_of None d = None
moment_of (Some time) d = option_and_then (moment_in time.form) (found time.at d)
