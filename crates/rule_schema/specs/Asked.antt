-- What is asked of fields, as the code keeps it.
use Rattle.std.specs.Prelude.{◌||◌}
use Rattle.rule_schema.specs.Kinds.{Asks}
use Rattle.rule_schema.specs.declared.kinds.Asked.{Asked}

abbrev pub asks_view : Asked → Asks
asks_view a = record { whole = a.whole; address = a.address }

-- what is asked here or there
abbrev pub either_asks : Asks → Asks → Asks
either_asks a b = record { whole = a.whole || b.whole; address = a.address || b.address }
