-- The places that refusals have, as places in a text.
use Rattle.std.specs.Prelude.{Option, Some, None}
use Rattle.sig_base.specs.declared.refusal.Place.{Place}
use Rattle.query_tokens.specs.Places.{At}

abbrev pub place_view : Place → At
place_view p = record { line = p.line; column = p.column }

abbrev pub place_if : Option Place → Option At
place_if None = None
place_if (Some p) = Some (place_view p)
