use Rattle.modifier_values.proofs.DashPlaces.{places}
use Rattle.modifier_values.proofs.laws.dash_places_are_counted.Goals as goal

pub returns : goal.returns
returns c = places
