use Rattle.sql_lang.proofs.Rises.{places_rise_of, not_before_itself}
use Rattle.sql_lang.proofs.laws.places_rise.Goals as goal

pub returns : goal.returns
returns c = record { rising = places_rise_of; apart = not_before_itself }
