-- What is answered for a text that is too long.
use Rattle.sig_base.specs.declared.refusal.Place.{Place}
use Rattle.sig_base.specs.declared.refusal.Detail.TheVariants.{None}
use Rattle.sig_base.specs.declared.refusal.Fault.{Fault}
use Rattle.sig_base.specs.declared.refusal.Fault.TheVariants.{Refused}

-- code 49, at this place
abbrev pub too_long : Place → Fault
too_long place = Refused (record { code = 49; place = place; detail = None })
