use Rattle.std.specs.Str.{chars}
use Rattle.sig_encode.proofs.ReadLemmas.{whole_read, parted_read}
use Rattle.sig_encode.proofs.network_text.network_in.Goals as goal

pub returns-in-Some : goal.returns-in-Some
returns-in-Some c =
    parted_read (chars c.args.text.now) (chars c.in-Some.address.now) (chars c.in-Some.prefix.now) c.parted.result c.in-Some.ensures.0 c.in-Some.ensures.1 c.parted.ensures

pub returns-in-None : goal.returns-in-None
returns-in-None c = whole_read (chars c.args.text.now) c.whole.result c.in-None.ensures c.whole.ensures
