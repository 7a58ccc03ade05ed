use Rattle.std.proofs.Common.{sym, ◌∙◌, map-id}
use Rattle.std.specs.Str.{chars}
use Rattle.std.proofs.lemmas.Iterator.{YieldsList-from_chars}
use Rattle.std.proofs.lemmas.Iterator.Consumers.{YieldsList-end}
use Rattle.lucene_read.proofs.Digits.{all_read}
use Rattle.lucene_read.proofs.numbers.magnitude.Goals as goal

pub returns : goal.returns
returns c =
    let end = YieldsList-end (YieldsList-from_chars c.args.digits.now c.utf8.digits cc) c.loop-c.yielded _ c.loop-c.yielded_by _ _ c.in-None.is c.next.ensures.steps in
    all_read c.loop-c.yielded (chars c.args.digits.now) c.loop-c.value c.bounded.result c.loop-c.invariant.reads (sym (map-id c.loop-c.yielded) ∙ end.0) c.bounded.ensures
