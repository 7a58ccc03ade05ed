use Rattle.std.proofs.Common.{◌+◌, ◌≤◌, length, refl, arith, subst, sym, Err}
use Rattle.sig_base.specs.declared.refusal.Fault.TheVariants.{Refused}
use Rattle.query_read.proofs.Asking.{Asks, too_many, asks}
use Rattle.query_read.proofs.file_query.read_query.Goals as goal

pub returns-then-bytes-limits-clause-answers : goal.returns-then-bytes-limits-clause-answers
returns-then-bytes-limits-clause-answers g c =
    rw c.refused.ensures (too_many g.L.Language.plain g.L.Language.is_query g.L.Language.is_within g.L.Language.refuses c.args.limits.now c.args.schema.now c.args.bytes.now
    (g.L.Language.patterns c.args.bytes.now) (g.B.Builder.refused c.args.builder.now) (g.B.Builder.refused c.args.builder.now) c.if-bytes-limits.true refl)

pub returns-clause-answers : goal.returns-clause-answers
returns-clause-answers g c =
    let few : length c.args.bytes.now ≤ c.args.limits.now.query_bytes + 1 = omega (arith, c.if-bytes-limits.false) in
    asks g.L.Language.plain g.L.Language.is_query g.L.Language.is_within g.L.Language.refuses c.args.limits.now c.args.schema.now c.args.bytes.now
    (g.L.Language.patterns c.args.bytes.now) (g.B.Builder.refused c.args.builder.now) (g.B.Builder.refused c.read.new.builder) few c.read.result c.read.ensures.answers

pub returns-clause-large : goal.returns-clause-large
returns-clause-large g c large = absurd (omega (arith, large, c.if-bytes-limits.false))
