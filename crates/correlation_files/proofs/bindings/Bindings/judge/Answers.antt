use Rattle.std.proofs.Common.{map}
use Rattle.correlation_read.specs.Binding.{names_of_head}
use Rattle.correlation_files.proofs.Binds.{bound_added, unbound_added}
use Rattle.correlation_files.proofs.bindings.Bindings.judge.Goals as goal

pub returns-in-Ok-clause-judged : goal.returns-in-Ok-clause-judged
returns-in-Ok-clause-judged c = λ k judged kept so_far.
    bound_added (map names_of_head c.args.heads.now) c.args.schema.now.fields k c.args.sourced.now judged c.args.self.now c.add_bound.new.self kept so_far c.in-Ok.bound c.add_bound.result
    c.bounds_are_within.ensures.bound c.add_bound.ensures.bounds c.add_bound.ensures.names c.add_bound.ensures.unbound c.in-Ok.ensures.bound

pub returns-in-Err-Refused-clause-judged : goal.returns-in-Err-Refused-clause-judged
returns-in-Err-Refused-clause-judged c = λ k judged kept so_far.
    unbound_added (map names_of_head c.args.heads.now) c.args.schema.now.fields k c.args.sourced.now judged c.args.self.now c.add_unbound.new.self kept so_far c.in-Err-Refused.refusal c.add_unbound.result
    c.add_unbound.ensures.bounds c.add_unbound.ensures.names (rw c.in-Err-Refused.field-0-is at c.add_unbound.ensures.unbound) (rw c.in-Err-Refused.field-0-is at c.in-Err-Refused.ensures.bound)
