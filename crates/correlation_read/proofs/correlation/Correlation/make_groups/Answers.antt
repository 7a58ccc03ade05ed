use Rattle.std.proofs.Common.{◌∙◌}
use Rattle.correlation_read.specs.Correlations.{correlation_view}
use Rattle.correlation_read.proofs.Groups.{groups_ok}
use Rattle.correlation_read.proofs.correlation.Correlation.make_groups.Goals as goal

pub returns-clause-ok : goal.returns-clause-ok
returns-clause-ok c =
    groups_ok c.args.fields.now (correlation_view c.args.self.now) c.args.names.now c.deref.result.now c.as_slice-aliases.result.now c.as_slice.result.now c.as_slice-2.result.now
    c.groups_from.result c.requires.names c.as_slice-aliases.ensures c.as_slice.ensures c.as_slice-2.ensures (c.deref.ensures.value ∙ c.in_ok-all.ensures.ok)
    c.groups_from.ensures.ok
