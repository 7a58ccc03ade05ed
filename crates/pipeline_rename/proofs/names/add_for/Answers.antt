use Rattle.std.proofs.Common.{◌≡◌, subst, IfErr}
use Rattle.std.specs.Prelude.{OnOk}
use Rattle.pipeline_rename.specs.Made.{AreUnfit}
use Rattle.pipeline_rename.proofs.names.add_for.Goals as goal

pub returns-clause-ok : goal.returns-clause-ok
returns-clause-ok c = subst (λ names. OnOk c.add_made.result (c.add_made.new.self.names.items ≡ names)) (c.in_ok-made.ensures.ok c.args.list.now.names.items) c.add_made.ensures.ok

pub returns-clause-unfit : goal.returns-clause-unfit
returns-clause-unfit c =
    subst (λ names. IfErr c.add_made.result (AreUnfit c.args.limit.place c.args.limit.names names)) (c.in_ok-made.ensures.ok c.args.list.now.names.items) c.add_made.ensures.unfit
