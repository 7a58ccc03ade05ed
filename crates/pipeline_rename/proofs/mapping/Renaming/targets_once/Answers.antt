use Rattle.std.proofs.Common.{◌∙◌}
use Rattle.pipeline_rename.specs.Made.{texts_made, pairs_in}
use Rattle.pipeline_rename.specs.Names.{targets}
use Rattle.pipeline_rename.proofs.Once.{adds_as, mapped_adds, prefixed_adds, keys_are, once_used}
use Rattle.pipeline_rename.proofs.mapping.Renaming.targets_once.Goals as goal

pub mapped-requires : goal.mapped-requires
mapped-requires c =
    keys_are c.args.self.now.keys c.as_slice.result.now (pairs_in c.args.self.now.step.now.action) c.args.self.now.indexed (once_used c.args.self.now.used _ (pairs_in c.args.self.now.step.now.action) c.requires (c.as_slice.ensures.value ∙ c.args.self.now.distinct))

pub prefixed-requires : goal.prefixed-requires
prefixed-requires c =
    keys_are c.args.self.now.keys c.as_slice-in-MapPrefixes.result.now (pairs_in c.args.self.now.step.now.action) c.args.self.now.indexed
    (once_used c.args.self.now.used _ (pairs_in c.args.self.now.step.now.action) c.requires (c.as_slice-in-MapPrefixes.ensures.value ∙ c.args.self.now.distinct))

pub returns-in-MapNames-clause-ok : goal.returns-in-MapNames-clause-ok
returns-in-MapNames-clause-ok c =
    adds_as texts_made c.mapped.result _ (targets c.args.self.now.step.now.action c.args.name.now)
    (mapped_adds c.args.self.now.step.now.action c.as_slice.result.now _ c.args.name.now c.in-MapNames.is (once_used c.args.self.now.used _ (pairs_in c.args.self.now.step.now.action) c.requires (c.as_slice.ensures.value ∙ c.args.self.now.distinct))) c.mapped.ensures.ok

pub returns-in-MapPrefixes-clause-ok : goal.returns-in-MapPrefixes-clause-ok
returns-in-MapPrefixes-clause-ok c =
    adds_as texts_made c.prefixed.result _ (targets c.args.self.now.step.now.action c.args.name.now)
    (prefixed_adds c.args.self.now.step.now.action c.as_slice-in-MapPrefixes.result.now _ c.args.name.now c.in-MapPrefixes.is
    (once_used c.args.self.now.used _ (pairs_in c.args.self.now.step.now.action) c.requires (c.as_slice-in-MapPrefixes.ensures.value ∙ c.args.self.now.distinct))) c.prefixed.ensures.ok
