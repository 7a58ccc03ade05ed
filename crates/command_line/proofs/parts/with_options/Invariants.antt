use Rattle.std.proofs.Common.{◌≡◌, map, drop}
use Rattle.clap.specs.Simple.{app_of}
use Rattle.command_line.specs.Apps as apps
use Rattle.command_line.proofs.parts.with_options.Given as goal

-- what is left to add, added, gives what all give
abbrev pub invariant-loop-name : goal.invariant-loop-name
invariant-loop-name l = apps.with_options l.fn.required (map (λ s. s.now) (drop l.name-index l.names)) (app_of l.command)
    ≡ apps.with_options l.fn.required (map (λ s. s.now) l.fn.names) (app_of l.fn.command)
