use Rattle.std.proofs.Common.{◌∙◌, ap}
use Rattle.lucene_lang.specs.View.{atom_view}
use Rattle.lucene_read.specs.declared.partial.Now.{Now}
use Rattle.lucene_read.specs.Steps.{ends}
use Rattle.lucene_read.specs.View.{place_view, now_view, level_view, levels_view, wrong_view}
use Rattle.lucene_read.proofs.Levels.{not_ended, refused_as}
use Rattle.lucene_read.proofs.query.finish.Goals as goal

pub returns-then-not-is_empty : goal.returns-then-not-is_empty
returns-then-not-is_empty c =
    let s = c.args.state in
    refused_as c.refused-then-not-is_empty.result 130 c.args.end _ c.refused-then-not-is_empty.ensures
    (ap (λ (n : Now). ends (now_view n) (level_view s.level) (levels_view s.outer.items) (wrong_view s.wrong) (place_view c.args.end)) c.in-Whole.is
    ∙ not_ended (atom_view c.in-Whole.atom) (level_view s.level) s.outer.items _ c.is_empty.result (wrong_view s.wrong) (place_view c.args.end) s.outer.ok.0 c.is_empty.ensures c.if-not-is_empty.true)
