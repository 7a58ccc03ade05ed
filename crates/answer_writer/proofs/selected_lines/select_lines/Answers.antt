use Rattle.std.proofs.Common.{[], true}
use Rattle.answer_writer.proofs.Lined.{each_answer}
use Rattle.answer_writer.specs.EventLines.{EventLines}
use Rattle.answer_writer.proofs.Answered.{same_name, answered}
use Rattle.answer_writer.proofs.Selected.{each_selected}
use Rattle.answer_writer.specs.Selected.{Selects}
use Rattle.answer_writer.proofs.selected_lines.select_lines.Goals as goal

-- where the lent reference ends, its value is the one that the asker left
pub returns : goal.returns
returns g c =
    let query = g.L.Language.plain c.args.query.now in
    let gives = Selects c.args.schema.now (g.L.Language.picks query) in
    let lines = EventLines gives c.args.limits.now in
    let each = each_answer gives c.args.limits.now (each_selected c.args.schema.now (g.L.Language.picks query) (λ row. c.law.ensures.picks query row)) in
    let asked = c.with_selector-answered.ensures.asked in
    let err = c.with_selector-answered.ensures.err in
    let name = same_name (λ a. a.outside.ghost_name) (λ a. g.W.Outside.state a.outside.now) (record { names = []; events = true }) lines _ c.with_selector-answered.new.asker c.with_selector-answered.result asked err in
    rw c.flat.ensures (rw (c.outside-1.given.1 name)
    (answered (λ a. a.outside.ghost_name) (λ a. g.W.Outside.state a.outside.now) (record { names = []; events = true }) lines _ c.with_selector-answered.new.asker each c.with_selector-answered.result asked err))
