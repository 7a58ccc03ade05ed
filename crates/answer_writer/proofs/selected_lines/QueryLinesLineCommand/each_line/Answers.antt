use Rattle.answer_writer.proofs.Selected.{each_selected}
use Rattle.answer_writer.proofs.selected_lines.QueryLinesLineCommand.each_line.Goals as goal

pub returns : goal.returns
returns g c =
    let query = g.S.Selector.plain c.args.self.now.selector.now in
    each_selected c.args.self.now.schema.now (g.S.Selector.picks query) (λ row. c.law.ensures query row)
