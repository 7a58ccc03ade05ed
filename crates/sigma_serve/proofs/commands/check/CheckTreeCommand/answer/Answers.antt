use Rattle.std.proofs.Common.{◌≡◌, ◌∙◌, ap, true, false, [], Ok, Err}
use Rattle.answer_writer.specs.Lines.{ended}
use Rattle.answer_writer.specs.Parts.{text_share}
use Rattle.sig_base.specs.declared.refusal.Fault.TheVariants.{Memory, Refused}
use Rattle.sig_base.specs.declared.refusal.Place.{Place}
use Rattle.sigma_serve.proofs.Judged.{Checked}
use Rattle.sigma_serve.proofs.Trees.{tree_wrote, tree_memory}
use Rattle.sigma_serve.specs.Check.{CheckGives, accepted, refused}
use Rattle.sigma_serve.specs.Reports.{ok_line, refusal_share}
use Rattle.yaml_tree.specs.View.{node_view}
use Rattle.sigma_serve.proofs.commands.check.CheckTreeCommand.answer.Goals as goal

pub returns-in-Ok-ok_text : goal.returns-in-Ok-ok_text
returns-in-Ok-ok_text g c =
    let limits = c.args.limits.now in
    let t = node_view c.args.node.now in
    tree_wrote (CheckGives limits) limits [] c.args.name.now t (Checked limits t (Ok c.in-Ok.place)) (λ share. share ≡ text_share c.as_bytes.result.now)
    (g.B.Builder.refused c.args.builder.now) (g.B.Builder.refused c.check_document.new.builder) c.put_text.result (g.W.Outside.state c.args.outside.now) (g.W.Outside.state c.put_text.new.outside) c.in-Ok.ensures
    (λ unbuilt is_so share is. accepted is_so.0 (is ∙ ap text_share (c.as_bytes.ensures.value ∙ (c.in-Ok-ok_text.ensures ∙ ap (λ (p : Place). ended (ok_line c.args.name.now p)) is_so.1)))) c.put_text.ensures

pub returns-in-Err : goal.returns-in-Err
returns-in-Err g c =
    let limits = c.args.limits.now in
    let t = node_view c.args.node.now in
    tree_memory (CheckGives limits) limits [] c.args.name.now t (Checked limits t (Ok c.in-Ok.place)) (c.each_tree.ensures limits) (g.B.Builder.refused c.args.builder.now)
    (g.B.Builder.refused c.check_document.new.builder) true c.in-Ok.ensures (g.W.Outside.state c.args.outside.now)

pub returns-in-Err-Memory : goal.returns-in-Err-Memory
returns-in-Err-Memory g c =
    let limits = c.args.limits.now in
    let found = rw c.in-Err-Memory.field-0-is at c.in-Err-Memory.ensures in
    let t = node_view c.args.node.now in
    tree_memory (CheckGives limits) limits [] c.args.name.now t (Checked limits t (Err Memory)) (c.each_tree.ensures limits) (g.B.Builder.refused c.args.builder.now)
    (g.B.Builder.refused c.check_document.new.builder) false found (g.W.Outside.state c.args.outside.now)

pub returns-in-Err-Refused : goal.returns-in-Err-Refused
returns-in-Err-Refused g c =
    let limits = c.args.limits.now in
    let t = node_view c.args.node.now in
    let found = rw c.in-Err-Refused.field-0-is at c.in-Err-Refused.ensures in
    tree_wrote (CheckGives limits) limits [] c.args.name.now t (Checked limits t (Err (Refused c.in-Err-Refused.refusal))) (λ share. share ≡ refusal_share c.args.name.now c.in-Err-Refused.refusal)
    (g.B.Builder.refused c.args.builder.now) (g.B.Builder.refused c.check_document.new.builder) c.put_refusal.result (g.W.Outside.state c.args.outside.now) (g.W.Outside.state c.put_refusal.new.outside) found
    (λ unbuilt refused_so share is. refused c.in-Err-Refused.refusal refused_so is) c.put_refusal.ensures
